use Rattle.std.proofs.Common.{◌∙◌, sym}
use Rattle.row_activity.proofs.BankLemmas.{counts_closes, mitigates_manages}
use Rattle.row_activity.proofs.bank_rows.BankRows.follow.Goals as goal

pub returns-in-Some : goal.returns-in-Some
returns-in-Some c = λ h b clock command log stands same touch opened.
    c.close.ensures h b clock command log stands same (counts_closes _ (sym c.in-Counts.is ∙ touch)) (sym (sym c.in-Some.is ∙ opened))

pub returns-in-Mitigates : goal.returns-in-Mitigates
returns-in-Mitigates c = λ h b clock command log stands same touch opened.
    c.mitigate.ensures h b clock command log stands same (mitigates_manages _ (sym c.in-Mitigates.is ∙ touch))
