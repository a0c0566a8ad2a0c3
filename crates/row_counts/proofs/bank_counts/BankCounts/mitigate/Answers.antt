use Rattle.std.proofs.Common.{refl}
use Rattle.row_counts.proofs.Steps.{none_mitigated, some_mitigated, stands_mitigate, stands_spared}
use Rattle.row_counts.proofs.bank_counts.BankCounts.mitigate.Goals as goal

pub returns-then-count-self-clause-row_of_log : goal.returns-then-count-self-clause-row_of_log
returns-then-count-self-clause-row_of_log c = λ h b log stands.
    let held = rw (← c.self.view_is) at stands in
    none_mitigated _ h b c.tracked-row.result.1 log (c.tracked-row.ensures.count_of_log h b log stands) c.if-count-self.true held

pub returns-then-count-self-clause-log : goal.returns-then-count-self-clause-log
returns-then-count-self-clause-log c = λ h b clock command log stands manages.
    let held = rw (← c.self.view_is) at stands in
    stands_spared c.args.self.now h b clock command log (none_mitigated _ h b c.tracked-row.result.1 log (c.tracked-row.ensures.count_of_log h b log stands) c.if-count-self.true held) stands manages

pub returns-clause-row_of_log : goal.returns-clause-row_of_log
returns-clause-row_of_log c = λ h b log stands.
    let held = rw (← c.self.view_is) at stands in
    some_mitigated _ h b c.tracked-row.result.0 c.tracked-row.result.1 log (c.tracked-row.ensures.log h b log stands) (c.tracked-row.ensures.count_of_log h b log stands) c.if-count-self.false held

pub returns-clause-log : goal.returns-clause-log
returns-clause-log c = λ h b clock command log stands manages.
    let held = rw (← c.self.view_is) at stands in
    let inside = rw (← c.self.view_is) at c.tracked-row.ensures.inside in
    let may = rw (← c.self.view_is) at c.requires in
    stands_mitigate _ _ h b c.tracked-row.result.0 clock command log (record { ath = refl; eth = refl; rows = c.clear.ensures.sizes.0; levels = c.clear.ensures.sizes.1; changes = refl }) inside may c.clear.ensures.list
    (some_mitigated _ h b c.tracked-row.result.0 c.tracked-row.result.1 log (c.tracked-row.ensures.log h b log stands) (c.tracked-row.ensures.count_of_log h b log stands) c.if-count-self.false held) held manages
