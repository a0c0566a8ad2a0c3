use Rattle.std.proofs.Common.{sym, ◌∙◌, ap, ◌∷◌, option_copied}
use Rattle.ddr_text.specs.Fields.{fields_after}
use Rattle.ddr_text.specs.ReportGrammar.{optional_field}
use Rattle.ddr_text.proofs.Cuts.{not-optional}
use Rattle.ddr_text.proofs.fields.optional_field.Goals as goal

pub returns-in-Some-rest : goal.returns-in-Some-rest
returns-in-Some-rest c =
    let first = c.cut.result.0.now in
    sym (ap (λ o. optional_field (fields_after (option_copied o))) c.in-Some.is
    ∙ ap optional_field c.cut.ensures
    ∙ ap (λ o. optional_field (first ∷ fields_after (option_copied o))) c.in-Some-rest.is
    ∙ not-optional first c.in-Some-rest.field-0.now)
