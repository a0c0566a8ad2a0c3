use Rattle.std.proofs.Common.{sym, ◌∙◌, ap, ◌∷◌, option_copied}
use Rattle.ddr_text.specs.Grammar.{one_field}
use Rattle.ddr_text.specs.Fields.{fields_after}
use Rattle.ddr_text.proofs.Cuts.{not-one}
use Rattle.ddr_text.proofs.fields.one_field.Goals as goal

pub returns-in-Some-rest : goal.returns-in-Some-rest
returns-in-Some-rest c =
    let first = c.cut.result.0.now in
    sym (ap (λ o. one_field (fields_after (option_copied o))) c.in-Some.is
    ∙ ap one_field c.cut.ensures
    ∙ ap (λ o. one_field (first ∷ fields_after (option_copied o))) c.in-Some-rest.is
    ∙ not-one first c.in-Some-rest.field-0.now)
