use Rattle.std.proofs.Common.{◌∙◌, sym}
use Rattle.device_core.specs.Rows.{StandsFor}
use Rattle.device_core.proofs.StepLemmas.{row_inside}
use Rattle.device_core.proofs.activations.Activations.place.Goals as goal

pub returns-in-Some-clause-inside : goal.returns-in-Some-clause-inside
unfolding StandsFor
returns-in-Some-clause-inside c = λ h log s. row_inside c.args.self.now c.args.bank.now c.args.column c.in-Some.row h log c.requires s (sym (c.open_row.ensures log s.rows) ∙ c.in-Some.is)
