use Rattle.std.proofs.Common.{◌∙◌, sym}
use Rattle.ddr_text.proofs.Cuts.{cut_found, cut_none}
use Rattle.ddr_text.proofs.fields.cut.Goals as goal

pub returns-in-Some : goal.returns-in-Some
returns-in-Some c = cut_found c.args.text.now c.in-Some.at (sym c.first_space.ensures.first ∙ c.in-Some.is)

pub returns-in-None : goal.returns-in-None
returns-in-None c = cut_none c.args.text.now (sym c.first_space.ensures.first ∙ c.in-None.is)
