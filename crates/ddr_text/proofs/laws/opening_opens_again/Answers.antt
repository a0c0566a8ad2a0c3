use Rattle.ddr_text.proofs.Reopened.{reopens}
use Rattle.ddr_text.proofs.laws.opening_opens_again.Goals as goal

pub returns : goal.returns
returns c = record { opens = reopens }
