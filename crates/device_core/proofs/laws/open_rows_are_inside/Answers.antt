use Rattle.device_core.proofs.Rules.{open_inside}
use Rattle.device_core.proofs.laws.open_rows_are_inside.Goals as goal

pub returns : goal.returns
returns c = record { inside = open_inside }
