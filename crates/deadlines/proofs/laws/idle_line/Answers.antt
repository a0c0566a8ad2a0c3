use Rattle.deadlines.proofs.Wholes.{keeps_line}
use Rattle.deadlines.proofs.laws.idle_line.Goals as goal

pub returns : goal.returns
returns c = record { keeps = keeps_line }
