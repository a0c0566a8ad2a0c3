use Rattle.deadlines.proofs.Wholes.{keeps_start}
use Rattle.deadlines.proofs.laws.start.Goals as goal

pub returns : goal.returns
returns c = record { keeps = keeps_start }
