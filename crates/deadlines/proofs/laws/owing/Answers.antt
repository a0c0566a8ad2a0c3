use Rattle.deadlines.proofs.Stages.{owed_open}
use Rattle.deadlines.proofs.Wholes.{owed_waits}
use Rattle.deadlines.proofs.laws.owing.Goals as goal

pub returns : goal.returns
returns c = record { is_open = owed_open; waits = owed_waits }
