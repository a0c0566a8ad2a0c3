use Rattle.pair_reports.proofs.Told.{tells, tells_all}
use Rattle.pair_reports.proofs.laws.tells_each_rank.Goals as goal

pub returns : goal.returns
returns c = record { lines = tells; all = tells_all }
