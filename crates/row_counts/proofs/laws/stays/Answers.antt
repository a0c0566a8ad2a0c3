use Rattle.row_counts.proofs.Steps.{stands_same}
use Rattle.row_counts.proofs.laws.stays.Goals as goal

pub returns : goal.returns
returns c = record { log = stands_same }
