use Rattle.row_counts.proofs.Steps.{close_by_some, mitigate_by_some, row_by_some}
use Rattle.row_counts.proofs.laws.holds_by_some_log.Goals as goal

pub returns : goal.returns
returns c = record { close = close_by_some; mitigate = mitigate_by_some; row = row_by_some }
