use Rattle.row_counts.proofs.Steps.{may_close, may_mitigate, has_rows}
use Rattle.row_counts.proofs.laws.may_change.Goals as goal

pub returns : goal.returns
returns c = record { close = may_close; mitigate = may_mitigate; rows = has_rows }
