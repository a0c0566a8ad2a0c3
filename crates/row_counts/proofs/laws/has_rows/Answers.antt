use Rattle.row_counts.proofs.Steps.{has_row}
use Rattle.row_counts.proofs.laws.has_rows.Goals as goal

pub returns : goal.returns
returns c = record { row = has_row }
