use Rattle.requests.proofs.Turns.{after_column as after_column_lem}
use Rattle.requests.proofs.laws.after_column.Goals as goal

pub returns : goal.returns
returns c = record { requested = after_column_lem }
