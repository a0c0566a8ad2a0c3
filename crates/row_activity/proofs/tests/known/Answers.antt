use Rattle.std.proofs.Common.{arith}
use Rattle.row_activity.specs.Trial.{one_row}
use Rattle.row_activity.proofs.tests.known.Goals as goal

pub count-count-requires : goal.count-count-requires
count-count-requires c = let r = c.requires in let first = c.row.ensures in ∣ (one_row, r.0, r.1, omega (arith, first)) ∣₁
