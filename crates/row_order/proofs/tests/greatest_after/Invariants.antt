use Rattle.std.proofs.Common.{◌≡◌}
use Rattle.row_order.proofs.tests.greatest_after.Given as goal

abbrev pub invariant-loop-number : goal.invariant-loop-number
invariant-loop-number l = (l.order.rows ≡ l.rows) × (l.order.levels ≡ 110)
