use Rattle.std.proofs.Common.{◌≡◌}
use Rattle.row_order.proofs.tests.agreed.Given as goal

abbrev pub invariant-loop-step : goal.invariant-loop-step
invariant-loop-step l = (l.order.rows ≡ 64) × (l.order.levels ≡ 110)
