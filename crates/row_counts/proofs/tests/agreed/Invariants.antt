use Rattle.std.proofs.Common.{◌≡◌, ◌≤◌}
use Rattle.row_counts.proofs.tests.agreed.Given as goal

abbrev pub invariant-loop-step : goal.invariant-loop-step
invariant-loop-step l = record {
  rows : l.counts.order.rows ≡ 64;
  levels : 68 ≤ l.counts.order.levels;
  changes : l.counts.changes ≤ l.step;
}
