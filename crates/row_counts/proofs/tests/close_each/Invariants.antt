use Rattle.std.proofs.Common.{◌≡◌, ◌≤◌, ◌+◌}
use Rattle.row_counts.proofs.tests.close_each.Given as goal

abbrev pub invariant-loop-number : goal.invariant-loop-number
invariant-loop-number l = record {
  rows : l.counts.order.rows ≡ l.settings.rows;
  levels : l.counts.order.levels ≡ l.initial.counts.order.levels;
  changes : l.counts.changes ≤ l.initial.counts.changes + l.number-index;
}
