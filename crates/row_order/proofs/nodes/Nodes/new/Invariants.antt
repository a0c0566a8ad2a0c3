use Rattle.std.proofs.Common.{◌≡◌, ◌≤◌, vec_len, vec_capacity}
use Rattle.row_order.specs.Blocks.{naturals}
use Rattle.row_order.proofs.nodes.Nodes.new.Given as goal

abbrev pub invariant-levels : goal.invariant-levels
invariant-levels l = record {
  items : l.ends.items ≡ naturals l.rows l.rows l.level;
  long : vec_len l.ends ≡ l.level;
  room : l.levels ≤ vec_capacity l.ends;
}
