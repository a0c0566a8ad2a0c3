use Rattle.std.proofs.Common.{◌≡◌, ◌≤◌, ◌*◌, ◌^◌, suc}
use Rattle.row_counts.proofs.heights.height_by.Given as goal

abbrev pub invariant-loop-height : goal.invariant-loop-height
invariant-loop-height l = record {
  power : l.power ≡ l.cycle ^ suc l.height;
  limit : l.limit ≡ l.rows * l.spare ^ suc l.height;
  reached : l.cycle ^ l.height ≤ l.rows * l.spare ^ l.height;
}
