use Rattle.reached_bounds.proofs.FivePerCycle.{one_row, three_rows}
use Rattle.reached_bounds.proofs.laws.five_per_cycle.Goals as goal

pub returns : goal.returns
returns c = record {
  one_row = one_row;
  three_rows = three_rows;
}
