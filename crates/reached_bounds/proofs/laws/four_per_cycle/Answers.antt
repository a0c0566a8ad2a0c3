use Rattle.reached_bounds.proofs.FourPerCycle.{one_row, two_rows, three_rows, four_rows, five_rows, seven_rows}
use Rattle.reached_bounds.proofs.laws.four_per_cycle.Goals as goal

pub returns : goal.returns
returns c = record {
  one_row = one_row;
  two_rows = two_rows;
  three_rows = three_rows;
  four_rows = four_rows;
  five_rows = five_rows;
  seven_rows = seven_rows;
}
