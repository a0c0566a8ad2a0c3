use Rattle.reached_bounds.proofs.ThreePerCycle.{one_row, two_rows, three_rows, four_rows, five_rows, six_rows, seven_rows}
use Rattle.reached_bounds.proofs.laws.three_per_cycle.Goals as goal

pub returns : goal.returns
returns c = record {
  one_row = one_row;
  two_rows = two_rows;
  three_rows = three_rows;
  four_rows = four_rows;
  five_rows = five_rows;
  six_rows = six_rows;
  seven_rows = seven_rows;
}
