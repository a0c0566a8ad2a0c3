-- The worked logs with four activations in a cycle, computed.
use Rattle.std.proofs.Common.{arith, refl}
use Rattle.speed_bin.specs.Below.{all_below, any_below}
use Rattle.speed_bin.specs.Gap.{n_tail, n_max, n_close, n_col}
use Rattle.speed_bin.specs.Header.{spare}
use Rattle.speed_bin.specs.Height.{height_of}
use Rattle.reached_bounds.specs.Climbing.{ReachesBound, climb, header}
use Rattle.reached_bounds.specs.Rounds.{one_row_by_four, two_rows_by_four, three_rows_by_four, four_rows_by_four, five_rows_by_four, seven_rows_by_four}
use Rattle.reached_bounds.proofs.Headers.{accepted_four, inside}

pub one_row : ReachesBound (header 4 1) (climb (header 4 1) one_row_by_four)
unfolding all_below any_below n_tail n_max n_close n_col height_of spare
one_row = record { accepted = accepted_four 1 (omega arith) (omega arith); inside = inside (header 4 1) (climb (header 4 1) one_row_by_four) refl; fine = refl; reached = refl }

pub two_rows : ReachesBound (header 4 2) (climb (header 4 2) two_rows_by_four)
unfolding all_below any_below n_tail n_max n_close n_col height_of spare
two_rows = record { accepted = accepted_four 2 (omega arith) (omega arith); inside = inside (header 4 2) (climb (header 4 2) two_rows_by_four) refl; fine = refl; reached = refl }

pub three_rows : ReachesBound (header 4 3) (climb (header 4 3) three_rows_by_four)
unfolding all_below any_below n_tail n_max n_close n_col height_of spare
three_rows = record { accepted = accepted_four 3 (omega arith) (omega arith); inside = inside (header 4 3) (climb (header 4 3) three_rows_by_four) refl; fine = refl; reached = refl }

pub four_rows : ReachesBound (header 4 4) (climb (header 4 4) four_rows_by_four)
unfolding all_below any_below n_tail n_max n_close n_col height_of spare
four_rows = record { accepted = accepted_four 4 (omega arith) (omega arith); inside = inside (header 4 4) (climb (header 4 4) four_rows_by_four) refl; fine = refl; reached = refl }

pub five_rows : ReachesBound (header 4 5) (climb (header 4 5) five_rows_by_four)
unfolding all_below any_below n_tail n_max n_close n_col height_of spare
five_rows = record { accepted = accepted_four 5 (omega arith) (omega arith); inside = inside (header 4 5) (climb (header 4 5) five_rows_by_four) refl; fine = refl; reached = refl }

pub seven_rows : ReachesBound (header 4 7) (climb (header 4 7) seven_rows_by_four)
unfolding all_below any_below n_tail n_max n_close n_col height_of spare
seven_rows = record { accepted = accepted_four 7 (omega arith) (omega arith); inside = inside (header 4 7) (climb (header 4 7) seven_rows_by_four) refl; fine = refl; reached = refl }
