-- The worked logs with two activations in a cycle, computed.
use Rattle.std.proofs.Common.{arith, refl}
use Rattle.speed_bin.specs.Below.{all_below, any_below}
use Rattle.speed_bin.specs.Gap.{n_tail, n_max, n_close, n_col}
use Rattle.speed_bin.specs.Header.{spare}
use Rattle.speed_bin.specs.Height.{height_of}
use Rattle.reached_bounds.specs.Climbing.{ReachesBound, climb, header}
use Rattle.reached_bounds.specs.Rounds.{one_row_by_two, two_rows_by_two, four_rows_by_two, eight_rows_by_two}
use Rattle.reached_bounds.proofs.Headers.{accepted_two, inside}

pub one_row : ReachesBound (header 2 1) (climb (header 2 1) one_row_by_two)
unfolding all_below any_below n_tail n_max n_close n_col height_of spare
one_row = record { accepted = accepted_two 1 (omega arith) (omega arith); inside = inside (header 2 1) (climb (header 2 1) one_row_by_two) refl; fine = refl; reached = refl }

pub two_rows : ReachesBound (header 2 2) (climb (header 2 2) two_rows_by_two)
unfolding all_below any_below n_tail n_max n_close n_col height_of spare
two_rows = record { accepted = accepted_two 2 (omega arith) (omega arith); inside = inside (header 2 2) (climb (header 2 2) two_rows_by_two) refl; fine = refl; reached = refl }

pub three_rows : ReachesBound (header 2 3) (climb (header 2 3) two_rows_by_two)
unfolding all_below any_below n_tail n_max n_close n_col height_of spare
three_rows = record { accepted = accepted_two 3 (omega arith) (omega arith); inside = inside (header 2 3) (climb (header 2 3) two_rows_by_two) refl; fine = refl; reached = refl }

pub four_rows : ReachesBound (header 2 4) (climb (header 2 4) four_rows_by_two)
unfolding all_below any_below n_tail n_max n_close n_col height_of spare
four_rows = record { accepted = accepted_two 4 (omega arith) (omega arith); inside = inside (header 2 4) (climb (header 2 4) four_rows_by_two) refl; fine = refl; reached = refl }

pub five_rows : ReachesBound (header 2 5) (climb (header 2 5) four_rows_by_two)
unfolding all_below any_below n_tail n_max n_close n_col height_of spare
five_rows = record { accepted = accepted_two 5 (omega arith) (omega arith); inside = inside (header 2 5) (climb (header 2 5) four_rows_by_two) refl; fine = refl; reached = refl }

pub six_rows : ReachesBound (header 2 6) (climb (header 2 6) four_rows_by_two)
unfolding all_below any_below n_tail n_max n_close n_col height_of spare
six_rows = record { accepted = accepted_two 6 (omega arith) (omega arith); inside = inside (header 2 6) (climb (header 2 6) four_rows_by_two) refl; fine = refl; reached = refl }

pub seven_rows : ReachesBound (header 2 7) (climb (header 2 7) four_rows_by_two)
unfolding all_below any_below n_tail n_max n_close n_col height_of spare
seven_rows = record { accepted = accepted_two 7 (omega arith) (omega arith); inside = inside (header 2 7) (climb (header 2 7) four_rows_by_two) refl; fine = refl; reached = refl }

pub eight_rows : ReachesBound (header 2 8) (climb (header 2 8) eight_rows_by_two)
unfolding all_below any_below n_tail n_max n_close n_col height_of spare
eight_rows = record { accepted = accepted_two 8 (omega arith) (omega arith); inside = inside (header 2 8) (climb (header 2 8) eight_rows_by_two) refl; fine = refl; reached = refl }
