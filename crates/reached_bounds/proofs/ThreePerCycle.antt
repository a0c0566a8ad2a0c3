-- The worked logs with three activations in a cycle, computed.
use Rattle.std.proofs.Common.{arith, refl}
use Rattle.speed_bin.specs.Below.{all_below, any_below}
use Rattle.speed_bin.specs.Gap.{n_tail, n_max, n_close, n_col}
use Rattle.speed_bin.specs.Header.{spare}
use Rattle.speed_bin.specs.Height.{height_of}
use Rattle.reached_bounds.specs.Climbing.{ReachesBound, climb, header}
use Rattle.reached_bounds.specs.Rounds.{one_row_by_three, two_rows_by_three, three_rows_by_three, four_rows_by_three, six_rows_by_three}
use Rattle.reached_bounds.proofs.Headers.{accepted_three, inside}

pub one_row : ReachesBound (header 3 1) (climb (header 3 1) one_row_by_three)
unfolding all_below any_below n_tail n_max n_close n_col height_of spare
one_row = record { accepted = accepted_three 1 (omega arith) (omega arith); inside = inside (header 3 1) (climb (header 3 1) one_row_by_three) refl; fine = refl; reached = refl }

pub two_rows : ReachesBound (header 3 2) (climb (header 3 2) two_rows_by_three)
unfolding all_below any_below n_tail n_max n_close n_col height_of spare
two_rows = record { accepted = accepted_three 2 (omega arith) (omega arith); inside = inside (header 3 2) (climb (header 3 2) two_rows_by_three) refl; fine = refl; reached = refl }

pub three_rows : ReachesBound (header 3 3) (climb (header 3 3) three_rows_by_three)
unfolding all_below any_below n_tail n_max n_close n_col height_of spare
three_rows = record { accepted = accepted_three 3 (omega arith) (omega arith); inside = inside (header 3 3) (climb (header 3 3) three_rows_by_three) refl; fine = refl; reached = refl }

pub four_rows : ReachesBound (header 3 4) (climb (header 3 4) four_rows_by_three)
unfolding all_below any_below n_tail n_max n_close n_col height_of spare
four_rows = record { accepted = accepted_three 4 (omega arith) (omega arith); inside = inside (header 3 4) (climb (header 3 4) four_rows_by_three) refl; fine = refl; reached = refl }

pub five_rows : ReachesBound (header 3 5) (climb (header 3 5) four_rows_by_three)
unfolding all_below any_below n_tail n_max n_close n_col height_of spare
five_rows = record { accepted = accepted_three 5 (omega arith) (omega arith); inside = inside (header 3 5) (climb (header 3 5) four_rows_by_three) refl; fine = refl; reached = refl }

pub six_rows : ReachesBound (header 3 6) (climb (header 3 6) six_rows_by_three)
unfolding all_below any_below n_tail n_max n_close n_col height_of spare
six_rows = record { accepted = accepted_three 6 (omega arith) (omega arith); inside = inside (header 3 6) (climb (header 3 6) six_rows_by_three) refl; fine = refl; reached = refl }

pub seven_rows : ReachesBound (header 3 7) (climb (header 3 7) six_rows_by_three)
unfolding all_below any_below n_tail n_max n_close n_col height_of spare
seven_rows = record { accepted = accepted_three 7 (omega arith) (omega arith); inside = inside (header 3 7) (climb (header 3 7) six_rows_by_three) refl; fine = refl; reached = refl }
