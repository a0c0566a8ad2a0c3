-- The worked logs with five activations in a cycle, computed.
use Rattle.std.proofs.Common.{arith, refl}
use Rattle.speed_bin.specs.Below.{all_below, any_below}
use Rattle.speed_bin.specs.Gap.{n_tail, n_max, n_close, n_col}
use Rattle.speed_bin.specs.Header.{spare}
use Rattle.speed_bin.specs.Height.{height_of}
use Rattle.reached_bounds.specs.Climbing.{ReachesBound, climb, header}
use Rattle.reached_bounds.specs.Rounds.{one_row_by_five, three_rows_by_five}
use Rattle.reached_bounds.proofs.Headers.{accepted_five, inside}

pub one_row : ReachesBound (header 5 1) (climb (header 5 1) one_row_by_five)
unfolding all_below any_below n_tail n_max n_close n_col height_of spare
one_row = record { accepted = accepted_five 1 (omega arith) (omega arith); inside = inside (header 5 1) (climb (header 5 1) one_row_by_five) refl; fine = refl; reached = refl }

pub three_rows : ReachesBound (header 5 3) (climb (header 5 3) three_rows_by_five)
unfolding all_below any_below n_tail n_max n_close n_col height_of spare
three_rows = record { accepted = accepted_five 3 (omega arith) (omega arith); inside = inside (header 5 3) (climb (header 5 3) three_rows_by_five) refl; fine = refl; reached = refl }
