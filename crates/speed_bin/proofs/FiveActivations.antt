-- The window of five activations: the fifth ACT may come nFAW after the first, and no clock earlier.
use Rattle.std.proofs.Common.{◌≡◌, ℕ, [], ◌∷◌, Some, None, refl}
use Rattle.speed_bin.specs.declared.header.Header.{Header}
use Rattle.speed_bin.specs.Below.{all_below, any_below}
use Rattle.speed_bin.specs.Gap.{n_tail, n_max, n_close, n_col}
use Rattle.speed_bin.specs.Log.{Log}
use Rattle.speed_bin.specs.Rules.{verdict_at_end}
use Rattle.speed_bin.proofs.Examples.{tiny_header, act, pre_all, log_of}

abbrev header : Header
header = tiny_header 16 5 3 8 16

-- ACTs of five groups, the last one at this clock
abbrev five : ℕ → Log
five clock = log_of header (act 32 0 0 ∷ act 34 1 0 ∷ act 36 2 0 ∷ act 38 3 0 ∷ act clock 4 0 ∷ pre_all 48 ∷ [])

too_early : verdict_at_end header 49 (five 41) ≡ Some (13, 3)
unfolding all_below any_below n_tail n_max n_close n_col
too_early = refl

on_time : verdict_at_end header 49 (five 42) ≡ None
unfolding all_below any_below n_tail n_max n_close n_col
on_time = refl
