-- The closest scope that applies counts: a RD after a WR waits longer in the WR's own group. An older command blocks
-- too: here the WR blocks the precharge, though the RD stands between.
use Rattle.std.proofs.Common.{◌≡◌, List, [], ◌∷◌, Some, None, refl}
use Rattle.speed_bin.specs.declared.header.Header.{Header}
use Rattle.speed_bin.specs.Below.{all_below, any_below}
use Rattle.speed_bin.specs.Gap.{n_tail, n_max, n_close, n_col}
use Rattle.speed_bin.specs.Log.{Issued, Log}
use Rattle.speed_bin.specs.Rules.{verdict, verdict_at_end}
use Rattle.speed_bin.proofs.Examples.{tiny_header, act, rd, wr, pre, log_of}

abbrev header : Header
header = tiny_header 16 5 3 8 16

-- ACTs of the groups 0 and 1, a WR of group 0 at 36, and what follows
abbrev after_write : List Issued → Log
after_write places = log_of header (act 32 0 0 ∷ act 34 1 0 ∷ wr 36 0 ∷ places)

other_group_too_early : verdict_at_end header 50 (after_write (rd 49 1 ∷ [])) ≡ Some (12, 2)
unfolding all_below any_below n_tail n_max n_close n_col
other_group_too_early = refl

other_group : verdict header (after_write (rd 50 1 ∷ [])) ≡ None
unfolding all_below any_below n_tail n_max n_close n_col
other_group = refl

own_group_too_early : verdict header (after_write (rd 51 0 ∷ [])) ≡ Some (12, 2)
unfolding all_below any_below n_tail n_max n_close n_col
own_group_too_early = refl

own_group : verdict header (after_write (rd 52 0 ∷ [])) ≡ None
unfolding all_below any_below n_tail n_max n_close n_col
own_group = refl

-- the WR at 36 needs 17 clocks to the precharge of its bank
older_blocks : verdict header (after_write (rd 50 1 ∷ pre 52 0 ∷ [])) ≡ Some (13, 2)
unfolding all_below any_below n_tail n_max n_close n_col
older_blocks = refl

older_passed : verdict header (after_write (rd 50 1 ∷ pre 53 0 ∷ [])) ≡ None
unfolding all_below any_below n_tail n_max n_close n_col
older_passed = refl
