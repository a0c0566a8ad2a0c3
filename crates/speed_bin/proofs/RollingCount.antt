-- Refresh management: no ACT from RAAMMT on, and no RFM below RAAIMT, unless it is RFMab for a raised alert.
use Rattle.std.proofs.Common.{◌≡◌, [], ◌∷◌, Some, refl}
use Rattle.speed_bin.specs.declared.header.Header.{Header}
use Rattle.speed_bin.specs.Below.{all_below, any_below}
use Rattle.speed_bin.specs.Gap.{n_tail, n_max, n_close, n_col}
use Rattle.speed_bin.specs.Log.{Log, raa}
use Rattle.speed_bin.specs.Rules.{verdict_at_end}
use Rattle.speed_bin.proofs.Examples.{tiny_header, act, rfm_all, rfm_same, opened_and_closed, then, log_of}

-- RAAIMT and RAAMMT are 8
abbrev header : Header
header = tiny_header 16 100 50 8 8

abbrev eight_rows : Log
eight_rows = log_of header (opened_and_closed 32 0 (0 ∷ 1 ∷ 2 ∷ 3 ∷ 4 ∷ 5 ∷ 6 ∷ 7 ∷ []))

at_most : raa header 0 eight_rows ≡ 8
at_most = refl

ninth_act : verdict_at_end header 113 (then eight_rows (act 112 0 8 ∷ [])) ≡ Some (25, 9)
unfolding all_below any_below n_tail n_max n_close n_col
ninth_act = refl

rfm_all_unwanted : verdict_at_end header 33 (log_of header (rfm_all 32 ∷ [])) ≡ Some (9, 11)
unfolding all_below any_below n_tail n_max n_close n_col
rfm_all_unwanted = refl

rfm_same_unwanted : verdict_at_end header 33 (log_of header (rfm_same 32 0 ∷ [])) ≡ Some (9, 10)
unfolding all_below any_below n_tail n_max n_close n_col
rfm_same_unwanted = refl
