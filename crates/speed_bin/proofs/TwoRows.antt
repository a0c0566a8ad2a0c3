-- Two rows reach the bound: RFMab mitigates the one that was closed last, the other one raises the alert again.
use Rattle.std.proofs.Common.{◌≡◌, [], ◌∷◌, Some, None, refl}
use Rattle.speed_bin.specs.declared.header.Header.{Header}
use Rattle.speed_bin.specs.Below.{all_below, any_below}
use Rattle.speed_bin.specs.Gap.{n_tail, n_max, n_close, n_col}
use Rattle.speed_bin.specs.Log.{Log}
use Rattle.speed_bin.specs.Counters.{acts, cnt, counters, tracked}
use Rattle.speed_bin.specs.Alert.{alert}
use Rattle.speed_bin.specs.Height.{height_of}
use Rattle.speed_bin.specs.Header.{bound, spare}
use Rattle.speed_bin.specs.Rules.{verdict_at_end}
use Rattle.speed_bin.proofs.Examples.{tiny_header, act, rfm_all, opened_and_closed, then, log_of}

abbrev header : Header
header = tiny_header 2 5 5 32 64

abbrev both_six : Log
both_six = log_of header (opened_and_closed 32 0 (0 ∷ 0 ∷ 0 ∷ 0 ∷ 1 ∷ 1 ∷ 1 ∷ 1 ∷ 0 ∷ 1 ∷ 1 ∷ 0 ∷ []))

first_alert : alert header both_six ≡ Some 118
unfolding all_below any_below
first_alert = refl

first_count : cnt header 0 0 both_six ≡ 6
first_count = refl

second_count : cnt header 0 1 both_six ≡ 6
second_count = refl

-- row 1 was counted last at 138, row 0 at 148
tracked_row : tracked (counters header 0 both_six) ≡ 1
tracked_row = refl

abbrev four_more : Log
four_more = then (then both_six (rfm_all 152 ∷ [])) (opened_and_closed 176 0 (0 ∷ 0 ∷ 0 ∷ 0 ∷ []))

second_alert : alert header four_more ≡ Some 182
unfolding all_below any_below
second_alert = refl

ten_acts : acts header 0 0 four_more ≡ 10
ten_acts = refl

bound_reached : bound header ≡ 10
unfolding height_of spare
bound_reached = refl

mitigated : verdict_at_end header 217 (then four_more (rfm_all 216 ∷ [])) ≡ None
unfolding all_below any_below n_tail n_max n_close n_col
mitigated = refl

eleventh_act : verdict_at_end header 217 (then four_more (act 216 0 0 ∷ [])) ≡ Some (42, 12)
unfolding all_below any_below n_tail n_max n_close n_col
eleventh_act = refl
