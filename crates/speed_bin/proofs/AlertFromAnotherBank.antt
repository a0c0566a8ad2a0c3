-- An alert that another bank raised leaves a bank four ACTs, the last of them within nABO of the alert.
use Rattle.std.proofs.Common.{◌≡◌, [], ◌∷◌, Some, None, refl}
use Rattle.speed_bin.specs.declared.header.Header.{Header}
use Rattle.speed_bin.specs.Below.{all_below, any_below}
use Rattle.speed_bin.specs.Gap.{n_tail, n_max, n_close, n_col}
use Rattle.speed_bin.specs.Log.{Log}
use Rattle.speed_bin.specs.Alert.{alert}
use Rattle.speed_bin.specs.Rules.{verdict_at_end}
use Rattle.speed_bin.proofs.Examples.{tiny_header, act, pre, rfm_all, opened_and_closed, then, log_of}

abbrev header : Header
header = tiny_header 1 5 5 8 16

-- five ACTs of group 0, and three of group 1 from 79 on
abbrev three_more : Log
three_more = then (log_of header (opened_and_closed 32 0 (0 ∷ 0 ∷ 0 ∷ 0 ∷ 0 ∷ []))) (opened_and_closed 79 1 (0 ∷ 0 ∷ 0 ∷ []))

alert_of_other : alert header three_more ≡ Some 78
unfolding all_below any_below
alert_of_other = refl

fourth_in_window : verdict_at_end header 120 (then three_more (act 109 1 0 ∷ pre 115 1 ∷ rfm_all 119 ∷ [])) ≡ None
unfolding all_below any_below n_tail n_max n_close n_col
fourth_in_window = refl

fourth_too_late : verdict_at_end header 122 (then three_more (act 111 1 0 ∷ pre 117 1 ∷ rfm_all 121 ∷ [])) ≡ Some (25, 12)
unfolding all_below any_below n_tail n_max n_close n_col
fourth_too_late = refl
