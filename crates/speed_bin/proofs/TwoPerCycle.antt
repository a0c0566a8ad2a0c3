-- A cycle of two activations: one row reaches the bound, which is 4. It raises the alert at ATH = 3 and takes one more ACT
-- in the alert window.
use Rattle.std.proofs.Common.{◌≡◌, [], ◌∷◌, Some, None, refl}
use Rattle.speed_bin.specs.declared.settings.RefreshMode.TheVariants.{All}
use Rattle.speed_bin.specs.declared.header.Header.{Header}
use Rattle.speed_bin.specs.Below.{all_below, any_below}
use Rattle.speed_bin.specs.Gap.{n_tail, n_max, n_close, n_col}
use Rattle.speed_bin.specs.Log.{Log}
use Rattle.speed_bin.specs.Counters.{acts}
use Rattle.speed_bin.specs.Alert.{alert}
use Rattle.speed_bin.specs.Document.{window_fits, thresholds_fit, round_within_half, checks_of}
use Rattle.speed_bin.specs.Height.{height_of}
use Rattle.speed_bin.specs.Header.{bound, spare}
use Rattle.speed_bin.specs.Rules.{verdict_at_end, first_failing}
use Rattle.speed_bin.specs.Timing.{tiny}
use Rattle.speed_bin.proofs.Examples.{act, rfm_all, opened_and_closed, then, log_of}

abbrev header : Header
header = record {
  timing = record tiny { nabo = 13 };
  settings = record { rows = 1; ath = 3; eth = 3; raaimt = 8; raammt = 16; refresh = All; ecs_every = 0 };
  version = record { cycle = 2; groups = 8 };
}

-- the fourth ACT stands in the window
four_times : Log
four_times = log_of header (opened_and_closed 32 0 (0 ∷ 0 ∷ 0 ∷ 0 ∷ []))

alert_at_third : alert header four_times ≡ Some 58
unfolding all_below any_below four_times
alert_at_third = refl

four_acts : acts header 0 0 four_times ≡ 4
unfolding four_times
four_acts = refl

bound_reached : bound header ≡ 4
unfolding height_of spare
bound_reached = refl

passes_checks : first_failing 1 (checks_of header) ≡ None
unfolding checks_of window_fits thresholds_fit round_within_half n_tail n_max n_close n_col spare
passes_checks = refl

mitigated : verdict_at_end header 73 (then four_times (rfm_all 72 ∷ [])) ≡ None
unfolding all_below any_below n_tail n_max n_close n_col four_times
mitigated = refl

fifth_act : verdict_at_end header 73 (then four_times (act 72 0 0 ∷ [])) ≡ Some (17, 12)
unfolding all_below any_below n_tail n_max n_close n_col four_times
fifth_act = refl
