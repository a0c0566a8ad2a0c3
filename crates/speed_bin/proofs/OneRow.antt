-- One row reaches the bound: it raises the alert at ATH = 5, and takes three more ACTs in the alert window.
use Rattle.std.proofs.Common.{◌≡◌, [], ◌∷◌, Some, None, refl}
use Rattle.speed_bin.specs.declared.header.Header.{Header}
use Rattle.speed_bin.specs.Below.{all_below, any_below}
use Rattle.speed_bin.specs.Gap.{n_tail, n_max, n_close, n_col}
use Rattle.speed_bin.specs.Log.{Log}
use Rattle.speed_bin.specs.Counters.{acts}
use Rattle.speed_bin.specs.Alert.{alert}
use Rattle.speed_bin.specs.Height.{height_of}
use Rattle.speed_bin.specs.Header.{bound, spare}
use Rattle.speed_bin.specs.Rules.{verdict_at_end}
use Rattle.speed_bin.specs.Counts.{log_counts}
use Rattle.speed_bin.proofs.Examples.{tiny_header, act, rfm_all, opened_and_closed, then, log_of}

abbrev pub header : Header
header = tiny_header 1 5 5 8 16

abbrev pub eight_times : Log
eight_times = log_of header (opened_and_closed 32 0 (0 ∷ 0 ∷ 0 ∷ 0 ∷ 0 ∷ 0 ∷ 0 ∷ 0 ∷ []))

alert_at_fifth : alert header eight_times ≡ Some 78
unfolding all_below any_below
alert_at_fifth = refl

pub eight_acts : acts header 0 0 eight_times ≡ 8
eight_acts = refl

bound_reached : bound header ≡ 8
unfolding height_of spare
bound_reached = refl

mitigated : verdict_at_end header 113 (then eight_times (rfm_all 112 ∷ [])) ≡ None
unfolding all_below any_below n_tail n_max n_close n_col
mitigated = refl

ninth_act : verdict_at_end header 113 (then eight_times (act 112 0 0 ∷ [])) ≡ Some (25, 12)
unfolding all_below any_below n_tail n_max n_close n_col
ninth_act = refl

counts : log_counts header (then eight_times (rfm_all 112 ∷ [])) ≡ record {
  act = 8;
  rd = 0;
  wr = 0;
  pre = 8;
  refab = 0;
  refsb = 0;
  rfmab = 1;
  rfmsb = 0;
  ecs = 0;
  alert = 1;
  peak = 8;
}
unfolding all_below any_below
counts = refl
