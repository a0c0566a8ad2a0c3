-- Without its 3 the bound would be false: the one row of `OneRow` has 8 activations, and ATH + h is 5.
use Rattle.std.proofs.Common.{◌≡◌, ℕ, ◌+◌, ◌<◌, ◌≤◌, true, nat_le, ltb-true, None, refl, arith, leb-true, inr}
use Rattle.speed_bin.specs.declared.header.Header.{Header}
use Rattle.speed_bin.specs.Below.{all_below, any_below}
use Rattle.speed_bin.specs.Gap.{n_tail, n_max, n_close, n_col}
use Rattle.speed_bin.specs.Log.{Log}
use Rattle.speed_bin.specs.Counters.{acts}
use Rattle.speed_bin.specs.Height.{height_of}
use Rattle.speed_bin.specs.Timing.{IsTiming, IsClocks, tiny}
use Rattle.speed_bin.specs.Header.{IsSettings, Checks, IsAccepted, spare}
use Rattle.speed_bin.specs.Marks.{Keeps, RowsInRange}
use Rattle.speed_bin.specs.Rules.{verdict}
use Rattle.speed_bin.proofs.Audits.{rows_from_test, fine_keeps}
use Rattle.speed_bin.proofs.OneRow.{header, eight_times, eight_acts}

clocks : (n : ℕ) → nat_le 1 n ≡ true → nat_le n 65535 ≡ true → IsClocks n
clocks n low high = (leb-true _ _ low, leb-true _ _ high)

pub tiny_timing : IsTiming tiny
tiny_timing = record {
  ncl = clocks _ refl refl;
  ncwl = clocks _ refl refl;
  nrcd = clocks _ refl refl;
  nrp = clocks _ refl refl;
  nras = clocks _ refl refl;
  nrc = clocks _ refl refl;
  nrrd_s = clocks _ refl refl;
  nrrd_l = clocks _ refl refl;
  nfaw = clocks _ refl refl;
  nccd_s = clocks _ refl refl;
  nccd_l = clocks _ refl refl;
  nccd_l_wr = clocks _ refl refl;
  nwtr_s = clocks _ refl refl;
  nwtr_l = clocks _ refl refl;
  nrtp = clocks _ refl refl;
  nwr = clocks _ refl refl;
  nrfc = clocks _ refl refl;
  nrfcsb = clocks _ refl refl;
  nrfm = clocks _ refl refl;
  nrfmsb = clocks _ refl refl;
  nrefi = clocks _ refl refl;
  nabo = clocks _ refl refl;
  nmrd = clocks _ refl refl;
  necs = clocks _ refl refl;
}

pub one_row_settings : IsSettings header.settings
one_row_settings = record {
  rows = (leb-true _ _ refl, leb-true _ _ refl);
  ath = (leb-true _ _ refl, leb-true _ _ refl);
  eth = (leb-true _ _ refl, leb-true _ _ refl);
  raaimt = (leb-true _ _ refl, leb-true _ _ refl);
  raammt = (leb-true _ _ refl, leb-true _ _ refl);
  ecs_every = leb-true _ _ refl;
}

pub one_row_checks : Checks header
unfolding all_below any_below n_tail n_max n_close n_col spare
one_row_checks = record {
  precharge_within_cycle = leb-true _ _ refl;
  window = ltb-true _ _ refl;
  thresholds = (leb-true _ _ refl, leb-true _ _ refl);
  management = (leb-true _ _ refl, leb-true _ _ refl);
  closing_within_two = leb-true _ _ refl;
  round_within_half = leb-true _ _ refl;
  latencies = refl;
  bursts = (leb-true _ _ refl, leb-true _ _ refl, leb-true _ _ refl);
}

pub one_row_accepted : IsAccepted header
one_row_accepted = record {
  timing = tiny_timing;
  settings = one_row_settings;
  version = (leb-true _ _ refl, leb-true _ _ refl, inr refl);
  checks = one_row_checks;
}

fine : verdict header eight_times ≡ None
unfolding all_below any_below n_tail n_max n_close n_col
fine = refl

rows : RowsInRange header eight_times
rows = rows_from_test header eight_times refl

pub eight_times_keeps : Keeps header eight_times
eight_times_keeps = fine_keeps header eight_times rows fine

pub without_spare_false : ((h : Header) (b row : ℕ) (log : Log) → IsAccepted h → b < 32 → row < h.settings.rows → Keeps h log → acts h b row log ≤ h.settings.ath + height_of (spare h) h.settings.rows) → ⊥
unfolding height_of spare
without_spare_false law =
    let claim = law header 0 0 eight_times one_row_accepted (omega arith) (omega arith) eight_times_keeps in
    let five : acts header 0 0 eight_times ≤ 5 = claim in
    let eight = eight_acts in
    omega arith
