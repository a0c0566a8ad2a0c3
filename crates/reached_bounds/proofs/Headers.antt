-- The headers of the worked logs are accepted.
use Rattle.std.proofs.Common.{◌≡◌, ℕ, ◌≤◌, true, refl, arith, leb-true, ltb-true, inr}
use Rattle.std.specs.List.{list_all}
use Rattle.speed_bin.specs.Gap.{n_tail, n_max, n_close, n_col}
use Rattle.speed_bin.specs.Header.{Checks, IsAccepted, IsSettings, spare}
use Rattle.speed_bin.specs.Log.{Log}
use Rattle.speed_bin.specs.Marks.{RowsInRange, stays_inside}
use Rattle.speed_bin.specs.Timing.{IsClocks, IsTiming, tiny}
use Rattle.speed_bin.specs.declared.header.Header.{Header}
use Rattle.speed_bin.proofs.Audits.{rows_from_test}
use Rattle.speed_bin.proofs.SpareIsNeeded.{tiny_timing}
use Rattle.reached_bounds.specs.Climbing.{header}

-- `tiny` with another alert window
timing : (clocks : ℕ) → IsClocks clocks → IsTiming (record tiny { nabo = clocks })
timing clocks fits = let t = tiny_timing in record {
  ncl = t.ncl;
  ncwl = t.ncwl;
  nrcd = t.nrcd;
  nrp = t.nrp;
  nras = t.nras;
  nrc = t.nrc;
  nrrd_s = t.nrrd_s;
  nrrd_l = t.nrrd_l;
  nfaw = t.nfaw;
  nccd_s = t.nccd_s;
  nccd_l = t.nccd_l;
  nccd_l_wr = t.nccd_l_wr;
  nwtr_s = t.nwtr_s;
  nwtr_l = t.nwtr_l;
  nrtp = t.nrtp;
  nwr = t.nwr;
  nrfc = t.nrfc;
  nrfcsb = t.nrfcsb;
  nrfm = t.nrfm;
  nrfmsb = t.nrfmsb;
  nrefi = t.nrefi;
  nabo = fits;
  nmrd = t.nmrd;
  necs = t.necs;
}

-- the ranges of the settings, where the cycle is known
settings : (cycle rows : ℕ) → cycle ≤ 5 → 1 ≤ rows → rows ≤ 65536 → IsSettings (header cycle rows).settings
settings cycle rows short low high = record {
  rows = (low, high);
  ath = (omega arith, omega arith);
  eth = (omega arith, omega arith);
  raaimt = (omega arith, omega arith);
  raammt = (omega arith, omega arith);
  ecs_every = omega arith;
}

checks_two : (rows : ℕ) → Checks (header 2 rows)
unfolding n_tail n_max n_close n_col spare
checks_two rows = record {
  precharge_within_cycle = leb-true _ _ refl;
  window = ltb-true _ _ refl;
  thresholds = (leb-true _ _ refl, leb-true _ _ refl);
  management = (leb-true _ _ refl, leb-true _ _ refl);
  closing_within_two = leb-true _ _ refl;
  round_within_half = leb-true _ _ refl;
  latencies = refl;
  bursts = (leb-true _ _ refl, leb-true _ _ refl, leb-true _ _ refl);
}

pub accepted_two : (rows : ℕ) → 1 ≤ rows → rows ≤ 65536 → IsAccepted (header 2 rows)
accepted_two rows low high = record {
  timing = timing _ (leb-true _ _ refl, leb-true _ _ refl);
  settings = settings 2 rows (omega arith) low high;
  version = (leb-true _ _ refl, leb-true _ _ refl, inr refl);
  checks = checks_two rows;
}

checks_three : (rows : ℕ) → Checks (header 3 rows)
unfolding n_tail n_max n_close n_col spare
checks_three rows = record {
  precharge_within_cycle = leb-true _ _ refl;
  window = ltb-true _ _ refl;
  thresholds = (leb-true _ _ refl, leb-true _ _ refl);
  management = (leb-true _ _ refl, leb-true _ _ refl);
  closing_within_two = leb-true _ _ refl;
  round_within_half = leb-true _ _ refl;
  latencies = refl;
  bursts = (leb-true _ _ refl, leb-true _ _ refl, leb-true _ _ refl);
}

pub accepted_three : (rows : ℕ) → 1 ≤ rows → rows ≤ 65536 → IsAccepted (header 3 rows)
accepted_three rows low high = record {
  timing = timing _ (leb-true _ _ refl, leb-true _ _ refl);
  settings = settings 3 rows (omega arith) low high;
  version = (leb-true _ _ refl, leb-true _ _ refl, inr refl);
  checks = checks_three rows;
}

checks_four : (rows : ℕ) → Checks (header 4 rows)
unfolding n_tail n_max n_close n_col spare
checks_four rows = record {
  precharge_within_cycle = leb-true _ _ refl;
  window = ltb-true _ _ refl;
  thresholds = (leb-true _ _ refl, leb-true _ _ refl);
  management = (leb-true _ _ refl, leb-true _ _ refl);
  closing_within_two = leb-true _ _ refl;
  round_within_half = leb-true _ _ refl;
  latencies = refl;
  bursts = (leb-true _ _ refl, leb-true _ _ refl, leb-true _ _ refl);
}

pub accepted_four : (rows : ℕ) → 1 ≤ rows → rows ≤ 65536 → IsAccepted (header 4 rows)
accepted_four rows low high = record {
  timing = timing _ (leb-true _ _ refl, leb-true _ _ refl);
  settings = settings 4 rows (omega arith) low high;
  version = (leb-true _ _ refl, leb-true _ _ refl, inr refl);
  checks = checks_four rows;
}

checks_five : (rows : ℕ) → Checks (header 5 rows)
unfolding n_tail n_max n_close n_col spare
checks_five rows = record {
  precharge_within_cycle = leb-true _ _ refl;
  window = ltb-true _ _ refl;
  thresholds = (leb-true _ _ refl, leb-true _ _ refl);
  management = (leb-true _ _ refl, leb-true _ _ refl);
  closing_within_two = leb-true _ _ refl;
  round_within_half = leb-true _ _ refl;
  latencies = refl;
  bursts = (leb-true _ _ refl, leb-true _ _ refl, leb-true _ _ refl);
}

pub accepted_five : (rows : ℕ) → 1 ≤ rows → rows ≤ 65536 → IsAccepted (header 5 rows)
accepted_five rows low high = record {
  timing = timing _ (leb-true _ _ refl, leb-true _ _ refl);
  settings = settings 5 rows (omega arith) low high;
  version = (leb-true _ _ refl, leb-true _ _ refl, inr refl);
  checks = checks_five rows;
}

-- each command of a log is within the header's ranges, where the test of them says so
pub inside : (h : Header) (log : Log) → list_all (λ place. stays_inside h place.command) log ≡ true → RowsInRange h log
inside = rows_from_test
