-- The header of the trial is accepted, and each command of it can be counted in its place.
use Rattle.std.proofs.Common.{◌≡◌, ◌^◌, ℕ, Bool, true, ◌&&◌, nat_lt, refl, [], ◌∷◌, leb-true, ltb-true, inl}
use Rattle.command_words.specs.Command.{IsInRange}
use Rattle.command_words.specs.declared.command.Command.{Command}
use Rattle.command_words.specs.declared.command.Command.TheVariants.{PreAb, RfmAb}
use Rattle.speed_bin.specs.Below.{all_below, any_below}
use Rattle.speed_bin.specs.Gap.{n_tail, n_max, n_close, n_col}
use Rattle.speed_bin.specs.Header.{IsAccepted, spare}
use Rattle.speed_bin.specs.Log.{Log}
use Rattle.speed_bin.specs.Marks.{stays_inside}
use Rattle.speed_bin.specs.Rules.{rule_1, rule_2, rule_4, rule_5, rule_12}
use Rattle.speed_bin.specs.Timing.{IsTiming}
use Rattle.speed_bin.specs.declared.header.Header.{Header}
use Rattle.speed_bin.proofs.SpareIsNeeded.{tiny_timing}
use Rattle.speed_bin.proofs.Tests.{both}
use Rattle.row_activity.specs.Counted.{MayCount}
use Rattle.row_activity.specs.Trial.{MayClose, closed, one_row, opens}

short_window : IsTiming one_row.timing
short_window = record {
  ncl = tiny_timing.ncl;
  ncwl = tiny_timing.ncwl;
  nrcd = tiny_timing.nrcd;
  nrp = tiny_timing.nrp;
  nras = tiny_timing.nras;
  nrc = tiny_timing.nrc;
  nrrd_s = tiny_timing.nrrd_s;
  nrrd_l = tiny_timing.nrrd_l;
  nfaw = tiny_timing.nfaw;
  nccd_s = tiny_timing.nccd_s;
  nccd_l = tiny_timing.nccd_l;
  nccd_l_wr = tiny_timing.nccd_l_wr;
  nwtr_s = tiny_timing.nwtr_s;
  nwtr_l = tiny_timing.nwtr_l;
  nrtp = tiny_timing.nrtp;
  nwr = tiny_timing.nwr;
  nrfc = tiny_timing.nrfc;
  nrfcsb = tiny_timing.nrfcsb;
  nrfm = tiny_timing.nrfm;
  nrfmsb = tiny_timing.nrfmsb;
  nrefi = tiny_timing.nrefi;
  nabo = (leb-true _ _ refl, leb-true _ _ refl);
  nmrd = tiny_timing.nmrd;
  necs = tiny_timing.necs;
}

pub one_row_accepted : IsAccepted one_row
unfolding all_below any_below n_tail n_max n_close n_col spare
one_row_accepted = record {
  timing = short_window;
  settings = record {
    rows = (leb-true _ _ refl, leb-true _ _ refl);
    ath = (leb-true _ _ refl, leb-true _ _ refl);
    eth = (leb-true _ _ refl, leb-true _ _ refl);
    raaimt = (leb-true _ _ refl, leb-true _ _ refl);
    raammt = (leb-true _ _ refl, leb-true _ _ refl);
    ecs_every = leb-true _ _ refl;
  };
  version = (leb-true _ _ refl, leb-true _ _ refl, inl refl);
  checks = record {
    precharge_within_cycle = leb-true _ _ refl;
    window = ltb-true _ _ refl;
    thresholds = (leb-true _ _ refl, leb-true _ _ refl);
    management = (leb-true _ _ refl, leb-true _ _ refl);
    closing_within_two = leb-true _ _ refl;
    round_within_half = leb-true _ _ refl;
    latencies = refl;
    bursts = (leb-true _ _ refl, leb-true _ _ refl, leb-true _ _ refl);
  };
}

-- ---- The commands

-- the tests of a command that can be counted
abbrev is_counted : Header → ℕ → Command → Log → Bool
is_counted h clock command log =
    nat_lt clock (2 ^ 48)
    && (stays_inside h command && (rule_1 clock log && (rule_2 h.timing clock command log && (rule_4 command log && (rule_5 command log && rule_12 h clock command log)))))

by_tests : (h : Header) (clock : ℕ) (command : Command) (log : Log) → IsInRange command → is_counted h clock command log ≡ true → MayCount h clock command log
by_tests h clock command log inside tests =
    let early = both _ _ tests in
    let range = both _ _ early.1 in
    let first = both _ _ range.1 in
    let second = both _ _ first.1 in
    let fourth = both _ _ second.1 in
    let last = both _ _ fourth.1 in
    record {
      in_time = ltb-true _ _ early.0;
      in_range = inside;
      kept = record {
        in_range = range.0;
        first = first.0;
        second = second.0;
        fourth = fourth.0;
        fifth = last.0;
        twelfth = last.1;
      };
    }

opens_inside : IsInRange opens
opens_inside = (record { group = ltb-true _ _ refl; address = ltb-true _ _ refl }, ltb-true _ _ refl)

pub once : MayClose 0 6 []
unfolding all_below any_below n_tail
once = record {
  opening = by_tests one_row 0 opens [] opens_inside refl;
  closing = by_tests one_row 6 PreAb (record { clock = 0; command = opens } ∷ []) tt refl;
}

pub twice : MayClose 10 16 (closed 0 6 [])
unfolding all_below any_below n_tail
twice = record {
  opening = by_tests one_row 10 opens (closed 0 6 []) opens_inside refl;
  closing = by_tests one_row 16 PreAb (record { clock = 10; command = opens } ∷ closed 0 6 []) tt refl;
}

pub thrice : MayClose 20 26 (closed 10 16 (closed 0 6 []))
unfolding all_below any_below n_tail
thrice = record {
  opening = by_tests one_row 20 opens (closed 10 16 (closed 0 6 [])) opens_inside refl;
  closing = by_tests one_row 26 PreAb (record { clock = 20; command = opens } ∷ closed 10 16 (closed 0 6 [])) tt refl;
}

pub managed : MayCount one_row 30 RfmAb (closed 20 26 (closed 10 16 (closed 0 6 [])))
unfolding all_below any_below n_tail
managed = by_tests one_row 30 RfmAb (closed 20 26 (closed 10 16 (closed 0 6 []))) tt refl
