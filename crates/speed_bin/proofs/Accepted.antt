-- A header whose checks all pass satisfies them.
use Rattle.std.proofs.Common.{◌≡◌, ℕ, Bool, true, false, List, [], ◌∷◌, None, arith, refl, suc}
use Rattle.std.proofs.lemmas.Bool.{and_parts, leb-true}
use Rattle.std.proofs.lemmas.Bool.Decides.{nat_tests}
use Rattle.speed_bin.specs.Document.{checks_of, window_fits, thresholds_fit, round_within_half}
use Rattle.speed_bin.specs.Header.{Checks}
use Rattle.speed_bin.specs.Rules.{first_failing}
use Rattle.speed_bin.specs.declared.header.Header.{Header}
use Rattle.speed_bin.proofs.Audits.{all_pass}

pub checks_pass : (h : Header) → first_failing 1 (checks_of h) ≡ None → Checks h
unfolding checks_of window_fits thresholds_fit round_within_half
checks_pass h none =
    let (one, from_2) = all_pass 1 (checks_of h) none in
    let (two, from_3) = from_2 in
    let (three, from_4) = from_3 in
    let (four, from_5) = from_4 in
    let (five, from_6) = from_5 in
    let (six, from_7) = from_6 in
    let (seven, from_8) = from_7 in
    let eight = from_8.0 in
    let (ath, eth) = and_parts _ _ three in
    let (least, most) = and_parts _ _ four in
    let (burst, others) = and_parts _ _ eight in
    let (read, write) = and_parts _ _ others in
    record {
      precharge_within_cycle = leb-true _ _ one;
      window = leb-true _ _ two;
      thresholds = (leb-true _ _ ath, leb-true _ _ eth);
      management = (leb-true _ _ least, leb-true _ _ most);
      closing_within_two = leb-true _ _ five;
      round_within_half = leb-true _ _ six;
      latencies = grind (arith, nat_tests);
      bursts = (leb-true _ _ burst, leb-true _ _ read, leb-true _ _ write);
    }
