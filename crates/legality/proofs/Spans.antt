-- Rules that speak of the clock, as clocks without a gap between them.
use Rattle.std.proofs.Common.{◌≡◌, ◌↔◌, ℕ, ◌+◌, ◌-◌, ◌*◌, ◌/◌, ◌<◌, ◌≤◌, ◌^◌, Bool, true, false, not, ◌&&◌, ◌||◌, cond, min, nat_le, Some, None, refl, ap, arith, leb-true, le-leb}
use Rattle.std.proofs.Math.Nat.{div-lt_iff_lt-mul, le-div_iff_mul-le}
use Rattle.command_words.specs.Kinds.{is_act}
use Rattle.command_words.specs.declared.command.Command.{Command}
use Rattle.speed_bin.proofs.Tests.{both, joined, or_right}
use Rattle.speed_bin.specs.Alert.{alert}
use Rattle.speed_bin.specs.Below.{all_below}
use Rattle.speed_bin.specs.Gap.{n_tail}
use Rattle.speed_bin.specs.Log.{Log, refs}
use Rattle.speed_bin.specs.Rules.{after, is_on_time, rule_12, rule_13, until}
use Rattle.speed_bin.specs.declared.header.Header.{Header}
use Rattle.legality.specs.Within.{IsWithin}
use Rattle.legality.specs.declared.span.Span.{Span}

-- ---- Rule 6

below_end : (end clock behind : ℕ) → clock < 2 ^ 48 → behind ≡ min end (2 ^ 64 - 1) → clock < end → clock ≤ behind - 1
below_end end clock behind small is low = omega arith

end_above : (end clock behind : ℕ) → 1 ≤ end → behind ≡ min end (2 ^ 64 - 1) → clock ≤ behind - 1 → clock < end
end_above end clock behind some is low = omega arith

above_start : (start clock first : ℕ) → first ≡ min start (2 ^ 64 - 1) → start ≤ clock → first ≤ clock
above_start start clock first is low = omega arith

start_below : (start clock first : ℕ) → clock < 2 ^ 48 → first ≡ min start (2 ^ 64 - 1) → first ≤ clock → start ≤ clock
start_below start clock first small is low = omega arith

some_clocks : (n r : ℕ) → 1 ≤ n → 1 ≤ (r + 5) * n
some_clocks n r one = omega arith

-- so many intervals have passed at most
before_end : (n r clock behind : ℕ) → 1 ≤ n → clock < 2 ^ 48 → behind ≡ min ((r + 5) * n) (2 ^ 64 - 1) → ((clock / n ≤ r + 4) ↔ (clock ≤ behind - 1))
before_end n r clock behind one small is =
    let means : (clock / n < r + 5) ↔ (clock < (r + 5) * n) = div-lt_iff_lt-mul one in (
      λ k. below_end ((r + 5) * n) clock behind small is (means.0 (omega arith)),
      λ k. let q : clock / n < r + 5 = means.1 (end_above ((r + 5) * n) clock behind (some_clocks n r one) is k) in omega arith,
    )

-- so many have passed at least
behind_start : (n r clock first : ℕ) → 1 ≤ n → clock < 2 ^ 48 → first ≡ min ((r - 4) * n) (2 ^ 64 - 1) → ((r ≤ clock / n + 4) ↔ (first ≤ clock))
behind_start n r clock first one small is =
    let means : (r - 4 ≤ clock / n) ↔ ((r - 4) * n ≤ clock) = le-div_iff_mul-le one in (
      λ k. above_start ((r - 4) * n) clock first is (means.0 (omega arith)),
      λ k. let q : r - 4 ≤ clock / n = means.1 (start_below ((r - 4) * n) clock first small is k) in omega arith,
    )

pub on_time_is : (h : Header) (clock address : ℕ) (log : Log) (n r behind first : ℕ) (a b span : Span) → n ≡ h.timing.nrefi → 1 ≤ n → clock < 2 ^ 48 → r ≡ refs address log
    → first ≡ min ((r - 4) * n) (2 ^ 64 - 1) → behind ≡ min ((r + 5) * n) (2 ^ 64 - 1)
    → (IsWithin a clock ↔ (first ≤ clock)) → (IsWithin b clock ↔ (clock ≤ behind - 1)) → (IsWithin span clock ↔ (IsWithin a clock × IsWithin b clock))
    → ((is_on_time h clock address log ≡ true) ↔ IsWithin span clock)
on_time_is h clock address log n r behind first a b span same one small counted start end fa fb fs =
    let passed : clock / n ≡ clock / h.timing.nrefi = ap (λ (m : ℕ). clock / m) same in
    let late = before_end n r clock behind one small end in
    let early = behind_start n r clock first one small start in (
      λ e.
          let t = both (nat_le (clock / h.timing.nrefi) (refs address log + 4)) (nat_le (refs address log) (clock / h.timing.nrefi + 4)) e in
          let up = leb-true (clock / h.timing.nrefi) (refs address log + 4) t.0 in
          let down = leb-true (refs address log) (clock / h.timing.nrefi + 4) t.1 in
          fs.1 (fa.1 (early.0 (omega arith)), fb.1 (late.0 (omega arith))),
      λ w.
          let p = fs.0 w in
          let up = late.1 (fb.0 p.1) in
          let down = early.1 (fa.0 p.0) in
          joined _ _ (le-leb (clock / h.timing.nrefi) (refs address log + 4) (omega arith)) (le-leb (refs address log) (clock / h.timing.nrefi + 4) (omega arith)),
    )

pub four_are : (test : ℕ → Bool) (clock : ℕ) (s0 s1 s2 s3 x y z : Span)
    → ((test 0 ≡ true) ↔ IsWithin s0 clock) → ((test 1 ≡ true) ↔ IsWithin s1 clock) → ((test 2 ≡ true) ↔ IsWithin s2 clock) → ((test 3 ≡ true) ↔ IsWithin s3 clock)
    → (IsWithin x clock ↔ (IsWithin s0 clock × IsWithin s1 clock)) → (IsWithin y clock ↔ (IsWithin x clock × IsWithin s2 clock)) → (IsWithin z clock ↔ (IsWithin y clock × IsWithin s3 clock))
    → ((all_below 4 test ≡ true) ↔ IsWithin z clock)
unfolding all_below
four_are test clock s0 s1 s2 s3 x y z f0 f1 f2 f3 fx fy fz = (
  λ e.
      let p3 = both (test 3) (test 2 && (test 1 && (test 0 && true))) e in
      let p2 = both (test 2) (test 1 && (test 0 && true)) p3.1 in
      let p1 = both (test 1) (test 0 && true) p2.1 in
      let p0 = both (test 0) true p1.1 in
      fz.1 (fy.1 (fx.1 (f0.0 p0.0, f1.0 p1.0), f2.0 p2.0), f3.0 p3.0),
  λ w.
      let pz = fz.0 w in
      let py = fy.0 pz.0 in
      let px = fx.0 py.0 in
      joined (test 3) (test 2 && (test 1 && (test 0 && true))) (f3.1 pz.1) (
      joined (test 2) (test 1 && (test 0 && true)) (f2.1 py.1) (
      joined (test 1) (test 0 && true) (f1.1 px.1) (joined (test 0) true (f0.1 px.0) refl))),
)

-- ---- Rules 12 and 13

pub calm_is : (h : Header) (clock : ℕ) (command : Command) (log : Log) (span : Span) → alert h log ≡ None → (IsWithin span clock ↔ (0 ≤ clock))
    → (((rule_12 h clock command log ≡ true) × (rule_13 h clock log ≡ true)) ↔ IsWithin span clock)
calm_is h clock command log span none f = (
  λ rules. f.1 (omega arith),
  λ w. (or_right (not (is_act command)) (until clock (after (alert h log) h.timing.nabo)) (rw none refl), rw none refl),
)

-- how long after the alert the command may come
abbrev pub wait_of : Bool → ℕ → ℕ → ℕ
wait_of act window deadline = cond act window deadline

raised_act : (nabo tail raised clock : ℕ) (act : Bool) → (not act || nat_le clock (raised + nabo)) ≡ true → nat_le clock (raised + (nabo + tail)) ≡ true → clock ≤ raised + wait_of act nabo (nabo + tail)
raised_act nabo tail raised clock true e f = leb-true _ _ e
raised_act nabo tail raised clock false e f = leb-true _ _ f

raised_back : (nabo tail raised clock : ℕ) (act : Bool) → clock ≤ raised + wait_of act nabo (nabo + tail) → ((not act || nat_le clock (raised + nabo)) ≡ true) × (nat_le clock (raised + (nabo + tail)) ≡ true)
raised_back nabo tail raised clock true low = (le-leb _ _ low, le-leb _ _ (let k : clock ≤ raised + nabo = low in omega arith))
raised_back nabo tail raised clock false low = (refl, le-leb _ _ low)

in_wait : (raised wait other clock last : ℕ) → clock < 2 ^ 48 → wait ≡ other → last ≡ min (raised + wait) (2 ^ 64 - 1) → clock ≤ raised + other → clock ≤ last
in_wait raised wait other clock last small same ends low = omega arith

of_wait : (raised wait other clock last : ℕ) → wait ≡ other → last ≡ min (raised + wait) (2 ^ 64 - 1) → clock ≤ last → clock ≤ raised + other
of_wait raised wait other clock last same ends low = omega arith

pub raised_is : (h : Header) (clock : ℕ) (command : Command) (log : Log) (raised wait last : ℕ) (span : Span) → alert h log ≡ Some raised → clock < 2 ^ 48
    → wait ≡ wait_of (is_act command) h.timing.nabo (h.timing.nabo + n_tail h.timing) → last ≡ min (raised + wait) (2 ^ 64 - 1) → (IsWithin span clock ↔ (clock ≤ last))
    → (((rule_12 h clock command log ≡ true) × (rule_13 h clock log ≡ true)) ↔ IsWithin span clock)
raised_is h clock command log raised wait last span is small waits ends f = (
  λ rules.
      let e12 : (not (is_act command) || nat_le clock (raised + h.timing.nabo)) ≡ true = rw is at rules.0 in
      let e13 : nat_le clock (raised + (h.timing.nabo + n_tail h.timing)) ≡ true = rw is at rules.1 in
      let low = raised_act h.timing.nabo (n_tail h.timing) raised clock (is_act command) e12 e13 in
      f.1 (in_wait raised wait (wait_of (is_act command) h.timing.nabo (h.timing.nabo + n_tail h.timing)) clock last small waits ends low),
  λ w.
      let low = of_wait raised wait (wait_of (is_act command) h.timing.nabo (h.timing.nabo + n_tail h.timing)) clock last waits ends (f.0 w) in
      let k = raised_back h.timing.nabo (n_tail h.timing) raised clock (is_act command) low in
      (rw is k.0, rw is k.1),
)
