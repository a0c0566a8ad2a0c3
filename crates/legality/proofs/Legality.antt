-- Where a command may come, from what forbids it and from the clocks that the rules allow.
use Rattle.std.proofs.Common.{◌≡◌, ◌↔◌, ℕ, ◌-◌, ◌<◌, ◌≤◌, ◌^◌, Bool, true, false, nat_le, cond, min, [], ◌∷◌, Option, Some, None, is_some, refl, arith, leb-true, le-leb, subst}
use Rattle.command_words.specs.declared.command.Command.{Command}
use Rattle.speed_bin.proofs.Audits.{all_pass}
use Rattle.speed_bin.specs.Log.{Log}
use Rattle.speed_bin.specs.Rules.{MayFollow, broken, first_failing, rule_1, rule_2, rule_3, rule_4, rule_5, rule_6, rule_7, rule_8, rule_9, rule_10, rule_11, rule_12, rule_13, rule_14, rules_at}
use Rattle.speed_bin.specs.declared.header.Header.{Header}
use Rattle.legality.specs.Chances.{IsForbidden, IsLegal, MayCome, rules_of}
use Rattle.command_words.specs.Command.{IsInRange}
use Rattle.speed_bin.specs.Marks.{stays_inside}
use Rattle.legality.specs.Standing.{Limits, MayTake}
use Rattle.legality.specs.Within.{IsWithin, clocks_of}
use Rattle.legality.specs.declared.span.Span.{Span}
use Rattle.legality.proofs.Chancing.{all_once, some_fails}

none_fails : (a b c d e f g h i j k l m n : Bool) → a ≡ true → b ≡ true → c ≡ true → d ≡ true → e ≡ true → f ≡ true → g ≡ true → h ≡ true → i ≡ true → j ≡ true → k ≡ true → l ≡ true → m ≡ true → n ≡ true
    → first_failing 1 (a ∷ b ∷ c ∷ d ∷ e ∷ f ∷ g ∷ h ∷ i ∷ j ∷ k ∷ l ∷ m ∷ n ∷ []) ≡ None
none_fails a b c d e f g h i j k l m n ea eb ec ed ee ef eg eh ei ej ek el em en = rw (ea, eb, ec, ed, ee, ef, eg, eh, ei, ej, ek, el, em, en) refl

-- a command that breaks no rule is within the clocks that the rules of spacing, of refreshes and of the alert allow
pub limits_kept : (h : Header) (clock : ℕ) (command : Command) (log : Log) → broken h clock command log ≡ None → Limits h clock command log
limits_kept h clock command log none =
    let k = all_pass 1 (rules_at h clock command log) none in
    record {
      spaced = record { rises = k.0; gaps = k.1.0; window = k.1.1.0 };
      refreshed = k.1.1.1.1.1.0;
      in_window = k.1.1.1.1.1.1.1.1.1.1.1.0;
      in_time = k.1.1.1.1.1.1.1.1.1.1.1.1.0;
    }

-- and one within them breaks none, if no other rule forbids it
pub kept_by_limits : (h : Header) (clock : ℕ) (command : Command) (log : Log) → IsForbidden h command log None → Limits h clock command log → broken h clock command log ≡ None
kept_by_limits h clock command log once limits =
    let k = all_once 1 (rules_of h command log) once in
    let r4 = k.1.1.1.0.2 in
    let r5 = k.1.1.1.1.0.2 in
    let r7 = k.1.1.1.1.1.1.0.2 in
    let r8 = k.1.1.1.1.1.1.1.0.2 in
    let r9 = k.1.1.1.1.1.1.1.1.0.2 in
    let r10 = k.1.1.1.1.1.1.1.1.1.0.2 in
    let r11 = k.1.1.1.1.1.1.1.1.1.1.0.2 in
    let r14 = k.1.1.1.1.1.1.1.1.1.1.1.1.1.0.2 in
    none_fails (rule_1 clock log) (rule_2 h.timing clock command log) (rule_3 h.timing clock command log) (rule_4 command log) (rule_5 command log)
    (rule_6 h clock command log) (rule_7 command log) (rule_8 h command log) (rule_9 h command log) (rule_10 h command log) (rule_11 h command log)
    (rule_12 h clock command log) (rule_13 h clock log) (rule_14 h command log)
    limits.spaced.rises limits.spaced.gaps limits.spaced.window r4 r5 limits.refreshed r7 r8 r9 r10 r11 limits.in_window limits.in_time r14

legal_by : (h : Header) (command : Command) (log : Log) (span : Span) (some : Bool) → nat_le span.first span.last ≡ some → span.last < 2 ^ 48
    → ((clock : ℕ) → clock < 2 ^ 48 → (MayCome h command log clock ↔ IsWithin span clock))
    → IsLegal h command log (cond some (Some (span.first, span.last)) None)
legal_by h command log span true e low means = (leb-true span.first span.last e, low, means)
legal_by h command log span false e low means = λ clock small may.
    let w = (means clock small).0 may in
    let k : span.first ≤ span.last = (let a = w.0 in let b = w.1 in omega arith) in
    let t = le-leb span.first span.last k in absurd (cc)

pub legal_is : (h : Header) (command : Command) (log : Log) (span : Span) → span.last < 2 ^ 48 → IsForbidden h command log None
    → ((clock : ℕ) → clock < 2 ^ 48 → (Limits h clock command log ↔ IsWithin span clock)) → IsLegal h command log (clocks_of span)
legal_is h command log span low once means = legal_by h command log span (nat_le span.first span.last) refl low (λ clock small. (
  λ may. (means clock small).0 (limits_kept h clock command log may),
  λ w. kept_by_limits h clock command log once ((means clock small).1 w),
))

pub never_legal : (h : Header) (command : Command) (log : Log) (answer : Option ℕ) → is_some answer ≡ true → IsForbidden h command log answer → IsLegal h command log None
never_legal h command log None e forbidden = absurd (cc)
never_legal h command log (Some least) e forbidden = λ clock small may. some_fails 1 (rules_of h command log) least clock forbidden small may

pub none_of : (answer : Option ℕ) → is_some answer ≡ false → answer ≡ None
none_of None e = refl
none_of (Some n) e = absurd (cc)

-- ---- The clocks that the rules allow

pub limits_are : (h : Header) (clock : ℕ) (command : Command) (log : Log) (earliest : ℕ) (s r a x y : Span)
    → (MayFollow h.timing clock command log ↔ (earliest ≤ clock)) → (IsWithin s clock ↔ (earliest ≤ clock))
    → ((rule_6 h clock command log ≡ true) ↔ IsWithin r clock)
    → (((rule_12 h clock command log ≡ true) × (rule_13 h clock log ≡ true)) ↔ IsWithin a clock)
    → (IsWithin x clock ↔ (IsWithin s clock × IsWithin r clock)) → (IsWithin y clock ↔ (IsWithin x clock × IsWithin a clock))
    → (Limits h clock command log ↔ IsWithin y clock)
limits_are h clock command log earliest s r a x y follows starts six alerted fx fy = (
  λ limits. fy.1 (fx.1 (starts.1 (follows.0 limits.spaced), six.0 limits.refreshed), alerted.0 (limits.in_window, limits.in_time)),
  λ w.
      let py = fy.0 w in
      let px = fx.0 py.0 in
      let rules = alerted.1 py.1 in
      record {
        spaced = follows.1 (starts.0 px.0);
        refreshed = six.1 px.1;
        in_window = rules.0;
        in_time = rules.1;
      },
)

-- where rule 6 holds at any clock of the bus, it holds at the first one of its clocks
pub best_kept : (h : Header) (command : Command) (log : Log) (span : Span) (best : ℕ) → best ≡ min span.first (2 ^ 48 - 1) → best < 2 ^ 48
    → ((clock : ℕ) → clock < 2 ^ 48 → ((rule_6 h clock command log ≡ true) ↔ IsWithin span clock))
    → (clock : ℕ) → clock < 2 ^ 48 → rule_6 h clock command log ≡ true → rule_6 h best command log ≡ true
best_kept h command log span best is low means clock small e =
    let w = (means clock small).0 e in
    let a : span.first ≤ clock = w.0 in
    let b : clock ≤ span.last = w.1 in
    (means best low).1 (omega arith, omega arith)

pub capped : (best first : ℕ) → best ≡ min first (2 ^ 48 - 1) → best < 2 ^ 48
capped best first is = omega arith

-- a command may be taken at a clock that is legal
pub may_take : (h : Header) (clock : ℕ) (command : Command) (log : Log) (answer : Option (ℕ × ℕ)) (first last : ℕ) → IsLegal h command log answer → answer ≡ Some (first, last)
    → first ≤ clock → clock ≤ last → clock < 2 ^ 48 → IsInRange command → stays_inside h command ≡ true → MayTake h clock command log
may_take h clock command log answer first last legal is low high small inside own =
    let l : IsLegal h command log (Some (first, last)) = subst (λ (o : Option (ℕ × ℕ)). IsLegal h command log o) is legal in
    record { in_time = small; in_range = inside; inside = own; fine = (l.2 clock small).1 (low, high) }
