-- The greatest clock of the gaps and of the window is the least clock under rules 1 to 3, and lies below a bound.
use Rattle.std.proofs.Common.{◌≡◌, ◌↔◌, ℕ, ◌+◌, ◌≤◌, ◌<◌, ◌^◌, Bool, true, false, nat_le, max, if◌then◌else◌, List, [], ◌∷◌, slice_get, IsTrue, Option, is_some, refl, sym, subst, arith}
use Rattle.std.specs.Option.{IsNone}
use Rattle.std.specs.List.{list_all}
use Rattle.std.proofs.lemmas.Bool.{le-leb, leb-true}
use Rattle.command_words.specs.declared.command.Command.{Command}
use Rattle.speed_bin.specs.Gap.{Entry, greatest, gap, gap_table}
use Rattle.command_words.specs.Kinds.{is_act}
use Rattle.speed_bin.specs.Log.{Log, Issued}
use Rattle.speed_bin.specs.Rules.{MayFollow, rule_1, rule_2, rule_3, first_failing}
use Rattle.speed_bin.specs.Timing.{IsTiming}
use Rattle.speed_bin.specs.declared.timing.Timing.{Timing}
use Rattle.speed_bin.proofs.Tests.{joined}
use Rattle.timing_rules.specs.Spaced.{AllSmall, spacing_rules}
use Rattle.timing_rules.proofs.Spacing.{rises, acts_of, window_allows, window_passes}
use Rattle.timing_rules.proofs.Window.{small_fourth, late_after}

greater : (m a b clock : ℕ) → m ≡ max a b → a ≤ clock → b ≤ clock → m ≤ clock
greater m a b clock e h k = omega arith

left : (m a b clock : ℕ) → m ≡ max a b → m ≤ clock → a ≤ clock
left m a b clock e h = omega arith

right : (m a b clock : ℕ) → m ≡ max a b → m ≤ clock → b ≤ clock
right m a b clock e h = omega arith

pub least_clock : (t : Timing) (command : Command) (log : Log) (clock gaps window result : ℕ)
    → (IsTrue (rule_2 t clock command log) ↔ (gaps ≤ clock))
    → (IsTrue (rule_3 t clock command log) ↔ (window ≤ clock))
    → result ≡ max gaps window
    → (MayFollow t clock command log ↔ (result ≤ clock))
least_clock t command log clock gaps window result is_gaps is_window e = (
  λ follows. greater result gaps window clock e (is_gaps.0 follows.gaps) (is_window.0 follows.window),
  λ h.
      let kept = is_gaps.1 (left result gaps window clock e h) in
      record {
        rises = rises t clock command log kept;
        gaps = kept;
        window = is_window.1 (right result gaps window clock e h);
      },
)

-- ---- The least rule that fails

test_is : (b : Bool) (n clock : ℕ) → (IsTrue b ↔ (n ≤ clock)) → nat_le n clock ≡ b
test_is true n clock h = le-leb n clock (h.0 refl)
test_is false n clock h = go (nat_le n clock) refl
  where
    go : (x : Bool) → nat_le n clock ≡ x → x ≡ false
    go true e = sym (h.1 (leb-true n clock e))
    go false e = refl

pub spacing_is : (t : Timing) (clock : ℕ) (command : Command) (log : Log) (after : Bool) (gaps window : ℕ) → after ≡ rule_1 clock log → (IsTrue (rule_2 t clock command log) ↔ (gaps ≤ clock)) → (IsTrue (rule_3 t clock command log) ↔ (window ≤ clock)) → first_failing 1 (after ∷ nat_le gaps clock ∷ nat_le window clock ∷ []) ≡ first_failing 1 (spacing_rules t clock command log)
spacing_is t clock command log after gaps window first second third = rw (first, test_is (rule_2 t clock command log) gaps clock second, test_is (rule_3 t clock command log) window clock third) refl

none_broken : (a b c : Bool) → is_some (first_failing 1 (a ∷ b ∷ c ∷ [])) ≡ false → (a ≡ true) × (b ≡ true) × (c ≡ true)
none_broken true true true h = (refl, refl, refl)
none_broken true true false h = absurd cc
none_broken true false c h = absurd cc
none_broken false b c h = absurd cc

pub follows_where_none : (t : Timing) (clock : ℕ) (command : Command) (log : Log) (result : Option ℕ) → result ≡ first_failing 1 (spacing_rules t clock command log) → (IsNone result ↔ MayFollow t clock command log)
follows_where_none t clock command log result is = (
  λ none.
      let p = none_broken (rule_1 clock log) (rule_2 t clock command log) (rule_3 t clock command log) (subst (λ (o : Option ℕ). is_some o ≡ false) is none) in
      record { rises = p.0; gaps = p.1; window = p.2 },
  λ follows. subst (λ (o : Option ℕ). is_some o ≡ false) (sym is) (rw (follows.rises, follows.gaps, follows.window) refl),
)

-- ---- A clock at which every command may follow

abbrev AllBelow : List Entry → Type 0
AllBelow [] = Unit {0}
AllBelow (entry ∷ entries) = (entry.clocks ≤ 196615) × AllBelow entries

greatest_step : (b : Bool) (n m bound : ℕ) → n ≤ bound → m ≤ bound → (if b then max n m else m) ≤ bound
greatest_step true n m bound h k = omega arith
greatest_step false n m bound h k = k

greatest_below : (entries : List Entry) → AllBelow entries → greatest entries ≤ 196615
greatest_below [] h = omega arith
greatest_below (entry ∷ entries) h = greatest_step entry.applies entry.clocks (greatest entries) 196615 h.0 (greatest_below entries h.1)

gap_below : (t : Timing) (first second : Command) → IsTiming t → gap t first second ≤ 196615
gap_below t first second h = greatest_below (gap_table t first second) (omega arith, (omega arith, (omega arith, (omega arith, (omega arith, (omega arith, (omega arith, (omega arith, (omega arith, (omega arith, (omega arith, (omega arith, (omega arith, (omega arith, (omega arith, (omega arith, (omega arith, (omega arith, (omega arith, (omega arith, (omega arith, (omega arith, (omega arith, tt)))))))))))))))))))))))

late_enough : (c n : ℕ) → c < 2 ^ 48 → n ≤ 196615 → nat_le (c + n) (2 ^ 48 + 2 ^ 18) ≡ true
late_enough c n h k = le-leb (c + n) (2 ^ 48 + 2 ^ 18) (omega arith)

gaps_late : (g : Command → ℕ) (log : Log) → ((first : Command) → g first ≤ 196615) → AllSmall log → IsTrue (list_all (λ (p : Issued). nat_le (p.clock + g p.command) (2 ^ 48 + 2 ^ 18)) log)
gaps_late g [] h k = refl
gaps_late g (place ∷ log) h k = joined (nat_le (place.clock + g place.command) (2 ^ 48 + 2 ^ 18)) (list_all (λ (p : Issued). nat_le (p.clock + g p.command) (2 ^ 48 + 2 ^ 18)) log) (late_enough place.clock (g place.command) k.1 (h place.command)) (gaps_late g log h k.0)

window_late : (t : Timing) (command : Command) (log : Log) → IsTiming t → AllSmall log → IsTrue (rule_3 t (2 ^ 48 + 2 ^ 18) command log)
window_late t command log h k = go (is_act command) refl
  where
    go : (b : Bool) → is_act command ≡ b → IsTrue (rule_3 t (2 ^ 48 + 2 ^ 18) command log)
    go true e = window_allows t (2 ^ 48 + 2 ^ 18) command log e (late_after t.nfaw (2 ^ 48 + 2 ^ 18) (slice_get (acts_of log) 3) (small_fourth log k) (omega (arith, h.nfaw)))
    go false e = window_passes t (2 ^ 48 + 2 ^ 18) command log e

pub follows_late : (t : Timing) (command : Command) (log : Log) → IsTiming t → AllSmall log → MayFollow t (2 ^ 48 + 2 ^ 18) command log
follows_late t command log h k =
    let kept : IsTrue (rule_2 t (2 ^ 48 + 2 ^ 18) command log) = gaps_late (λ first. gap t first command) log (λ first. gap_below t first command h) k in
    record {
      rises = rises t (2 ^ 48 + 2 ^ 18) command log kept;
      gaps = kept;
      window = window_late t command log h k;
    }

pub within_range : (result : ℕ) → result ≤ 2 ^ 48 + 2 ^ 18 → result < 2 ^ 49
within_range result h = omega arith
