-- The kept clocks of the last four ACTs, and rule 3.
use Rattle.std.proofs.Common.{◌≡◌, ◌∙◌, ◌↔◌, ℕ, zero, suc, ◌+◌, ◌≤◌, ◌<◌, ◌^◌, Bool, true, false, cond, if◌then◌else◌, List, [], ◌∷◌, map, take, Option, Some, None, option_map, slice_get, IsTrue, refl, sym, ap, subst, arith}
use Rattle.std.proofs.lemmas.List.{take-take}
use Rattle.circular_buffer.specs.Buffer.{Buffer, buffer}
use Rattle.command_words.specs.declared.command.Command.{Command}
use Rattle.command_words.specs.Kinds.{is_act}
use Rattle.speed_bin.specs.Log.{Log, Issued}
use Rattle.speed_bin.specs.Rules.{rule_3}
use Rattle.speed_bin.specs.declared.timing.Timing.{Timing}
use Rattle.timing_rules.specs.Gate.{act_clocks}
use Rattle.timing_rules.specs.Kept.{behind, IsSmall}
use Rattle.timing_rules.specs.Spaced.{AllSmall}
use Rattle.timing_rules.proofs.Spacing.{IsAfter, acts_of, window_asks, window_allows}

-- one more ACT is kept, and the fifth is dropped
pub window_pushed : (old : Buffer ℕ) (xs : List ℕ) (clock : ℕ) → old ≡ buffer (take 4 xs) 4 → buffer (take old.capacity (clock ∷ old.items)) old.capacity ≡ buffer (take 4 (clock ∷ xs)) 4
window_pushed old xs clock e = ap (λ (b : Buffer ℕ). buffer (take b.capacity (clock ∷ b.items)) b.capacity) e ∙ ap (λ ys. buffer (clock ∷ ys) 4) (take-take 3 4 xs (omega arith))

-- an ACT is one more of the ACTs, and another command none
pub acts_more : (clock : ℕ) (command : Command) (log : Log) → is_act command ≡ true → act_clocks (record { clock = clock; command = command } ∷ log) ≡ clock ∷ act_clocks log
acts_more clock command log e = ap (λ b. map (λ (place : Issued). place.clock) (if b then record { clock = clock; command = command } ∷ acts_of log else acts_of log)) e

pub acts_same : (clock : ℕ) (command : Command) (log : Log) → is_act command ≡ false → act_clocks (record { clock = clock; command = command } ∷ log) ≡ act_clocks log
acts_same clock command log e = ap (λ b. map (λ (place : Issued). place.clock) (if b then record { clock = clock; command = command } ∷ acts_of log else acts_of log)) e

pub fourth_kept : (xs : List ℕ) → slice_get (take 4 xs) 3 ≡ slice_get xs 3
fourth_kept [] = refl
fourth_kept (a ∷ []) = refl
fourth_kept (a ∷ b ∷ []) = refl
fourth_kept (a ∷ b ∷ c ∷ []) = refl
fourth_kept (a ∷ b ∷ c ∷ d ∷ rest) = refl

abbrev clock_of : Option Issued → Option ℕ
clock_of o = option_map (λ place. place.clock) o

get_clocks : (xs : Log) (k : ℕ) → slice_get (map (λ (place : Issued). place.clock) xs) k ≡ clock_of (slice_get xs k)
get_clocks [] zero = refl
get_clocks [] (suc k) = refl
get_clocks (x ∷ xs) zero = refl
get_clocks (x ∷ xs) (suc k) = get_clocks xs k

small_cond : (b : Bool) (x : Issued) (xs : Log) → x.clock < 2 ^ 48 → AllSmall xs → AllSmall (cond b (x ∷ xs) xs)
small_cond true x xs h k = (k, h)
small_cond false x xs h k = k

small_acts : (log : Log) → AllSmall log → AllSmall (acts_of log)
small_acts [] h = tt
small_acts (place ∷ log) h = small_cond (is_act place.command) place (acts_of log) h.1 (small_acts log h.0)

small_get : (xs : Log) (k : ℕ) → AllSmall xs → IsSmall (clock_of (slice_get xs k))
small_get [] zero h = tt
small_get [] (suc k) h = tt
small_get (x ∷ xs) zero h = h.1
small_get (x ∷ xs) (suc k) h = small_get xs k h.0

pub small_fourth : (log : Log) → AllSmall log → IsSmall (clock_of (slice_get (acts_of log) 3))
small_fourth log h = small_get (acts_of log) 3 (small_acts log h)

after_behind : (n clock : ℕ) (o : Option Issued) → IsAfter n clock o → behind (clock_of o) n ≤ clock
after_behind n clock None h = omega arith
after_behind n clock (Some place) h = h

behind_after : (n clock : ℕ) (o : Option Issued) → behind (clock_of o) n ≤ clock → IsAfter n clock o
behind_after n clock None h = tt
behind_after n clock (Some place) h = h

pub late_after : (n clock : ℕ) (o : Option Issued) → IsSmall (clock_of o) → 2 ^ 48 + n ≤ clock → IsAfter n clock o
late_after n clock None h k = tt
late_after n clock (Some place) h k = let low : place.clock < 2 ^ 48 = h in omega arith

window_act : (t : Timing) (log : Log) (command : Command) (kept : Option ℕ) (result clock : ℕ) → kept ≡ clock_of (slice_get (acts_of log) 3) → result ≡ behind kept t.nfaw → is_act command ≡ true → (IsTrue (rule_3 t clock command log) ↔ (result ≤ clock))
window_act t log command kept result clock e r act =
    let is : behind (clock_of (slice_get (acts_of log) 3)) t.nfaw ≡ result = ap (λ o. behind o t.nfaw) (sym e) ∙ sym r in (
      λ h. subst (λ m. m ≤ clock) is (after_behind t.nfaw clock (slice_get (acts_of log) 3) (window_asks t clock command log act h)),
      λ h. window_allows t clock command log act (behind_after t.nfaw clock (slice_get (acts_of log) 3) (subst (λ m. m ≤ clock) (sym is) h)),
    )

pub window_row : (t : Timing) (log : Log) (command : Command) (kept : Option ℕ) (result : ℕ) → AllSmall log → kept ≡ slice_get (act_clocks log) 3 → (IsSmall kept → result ≡ behind kept t.nfaw) → is_act command ≡ true → (clock : ℕ) → (IsTrue (rule_3 t clock command log) ↔ (result ≤ clock))
window_row t log command kept result small e r act clock = window_act t log command kept result clock same (r (subst IsSmall (sym same) (small_fourth log small))) act
  where
    same : kept ≡ clock_of (slice_get (acts_of log) 3)
    same = e ∙ get_clocks (acts_of log) 3
