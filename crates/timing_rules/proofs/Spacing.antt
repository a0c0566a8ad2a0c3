-- Rules 1 to 3 over a list: rule 1 follows from rule 2, and rule 3 looks at the fourth ACT, counted from the last one back.
use Rattle.std.proofs.Common.{◌≡◌, ℕ, ◌+◌, ◌≤◌, Bool, true, false, List, [], ◌∷◌, max, if◌then◌else◌, nat_le, nat_lt, suc, Option, Some, None, slice_get, refl, arith, IsTrue}
use Rattle.std.specs.List.{list_all, filter}
use Rattle.std.proofs.lemmas.Bool.{leb-true, le-leb}
use Rattle.command_words.specs.declared.command.Command.{Command}
use Rattle.speed_bin.specs.Gap.{Entry, greatest, gap, gap_table}
use Rattle.command_words.specs.Kinds.{is_act}
use Rattle.speed_bin.specs.Log.{Log, Issued}
use Rattle.speed_bin.specs.Rules.{rule_1, rule_2, rule_3}
use Rattle.speed_bin.specs.declared.timing.Timing.{Timing}
use Rattle.speed_bin.proofs.Tests.{both}

-- ---- Rule 1

-- the second row always applies
abbrev HasOne : List Entry → Type 0
HasOne (e ∷ f ∷ es) = (f.applies ≡ true) × (f.clocks ≡ 1)
HasOne _ = ⊥

at_least_one : (b : Bool) (n m : ℕ) → 1 ≤ m → 1 ≤ (if b then max n m else m)
at_least_one true n m h = omega arith
at_least_one false n m h = h

one_applies : (b : Bool) (n m : ℕ) → b ≡ true → n ≡ 1 → 1 ≤ (if b then max n m else m)
one_applies true n m e f = omega arith
one_applies false n m e f = absurd cc

positive : (es : List Entry) → HasOne es → 1 ≤ greatest es
positive [] h = absurd h
positive (e ∷ []) h = absurd h
positive (e ∷ f ∷ es) h = at_least_one e.applies e.clocks (if f.applies then max f.clocks (greatest es) else greatest es) (one_applies f.applies f.clocks (greatest es) h.0 h.1)

pub gap_positive : (t : Timing) (first second : Command) → 1 ≤ gap t first second
gap_positive t first second = positive (gap_table t first second) (refl, refl)

rises_by : (earlier clock n : ℕ) → 1 ≤ n → nat_le (earlier + n) clock ≡ true → nat_lt earlier clock ≡ true
rises_by earlier clock n h e = let le : earlier + n ≤ clock = leb-true (earlier + n) clock e in le-leb (suc earlier) clock (omega arith)

pub rises : (t : Timing) (clock : ℕ) (command : Command) (log : Log) → IsTrue (rule_2 t clock command log) → IsTrue (rule_1 clock log)
rises t clock command [] h = refl
rises t clock command (place ∷ log) h =
    rises_by place.clock clock (gap t place.command command) (gap_positive t place.command command)
    (both (nat_le (place.clock + gap t place.command command) clock) (list_all (λ (p : Issued). nat_le (p.clock + gap t p.command command) clock) log) h).0

-- ---- Rule 3

-- what the fourth ACT before it asks of an ACT
abbrev pub IsAfter : ℕ → ℕ → Option Issued → Type 0
IsAfter nfaw clock None = Unit {0}
IsAfter nfaw clock (Some place) = place.clock + nfaw ≤ clock

abbrev pub acts_of : Log → Log
acts_of log = filter (λ place. is_act place.command) log

pub window_asks : (t : Timing) (clock : ℕ) (command : Command) (log : Log) → is_act command ≡ true → IsTrue (rule_3 t clock command log) → IsAfter t.nfaw clock (slice_get (acts_of log) 3)
window_asks t clock command log e h = go (acts_of log) refl
  where
    go : (acts : Log) → acts_of log ≡ acts → IsAfter t.nfaw clock (slice_get (acts_of log) 3)
    go [] f = rw f tt
    go (a ∷ []) f = rw f tt
    go (a ∷ b ∷ []) f = rw f tt
    go (a ∷ b ∷ c ∷ []) f = rw f tt
    go (a ∷ b ∷ c ∷ d ∷ rest) f = let k : nat_le (d.clock + t.nfaw) clock ≡ true = rw (e, f) at h in rw f (leb-true (d.clock + t.nfaw) clock k)

pub window_allows : (t : Timing) (clock : ℕ) (command : Command) (log : Log) → is_act command ≡ true → IsAfter t.nfaw clock (slice_get (acts_of log) 3) → IsTrue (rule_3 t clock command log)
window_allows t clock command log e h = go (acts_of log) refl
  where
    go : (acts : Log) → acts_of log ≡ acts → IsTrue (rule_3 t clock command log)
    go [] f = rw (e, f) refl
    go (a ∷ []) f = rw (e, f) refl
    go (a ∷ b ∷ []) f = rw (e, f) refl
    go (a ∷ b ∷ c ∷ []) f = rw (e, f) refl
    go (a ∷ b ∷ c ∷ d ∷ rest) f = let k : d.clock + t.nfaw ≤ clock = rw f at h in rw (e, f) (le-leb (d.clock + t.nfaw) clock k)

pub window_passes : (t : Timing) (clock : ℕ) (command : Command) (log : Log) → is_act command ≡ false → IsTrue (rule_3 t clock command log)
window_passes t clock command log e = rw e refl
