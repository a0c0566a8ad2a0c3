-- What keeps the rules of spacing at one clock keeps them at every later one.
use Rattle.std.proofs.Common.{◌≡◌, ℕ, suc, ◌+◌, ◌≤◌, Bool, true, false, nat_le, [], ◌∷◌, Option, Some, None, slice_get, refl, arith, leb-true, le-leb}
use Rattle.std.specs.List.{list_all}
use Rattle.command_words.specs.Kinds.{is_act}
use Rattle.command_words.specs.declared.command.Command.{Command}
use Rattle.speed_bin.proofs.Tests.{both, joined}
use Rattle.speed_bin.specs.Gap.{gap}
use Rattle.speed_bin.specs.Log.{Log, Issued}
use Rattle.speed_bin.specs.Rules.{rule_1, rule_2, rule_3}
use Rattle.speed_bin.specs.declared.timing.Timing.{Timing}
use Rattle.timing_rules.proofs.Spacing.{IsAfter, acts_of, window_allows, window_asks, window_passes}

later_le : (n clock last : ℕ) → clock ≤ last → nat_le n clock ≡ true → nat_le n last ≡ true
later_le n clock last low e = let k = leb-true n clock e in le-leb n last (omega arith)

pub rises_later : (clock last : ℕ) (log : Log) → clock ≤ last → rule_1 clock log ≡ true → rule_1 last log ≡ true
rises_later clock last [] low e = refl
rises_later clock last (place ∷ log) low e = later_le (suc place.clock) clock last low e

pub gaps_later : (t : Timing) (clock last : ℕ) (command : Command) (log : Log) → clock ≤ last → rule_2 t clock command log ≡ true → rule_2 t last command log ≡ true
gaps_later t clock last command [] low e = refl
gaps_later t clock last command (place ∷ log) low e =
    let p = both (nat_le (place.clock + gap t place.command command) clock) (list_all (λ (p : Issued). nat_le (p.clock + gap t p.command command) clock) log) e in
    joined (nat_le (place.clock + gap t place.command command) last) (list_all (λ (p : Issued). nat_le (p.clock + gap t p.command command) last) log)
    (later_le _ clock last low p.0) (gaps_later t clock last command log low p.1)

after_later : (n clock last : ℕ) (o : Option Issued) → clock ≤ last → IsAfter n clock o → IsAfter n last o
after_later n clock last None low k = tt
after_later n clock last (Some place) low k = let h : place.clock + n ≤ clock = k in omega arith

pub window_later : (t : Timing) (clock last : ℕ) (command : Command) (log : Log) → clock ≤ last → rule_3 t clock command log ≡ true → rule_3 t last command log ≡ true
window_later t clock last command log low e = go (is_act command) refl
  where
    go : (act : Bool) → is_act command ≡ act → rule_3 t last command log ≡ true
    go true is = window_allows t last command log is (after_later t.nfaw clock last (slice_get (acts_of log) 3) low (window_asks t clock command log is e))
    go false is = window_passes t last command log is
