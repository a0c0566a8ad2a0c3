-- A log without a verdict keeps each rule, so the bound holds of it, and of its peak.
use Rattle.std.proofs.Common.{◌≡◌, ℕ, suc, ◌<◌, ◌≤◌, Bool, true, false, refl, arith, Option, Some, None, List, [], ◌∷◌, ltb-true}
use Rattle.command_words.specs.Command.{bank_number}
use Rattle.command_words.specs.declared.place.Bank.{Bank}
use Rattle.command_words.specs.declared.command.Command.{Command}
use Rattle.command_words.specs.declared.command.Command.TheVariants.{Act}
use Rattle.speed_bin.specs.declared.header.Header.{Header}
use Rattle.speed_bin.specs.Log.{Log}
use Rattle.speed_bin.specs.Rules.{first_failing, rules_at, verdict, verdict_after}
use Rattle.speed_bin.specs.Header.{IsAccepted, bound}
use Rattle.speed_bin.specs.Marks.{Keeps, RowsInRange, BanksInRange}
use Rattle.speed_bin.specs.Counts.{acts_opened, peak}
use Rattle.std.specs.List.{list_all}
use Rattle.speed_bin.specs.Marks.{stays_inside}
use Rattle.speed_bin.proofs.Tests.{both}
use Rattle.speed_bin.proofs.Bounds.{bound_lem}

abbrev pub AllTrue : List Bool → Type 0
AllTrue [] = Unit {0}
AllTrue (test ∷ tests) = (test ≡ true) × AllTrue tests

pub all_pass : (n : ℕ) (tests : List Bool) → first_failing n tests ≡ None → AllTrue tests
all_pass n [] h = tt
all_pass n (true ∷ tests) h = (refl, all_pass (suc n) tests h)
all_pass n (false ∷ tests) h = absurd (cc)

unbroken : (before : Option (ℕ × ℕ)) (place : ℕ) (fails : Option ℕ) → verdict_after before place fails ≡ None → (before ≡ None) × (fails ≡ None)
unbroken (Some breach) place fails h = absurd (cc)
unbroken None place None h = (refl, refl)
unbroken None place (Some number) h = absurd (cc)

pub rows_from_test : (h : Header) (log : Log) → list_all (λ place. stays_inside h place.command) log ≡ true → RowsInRange h log
rows_from_test h [] e = tt
rows_from_test h (place ∷ log) e = let p = both (stays_inside h place.command) _ e in (rows_from_test h log p.1, p.0)

-- a log without a verdict keeps the five rules
pub fine_keeps : (h : Header) (log : Log) → RowsInRange h log → verdict h log ≡ None → Keeps h log
fine_keeps h [] inside fine = tt
fine_keeps h (place ∷ log) inside fine =
    let p = unbroken (verdict h log) _ _ fine in
    let k = all_pass 1 (rules_at h place.clock place.command log) p.1 in (
      fine_keeps h log inside.0 p.0,
      record {
        in_range = inside.1;
        first = k.0;
        second = k.1.0;
        fourth = k.1.1.1.0;
        fifth = k.1.1.1.1.0;
        twelfth = k.1.1.1.1.1.1.1.1.1.1.1.0;
      },
    )

here_bounded : (h : Header) (clock : ℕ) (c : Command) (log : Log) → IsAccepted h → Keeps h (record { clock = clock; command = c } ∷ log) → ((bank : Bank) (row : ℕ) → c ≡ Act bank row → bank_number bank < 32) → acts_opened h c (record { clock = clock; command = c } ∷ log) ≤ bound h
here_bounded h clock (Act bank row) log ok keeps low = bound_lem h (bank_number bank) row (record { clock = clock; command = Act bank row } ∷ log) ok (low bank row refl) (ltb-true _ _ (both _ _ keeps.1.in_range).0) keeps
here_bounded h clock _ log ok keeps low = omega arith

pub peak_bounded : (h : Header) (log : Log) → IsAccepted h → Keeps h log → BanksInRange log → peak h log ≤ bound h
peak_bounded h [] ok keeps low = omega arith
peak_bounded h (place ∷ log) ok keeps low =
    let here = here_bounded h place.clock place.command log ok keeps low.1 in
    let rest = peak_bounded h log ok keeps.0 low.0 in
    omega arith
