-- The tests of a plan against rules 6, 7 and 8.
use Rattle.std.proofs.Common.{◌≡◌, ◌∙◌, ℕ, ◌+◌, ◌/◌, ◌<◌, ◌≤◌, Bool, true, false, nat_le, IsTrue, ◌↔◌, List, [], ◌∷◌, slice_index, Option, is_some, refl, sym, ap, subst, arith, leb-true, le-leb}
use Rattle.std.specs.Option.{IsNone}
use Rattle.command_words.specs.declared.command.Command.{Command}
use Rattle.speed_bin.specs.Below.{all_below}
use Rattle.speed_bin.specs.declared.header.Header.{Header}
use Rattle.speed_bin.specs.Log.{Log, refs, scrubs}
use Rattle.speed_bin.specs.Rules.{is_on_time, rule_6, rule_7, rule_8, first_failing}
use Rattle.refresh_plan.specs.Held.{Held, after, scrubs_in_time}
use Rattle.refresh_plan.specs.Standing.{Keeps, IsAllowed, refresh_rules}
use Rattle.speed_bin.proofs.Tests.{both, joined, same_tests, all_below_at, all_below_from}
use Rattle.refresh_plan.proofs.Counts.{after_refs}

pub on_time_test : (h : Header) (clock interval : ℕ) (log : Log) (counts : List ℕ) (result : Bool) → interval ≡ h.timing.nrefi → ((address : ℕ) → address < 4 → slice_index counts address ≡ refs address log) → (IsTrue result ↔ ((address : ℕ) → address < 4 → (clock / interval ≤ slice_index counts address + 4) × (slice_index counts address ≤ clock / interval + 4))) → result ≡ all_below 4 (λ address. is_on_time h clock address log)
on_time_test h clock interval log counts result same of_log means = same_tests result (all_below 4 (λ address. is_on_time h clock address log)) there back
  where
    passed : clock / interval ≡ clock / h.timing.nrefi
    passed = ap (λ (n : ℕ). clock / n) same

    there : result ≡ true → all_below 4 (λ address. is_on_time h clock address log) ≡ true
    there e = all_below_from 4 (λ address. is_on_time h clock address log) (λ address low.
        let p = means.0 e address low in
        let count = of_log address low in
        let above : clock / h.timing.nrefi ≤ refs address log + 4 = omega (arith, p.0, passed) in
        let below : refs address log ≤ clock / h.timing.nrefi + 4 = omega (arith, p.1, passed) in
        joined _ _ (le-leb _ _ above) (le-leb _ _ below))

    back : all_below 4 (λ address. is_on_time h clock address log) ≡ true → result ≡ true
    back e = means.1 (λ address low.
        let t = both _ _ (all_below_at 4 (λ i. is_on_time h clock i log) address e low) in
        let count = of_log address low in
        let above = leb-true (clock / h.timing.nrefi) (refs address log + 4) t.0 in
        let below = leb-true (refs address log) (clock / h.timing.nrefi + 4) t.1 in
        (omega (arith, passed), omega (arith, passed)))

pub even_test : (log : Log) (counts : List ℕ) (result : Bool) → ((address : ℕ) → address < 4 → slice_index counts address ≡ refs address log) → (IsTrue result ↔ ((a : ℕ) → a < 4 → (b : ℕ) → b < 4 → slice_index counts a ≤ slice_index counts b + 1)) → result ≡ all_below 4 (λ a. all_below 4 (λ b. nat_le (refs a log) (refs b log + 1)))
even_test log counts result of_log means = same_tests result (all_below 4 (λ a. all_below 4 (λ b. nat_le (refs a log) (refs b log + 1)))) there back
  where
    there : result ≡ true → all_below 4 (λ a. all_below 4 (λ b. nat_le (refs a log) (refs b log + 1))) ≡ true
    there e = all_below_from 4 (λ a. all_below 4 (λ b. nat_le (refs a log) (refs b log + 1))) (λ a low. all_below_from 4 (λ b. nat_le (refs a log) (refs b log + 1)) (λ b other.
        let p = means.0 e a low b other in
        let x = of_log a low in
        let y = of_log b other in
        le-leb _ _ (omega arith)))

    back : all_below 4 (λ a. all_below 4 (λ b. nat_le (refs a log) (refs b log + 1))) ≡ true → result ≡ true
    back e = means.1 (λ a low b other.
        let t = all_below_at 4 (λ j. nat_le (refs a log) (refs j log + 1)) b (all_below_at 4 (λ i. all_below 4 (λ j. nat_le (refs i log) (refs j log + 1))) a e low) other in
        let p = leb-true (refs a log) (refs b log + 1) t in
        let x = of_log a low in
        let y = of_log b other in
        omega arith)

pub rule_8_test : (it : Held) (h : Header) (log : Log) (command : Command) → Keeps it h log → scrubs_in_time it.every it.scrubs (slice_index it.refreshes 0) command ≡ rule_8 h command log
rule_8_test it h log command keeps =
    ap (λ (n : ℕ). scrubs_in_time n it.scrubs (slice_index it.refreshes 0) command) keeps.every
    ∙ ap (λ (n : ℕ). scrubs_in_time h.settings.ecs_every n (slice_index it.refreshes 0) command) keeps.scrubbed
    ∙ ap (λ (n : ℕ). scrubs_in_time h.settings.ecs_every (scrubs log) n command) (keeps.counts 0 (omega arith))

-- ---- The three together

-- the counts with the command, and what the two tests on them mean
pub rule_6_test : (it : Held) (h : Header) (log : Log) (clock : ℕ) (command : Command) (counts : List ℕ) (result : Bool) → Keeps it h log → ((address : ℕ) → address < 4 → slice_index counts address ≡ after it command address) → (IsTrue result ↔ ((address : ℕ) → address < 4 → (clock / it.interval ≤ slice_index counts address + 4) × (slice_index counts address ≤ clock / it.interval + 4))) → result ≡ rule_6 h clock command log
rule_6_test it h log clock command counts result keeps counted means = on_time_test h clock it.interval (record { clock = clock; command = command } ∷ log) counts result keeps.interval (λ address low. counted address low ∙ after_refs it h log clock command address keeps low) means

pub rule_7_test : (it : Held) (h : Header) (log : Log) (command : Command) (counts : List ℕ) (result : Bool) → Keeps it h log → ((address : ℕ) → address < 4 → slice_index counts address ≡ after it command address) → (IsTrue result ↔ ((a : ℕ) → a < 4 → (b : ℕ) → b < 4 → slice_index counts a ≤ slice_index counts b + 1)) → result ≡ rule_7 command log
rule_7_test it h log command counts result keeps counted means = even_test (record { clock = 0; command = command } ∷ log) counts result (λ address low. counted address low ∙ after_refs it h log 0 command address keeps low) means

pub allowed_where_in_step : (h : Header) (log : Log) (clock : ℕ) (command : Command) (on_time even in_step : Bool) → on_time ≡ rule_6 h clock command log → even ≡ rule_7 command log → in_step ≡ rule_8 h command log → on_time ≡ true → even ≡ true → IsTrue in_step ↔ IsAllowed h clock command log
allowed_where_in_step h log clock command on_time even in_step six seven eight t u = (λ k. record { refreshes_in_time = sym six ∙ t; refreshes_evenly = sym seven ∙ u; scrubs_in_step = sym eight ∙ k }, λ allowed. eight ∙ allowed.scrubs_in_step)

pub not_allowed : (P : Type 0) (value : Bool) → value ≡ false → (P → ⊥) → IsTrue value ↔ P
not_allowed P value e never = (λ k. absurd cc, λ p. absurd (never p))

-- ---- The least rule that fails

pub least_is : (h : Header) (log : Log) (clock : ℕ) (command : Command) (on_time even in_step : Bool) → on_time ≡ rule_6 h clock command log → even ≡ rule_7 command log → in_step ≡ rule_8 h command log → first_failing 6 (on_time ∷ even ∷ in_step ∷ []) ≡ first_failing 6 (refresh_rules h clock command log)
least_is h log clock command on_time even in_step six seven eight = rw (six, seven, eight) refl

none_broken : (a b c : Bool) → is_some (first_failing 6 (a ∷ b ∷ c ∷ [])) ≡ false → (a ≡ true) × (b ≡ true) × (c ≡ true)
none_broken true true true h = (refl, refl, refl)
none_broken true true false h = absurd cc
none_broken true false c h = absurd cc
none_broken false b c h = absurd cc

pub allowed_where_none : (h : Header) (log : Log) (clock : ℕ) (command : Command) (result : Option ℕ) → result ≡ first_failing 6 (refresh_rules h clock command log) → (IsNone result ↔ IsAllowed h clock command log)
allowed_where_none h log clock command result is = (
  λ none.
      let p = none_broken (rule_6 h clock command log) (rule_7 command log) (rule_8 h command log) (subst (λ (o : Option ℕ). is_some o ≡ false) is none) in
      record { refreshes_in_time = p.0; refreshes_evenly = p.1; scrubs_in_step = p.2 },
  λ allowed. subst (λ (o : Option ℕ). is_some o ≡ false) (sym is) (rw (allowed.refreshes_in_time, allowed.refreshes_evenly, allowed.scrubs_in_step) refl),
)
