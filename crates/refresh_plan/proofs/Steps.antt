-- What it takes to stand for a longer log.
use Rattle.std.proofs.Common.{◌≡◌, ◌∙◌, ℕ, zero, suc, ◌+◌, ◌/◌, ◌<◌, ◌≤◌, ◌^◌, ◌⊎◌, inl, inr, Bool, true, false, not, ◌&&◌, ◌||◌, ◌==◌, nat_le, cond, List, [], ◌∷◌, length, slice_index, replicate, refl, sym, ap, arith, leb-true}
use Rattle.std.proofs.Math.Logic.{∥∥₁_elim}
use Rattle.std.proofs.Math.Nat.{div-le_self}
use Rattle.std.proofs.lemmas.List.{get_or_past}
use native.Mathlib.Bridge.{le_prop}
use Rattle.command_words.specs.declared.command.Command.{Command}
use Rattle.speed_bin.specs.declared.header.Header.{Header}
use Rattle.command_words.specs.Kinds.{refreshes, is_scrub}
use Rattle.speed_bin.specs.Log.{Log, refs, scrubs}
use Rattle.speed_bin.specs.Rules.{is_on_time, rule_6}
use Rattle.refresh_plan.specs.Held.{Held, IsBounded, after}
use Rattle.refresh_plan.specs.Standing.{Keeps, StandsFor, IsAllowed, MayIssue}
use Rattle.speed_bin.proofs.Tests.{both, all_below_at}
use Rattle.refresh_plan.proofs.Counts.{scrubs-cons, after_refs}

zero_at : (n b : ℕ) → slice_index (replicate n 0) b ≡ 0
zero_at zero b = refl
zero_at (suc n) zero = refl
zero_at (suc n) (suc b) = zero_at n b

pub stands_at_first : (h : Header) → StandsFor (record { interval = h.timing.nrefi; mode = h.settings.refresh; every = h.settings.ecs_every; refreshes = replicate 4 0; scrubs = 0 }) h []
unfolding StandsFor
stands_at_first h = record {
  interval = refl;
  mode = refl;
  every = refl;
  addresses = refl;
  counts = λ address low. zero_at 4 address;
  scrubbed = refl;
  met = tt;
}

-- the counts after a command are those before it, and the command
pub stands_after : (it : Held) (counts : List ℕ) (scrubbed : ℕ) (command : Command) → length counts ≡ 4 → ((address : ℕ) → address < 4 → slice_index counts address ≡ after it command address) → scrubbed ≡ it.scrubs + cond (is_scrub command) 1 0 → (clock : ℕ) → clock < 2 ^ 48 → (h : Header) (log : Log) → StandsFor it h log → IsAllowed h clock command log → StandsFor (record it { refreshes = counts; scrubs = scrubbed }) h (record { clock = clock; command = command } ∷ log)
unfolding StandsFor
stands_after it counts scrubbed command long counted scrubs_is clock small h log stands allowed = record {
  interval = stands.interval;
  mode = stands.mode;
  every = stands.every;
  addresses = long;
  counts = λ address low. counted address low ∙ after_refs it h log clock command address stands low;
  scrubbed = scrubs_is ∙ ap (λ (n : ℕ). n + cond (is_scrub command) 1 0) stands.scrubbed ∙ sym (scrubs-cons (record { clock = clock; command = command }) log);
  met = (stands.met, record { small = small; allowed = allowed });
}

-- ---- Nothing leaves its type

below_or_not : (a b : ℕ) → (a < b) ⊎ (b ≤ a)
below_or_not a b = grind arith

at_most_ahead : (h : Header) (clock address : ℕ) (log : Log) → is_on_time h clock address log ≡ true → refs address log ≤ clock / h.timing.nrefi + 4
at_most_ahead h clock address log e = leb-true (refs address log) (clock / h.timing.nrefi + 4) (both (nat_le (clock / h.timing.nrefi) (refs address log + 4)) (nat_le (refs address log) (clock / h.timing.nrefi + 4)) e).1

on_time_at : (h : Header) (clock : ℕ) (command : Command) (log : Log) (address : ℕ) → address < 4 → rule_6 h clock command log ≡ true → refs address (record { clock = clock; command = command } ∷ log) ≤ clock / h.timing.nrefi + 4
on_time_at h clock command log address low e = at_most_ahead h clock address (record { clock = clock; command = command } ∷ log) (all_below_at 4 (λ i. is_on_time h clock i (record { clock = clock; command = command } ∷ log)) address e low)

-- an allowed command leaves each address less than 5 intervals ahead
ahead : (it : Held) (clock : ℕ) (command : Command) (address : ℕ) → clock < 2 ^ 48 → MayIssue it clock command → address < 4 → after it command address ≤ 2 ^ 48 + 4
unfolding StandsFor
ahead it clock command address early may low = ∥∥₁_elim may le_prop (λ p. go p.0 p.1 p.2 p.3)
  where
    go : (h : Header) (log : Log) → Keeps it h log → IsAllowed h clock command log → after it command address ≤ 2 ^ 48 + 4
    go h log keeps allowed =
        let e = after_refs it h log clock command address keeps low in
        let below = on_time_at h clock command log address low allowed.refreshes_in_time in
        let passed = div-le_self clock h.timing.nrefi in
        omega arith

ecs_in_step : (every s r : ℕ) (scrub refresh t : Bool) → scrub ≡ true → cond t (not scrub) ((not scrub || nat_le (suc s) (r / every)) && (not refresh || s == r / every)) ≡ true → suc s ≤ r / every
ecs_in_step every s r false refresh t is k = absurd cc
ecs_in_step every s r true refresh true is k = absurd cc
ecs_in_step every s r true refresh false is k = leb-true (suc s) (r / every) (both (nat_le (suc s) (r / every)) (not refresh || s == r / every) k).0

-- an allowed ECS leaves no more of them than refreshes of address 0
scrubbed_at_most : (it : Held) (clock : ℕ) (command : Command) → MayIssue it clock command → IsBounded it.interval it.refreshes it.scrubs → it.scrubs + cond (is_scrub command) 1 0 ≤ 2 ^ 48 + 4
unfolding StandsFor
scrubbed_at_most it clock command may bounded = go (is_scrub command) refl
  where
    in_step : (h : Header) (log : Log) → Keeps it h log → IsAllowed h clock command log → is_scrub command ≡ true → it.scrubs + 1 ≤ 2 ^ 48 + 4
    in_step h log keeps allowed e =
        let few = ecs_in_step h.settings.ecs_every (scrubs log) (refs 0 log) (is_scrub command) (refreshes 0 command) (h.settings.ecs_every == 0) e allowed.scrubs_in_step in
        let fewer = div-le_self (refs 0 log) h.settings.ecs_every in
        let count = keeps.counts 0 (omega arith) in
        let most = bounded.refreshed 0 in
        let scrubbed = keeps.scrubbed in
        omega arith

    go : (t : Bool) → is_scrub command ≡ t → it.scrubs + cond t 1 0 ≤ 2 ^ 48 + 4
    go false e = let most = bounded.scrubbed in omega arith
    go true e = ∥∥₁_elim may le_prop (λ p. in_step p.0 p.1 p.2 p.3 e)

pub bounded_after : (it : Held) (counts : List ℕ) (scrubbed clock : ℕ) (command : Command) → clock < 2 ^ 48 → MayIssue it clock command → IsBounded it.interval it.refreshes it.scrubs → length counts ≡ 4 → ((address : ℕ) → address < 4 → slice_index counts address ≡ after it command address) → scrubbed ≡ it.scrubs + cond (is_scrub command) 1 0 → IsBounded it.interval counts scrubbed
bounded_after it counts scrubbed clock command early may bounded long counted scrubs_is = record {
  passes = bounded.passes;
  short = bounded.short;
  refreshed = λ address. at address (below_or_not address 4);
  scrubbed = let most = scrubbed_at_most it clock command may bounded in omega arith;
}
  where
    at : (address : ℕ) → (address < 4) ⊎ (4 ≤ address) → slice_index counts address ≤ 2 ^ 48 + 4
    at address (inl low) = let e = counted address low in let most = ahead it clock command address early may low in omega arith
    at address (inr high) = let past : slice_index counts address ≡ 0 = get_or_past counts address 0 (omega arith) in omega arith
