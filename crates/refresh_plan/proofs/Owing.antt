-- Debts by the refreshes that a plan holds.
use Rattle.std.proofs.Common.{◌≡◌, ◌∙◌, ℕ, ◌+◌, ◌*◌, ◌/◌, ◌<◌, ◌≤◌, ◌^◌, ◌↔◌, true, ◌≢◌, List, slice_index, sym, ap, arith, not, nat_eq, nat_lt, IsTrue, to_z, of_z, w64, ltb-true}
use Rattle.std.proofs.lemmas.Bool.{lt-ltb}
use Rattle.std.specs.Prelude.{pos, ◌-ℤ◌, ◌≤ℤ◌, ◌<ℤ◌}
use Rattle.std.proofs.lemmas.Int.{ints}
use Rattle.std.proofs.Math.Nat.{div-lt_iff_lt-mul, div-le_self}
use Rattle.speed_bin.specs.declared.header.Header.{Header}
use Rattle.speed_bin.specs.Log.{Log, refs, scrubs}
use Rattle.refresh_plan.specs.Held.{Held}
use Rattle.refresh_plan.specs.Standing.{Keeps}
use Rattle.refresh_plan.specs.Debts.{debt, IsNothingDue, IsMostBehind}

pub below_two : (passed refreshed : ℕ) → passed < refreshed + 2 → (pos passed -ℤ pos refreshed) <ℤ pos 2
below_two passed refreshed h = omega (arith, ints)

pub below_back : (passed refreshed : ℕ) → (pos passed -ℤ pos refreshed) <ℤ pos 2 → passed < refreshed + 2
below_back passed refreshed h = omega (arith, ints)

fewer_le : (passed a b : ℕ) → a ≤ b → (pos passed -ℤ pos b) ≤ℤ (pos passed -ℤ pos a)
fewer_le passed a b h = omega (arith, ints)

fewer_lt : (passed a b : ℕ) → a < b → (pos passed -ℤ pos b) <ℤ (pos passed -ℤ pos a)
fewer_lt passed a b h = omega (arith, ints)

-- the address with the fewest refreshes, the first that has so few
pub record Fewest (counts : List ℕ) (address : ℕ) : Type 0 where
  pub in_range : address < 4
  pub fewest : (other : ℕ) → other < 4 → slice_index counts address ≤ slice_index counts other
  pub first : (other : ℕ) → other < address → slice_index counts address < slice_index counts other

pub nothing_due : (it : Held) (h : Header) (log : Log) (clock address : ℕ) → Keeps it h log → Fewest it.refreshes address → clock / it.interval < slice_index it.refreshes address + 2 → IsNothingDue h clock log
nothing_due it h log clock address keeps least early = λ other low.
    let few = least.fewest other low in
    let count = keeps.counts other low in
    let passed : clock / it.interval ≡ clock / h.timing.nrefi = ap (λ (n : ℕ). clock / n) keeps.interval in
    below_two (clock / h.timing.nrefi) (refs other log) (omega (arith, passed))

pub early_where_nothing_due : (it : Held) (h : Header) (log : Log) (clock address : ℕ) → Keeps it h log → Fewest it.refreshes address → IsNothingDue h clock log → clock / it.interval < slice_index it.refreshes address + 2
early_where_nothing_due it h log clock address keeps least nothing =
    let low = least.in_range in
    let count = keeps.counts address low in
    let passed : clock / it.interval ≡ clock / h.timing.nrefi = ap (λ (n : ℕ). clock / n) keeps.interval in
    let early = below_back (clock / h.timing.nrefi) (refs address log) (nothing address low) in
    omega (arith, passed)

pub most_behind : (it : Held) (h : Header) (log : Log) (clock address : ℕ) → Keeps it h log → Fewest it.refreshes address → IsMostBehind h clock log address
most_behind it h log clock address keeps least = record {
  in_range = least.in_range;
  greatest = λ other low. (let few = least.fewest other low in let a = keeps.counts address least.in_range in let b = keeps.counts other low in fewer_le (clock / h.timing.nrefi) (refs address log) (refs other log) (omega arith));
  first = λ other low. (let in_range = least.in_range in let few = least.first other low in let a = keeps.counts address least.in_range in let b = keeps.counts other (omega arith) in fewer_lt (clock / h.timing.nrefi) (refs address log) (refs other log) (omega arith));
}

-- ---- The least clock

pub early_clock : (clock interval n : ℕ) → 1 ≤ interval → (clock < n * interval) ↔ (clock / interval < n)
early_clock clock interval n some = let e = div-lt_iff_lt-mul {k = interval} {x = clock} {y = n} some in (e.1, e.0)

pub next_due_is : (it : Held) (h : Header) (log : Log) (clock address : ℕ) → Keeps it h log → Fewest it.refreshes address → 1 ≤ it.interval → (clock < (slice_index it.refreshes address + 2) * it.interval) ↔ IsNothingDue h clock log
next_due_is it h log clock address keeps least some =
    let e = early_clock clock it.interval (slice_index it.refreshes address + 2) some in
    (λ early. nothing_due it h log clock address keeps least (e.0 early), λ nothing. e.1 (early_where_nothing_due it h log clock address keeps least nothing))

-- ---- The code's arithmetic

signed_difference : (x y : ℕ) → x < 2 ^ 63 → y < 2 ^ 63 → to_z w64 (of_z w64 (to_z w64 x -ℤ to_z w64 y)) ≡ (pos x -ℤ pos y)
signed_difference x y a b = omega (arith, ints)

pub debt_is : (it : Held) (h : Header) (log : Log) (clock address : ℕ) → Keeps it h log → address < 4 → clock < 2 ^ 48 → slice_index it.refreshes address ≤ 2 ^ 48 + 4 → to_z w64 (of_z w64 (to_z w64 (clock / it.interval) -ℤ to_z w64 (slice_index it.refreshes address))) ≡ debt h clock address log
debt_is it h log clock address keeps low early few =
    let passed = div-le_self clock it.interval in
    signed_difference (clock / it.interval) (slice_index it.refreshes address) (omega arith) (omega arith)
    ∙ ap (λ (n : ℕ). pos (clock / n) -ℤ pos (slice_index it.refreshes address)) keeps.interval
    ∙ ap (λ (n : ℕ). pos (clock / h.timing.nrefi) -ℤ pos n) (keeps.counts address low)

-- ---- Scrubs

pub ecs_due_is : (it : Held) (h : Header) (log : Log) → Keeps it h log → it.every ≢ 0 → IsTrue (nat_lt it.scrubs (slice_index it.refreshes 0 / it.every)) ↔ ((h.settings.ecs_every ≢ 0) × (scrubs log < refs 0 log / h.settings.ecs_every))
ecs_due_is it h log keeps some =
    let places : slice_index it.refreshes 0 / it.every ≡ refs 0 log / h.settings.ecs_every = ap (λ (n : ℕ). n / it.every) (keeps.counts 0 (omega arith)) ∙ ap (λ (n : ℕ). refs 0 log / n) keeps.every in
    let scrubbed = keeps.scrubbed in
    (λ due. (λ none. some (keeps.every ∙ none), (let fewer = ltb-true it.scrubs (slice_index it.refreshes 0 / it.every) due in omega arith)), λ p. lt-ltb it.scrubs (slice_index it.refreshes 0 / it.every) (let fewer = p.1 in omega arith))

pub no_ecs_due : (it : Held) (h : Header) (log : Log) → Keeps it h log → it.every ≡ 0 → IsTrue (not (nat_eq it.every 0)) ↔ ((h.settings.ecs_every ≢ 0) × (scrubs log < refs 0 log / h.settings.ecs_every))
no_ecs_due it h log keeps none = (λ t. (let never : not (nat_eq 0 0) ≡ true = rw none at t in absurd cc), λ p. absurd (p.0 (sym keeps.every ∙ none)))
