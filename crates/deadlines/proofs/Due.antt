-- What is due, as the plan of the refreshes says it, and as a number that is counted from the log.
use Rattle.std.proofs.Common.{◌≡◌, ◌≢◌, ℕ, ◌+◌, ◌*◌, ◌/◌, ◌<◌, ◌≤◌, Bool, true, false, ◌⊎◌, inl, inr, refl, arith}
use Rattle.std.specs.Prelude.{pos, ◌-ℤ◌, ◌≤ℤ◌, ◌<ℤ◌}
use Rattle.std.proofs.lemmas.Int.{ints}
use Rattle.std.proofs.Math.Nat.{div-lt_iff_lt-mul}
use Rattle.speed_bin.specs.Log.{Log, refs}
use Rattle.speed_bin.specs.declared.header.Header.{Header}
use Rattle.refresh_plan.specs.Debts.{IsNothingDue, IsMostBehind}
use Rattle.refresh_plan.proofs.Owing.{below_two, below_back}
use Rattle.deadlines.specs.Rounds.{Rounds, next_due, ecs_due}
use Rattle.deadlines.specs.Timely.{IsTurnOf}
use Rattle.deadlines.specs.Turns.{IsEcsDue, IsNextDue}
use Rattle.deadlines.proofs.Rounds.{next_due_is}
use Rattle.deadlines.proofs.Refreshing.{ecs_true, ecs_from}
use Rattle.deadlines.proofs.Keeping.{least_refs}

-- ---- Debts

debt_at_most : (passed a b : ℕ) → (pos passed -ℤ pos b) ≤ℤ (pos passed -ℤ pos a) → a ≤ b
debt_at_most passed a b h = omega (arith, ints)

debt_below : (passed a b : ℕ) → (pos passed -ℤ pos b) <ℤ (pos passed -ℤ pos a) → a < b
debt_below passed a b h = omega (arith, ints)

-- ---- No refresh is due

pub before_due : (h : Header) (clock : ℕ) (log : Log) → 0 < h.timing.nrefi → IsNothingDue h clock log → clock < next_due h log
before_due h clock log some nothing =
    let e = div-lt_iff_lt-mul {k = h.timing.nrefi} {x = clock} {y = refs 3 log + 2} some in
    let d = next_due_is h log in
    let low : clock < (refs 3 log + 2) * h.timing.nrefi = e.0 (below_back (clock / h.timing.nrefi) (refs 3 log) (nothing 3 (omega arith))) in
    omega arith

pub due_after : (h : Header) (clock : ℕ) (log : Log) → 0 < h.timing.nrefi → Rounds log → clock < next_due h log → IsNothingDue h clock log
due_after h clock log some r early = λ address low.
    let e = div-lt_iff_lt-mul {k = h.timing.nrefi} {x = clock} {y = refs 3 log + 2} some in
    let d = next_due_is h log in
    let passed : clock / h.timing.nrefi < refs 3 log + 2 = e.1 (omega arith) in
    let least = (least_refs log address r low).0 in
    below_two (clock / h.timing.nrefi) (refs address log) (omega arith)

-- the least clock at which a refresh is due is the one that is counted
pub next_due_unique : (h : Header) (due : ℕ) (log : Log) → 0 < h.timing.nrefi → Rounds log → IsNextDue h log due → due ≡ next_due h log
next_due_unique h due log some r next = same due (next_due h log)
    (λ low. (next due).1 (due_after h due log some r low))
    (λ low. before_due h (next_due h log) log some ((next (next_due h log)).0 low))
  where
    cases : (a b : ℕ) → (a < b) ⊎ ((a ≡ b) ⊎ (b < a))
    cases a b = grind arith

    same : (a b : ℕ) → (a < b → a < a) → (b < a → b < b) → a ≡ b
    same a b p q = go (cases a b)
      where
        go : (a < b) ⊎ ((a ≡ b) ⊎ (b < a)) → a ≡ b
        go (inl low) = let k = p low in absurd (omega arith)
        go (inr (inl e)) = e
        go (inr (inr low)) = let k = q low in absurd (omega arith)

pub due_by : (h : Header) (clock due : ℕ) (log : Log) → IsNextDue h log due → (IsNothingDue h clock log → ⊥) → due ≤ clock
due_by h clock due log next some = go (cases clock due)
  where
    cases : (m k : ℕ) → (m < k) ⊎ (k ≤ m)
    cases m k = grind arith

    go : (clock < due) ⊎ (due ≤ clock) → due ≤ clock
    go (inl low) = absurd (some ((next clock).0 low))
    go (inr more) = more

-- ---- Whose turn it is

pub turn_is : (h : Header) (clock address : ℕ) (log : Log) → Rounds log → IsMostBehind h clock log address → IsTurnOf address log
turn_is h clock address log r behind = record {
  inside = behind.in_range;
  waits = (
      let few = debt_at_most (clock / h.timing.nrefi) (refs address log) (refs 3 log) (behind.greatest 3 (omega arith)) in
      let least = (least_refs log address r behind.in_range).0 in
      omega arith);
  earlier = λ i low. (
      let more = debt_below (clock / h.timing.nrefi) (refs address log) (refs i log) (behind.first i low) in
      let inside = behind.in_range in
      let most = (least_refs log i r (omega arith)).1 in
      let least = (least_refs log address r behind.in_range).0 in
      let whole = r.whole in
      omega arith);
}

-- ---- An ECS is due

pub ecs_is_due : (h : Header) (log : Log) → IsEcsDue h log → ecs_due h log ≡ true
ecs_is_due h log due = ecs_from h log due.0 due.1

pub ecs_not_due : (h : Header) (log : Log) → (IsEcsDue h log → ⊥) → ecs_due h log ≡ false
ecs_not_due h log none = go (ecs_due h log) refl
  where
    go : (x : Bool) → ecs_due h log ≡ x → x ≡ false
    go true e = let p = ecs_true h log e in let some = p.0 in absurd (none (positive h.settings.ecs_every some, p.1))
      where
        positive : (n : ℕ) → 1 ≤ n → n ≢ 0
        positive n some e = omega arith
    go false e = refl
