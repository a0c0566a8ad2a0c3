-- What a refresh, an ECS and any other place do to the rounds.
use Rattle.std.proofs.Common.{◌≡◌, ◌∙◌, ℕ, zero, suc, ◌+◌, ◌*◌, ◌/◌, ◌≤◌, ◌<◌, Bool, true, false, ◌==◌, refl, ap, arith, cond, ◌∷◌, nat_lt, ltb-true, ltb-false, lt-ltb, eq-eqb, ne_eqb, ◌≢◌}
use Rattle.std.proofs.Math.Nat.{div-mul-le_self, lt-div-mul-add}
use Rattle.std.proofs.lemmas.Nat.{div_below, le-div}
use Rattle.command_words.specs.declared.command.Command.TheVariants.{RefAb, RefSb, Ecs}
use Rattle.speed_bin.specs.declared.header.Header.{Header}
use Rattle.speed_bin.specs.Log.{Issued, Log, refs, scrubs}
use Rattle.speed_bin.specs.Gap.{n_col}
use Rattle.deadlines.specs.Rounds.{next_due, ecs_due, ecs_after, Rounds, round, per_task, limit, begun}
use Rattle.deadlines.specs.Timely.{IsTurnOf}
use Rattle.deadlines.proofs.Rounds.{refs_all, refs_own, refs_other, refs_scrub, scrubs_scrub, next_due_same, round_is, limit_is}

-- ---- Where no address is refreshed

pub record SameRefs (h : Header) (place : Issued) (log : Log) : Type 0 where
  pub each : (a : ℕ) → refs a (place ∷ log) ≡ refs a log
  pub due : next_due h (place ∷ log) ≡ next_due h log
  pub rounds : round (place ∷ log) ≡ round log
  pub limits : limit h (place ∷ log) ≡ limit h log
  pub begins : begun (place ∷ log) ≡ begun log

round_same : (place : Issued) (log : Log) → ((a : ℕ) → refs a (place ∷ log) ≡ refs a log) → round (place ∷ log) ≡ round log
unfolding round
round_same place log e =
    let a = e 0 in
    let b = e 1 in
    let c = e 2 in
    let d = e 3 in
    omega arith

begun_same : (place : Issued) (log : Log) → ((a : ℕ) → refs a (place ∷ log) ≡ refs a log) → begun (place ∷ log) ≡ begun log
unfolding begun
begun_same place log e = ap (λ (n : ℕ). nat_lt n (refs 0 (place ∷ log))) (e 3) ∙ ap (λ (n : ℕ). nat_lt (refs 3 log) n) (e 0)

limit_same : (h : Header) (place : Issued) (log : Log) → next_due h (place ∷ log) ≡ next_due h log → round (place ∷ log) ≡ round log → limit h (place ∷ log) ≡ limit h log
unfolding limit
limit_same h place log a b = ap (λ (n : ℕ). n + 4 * per_task h + round (place ∷ log) * (2 * per_task h) + 32 * n_col h.timing) a ∙ ap (λ (n : ℕ). next_due h log + 4 * per_task h + n * (2 * per_task h) + 32 * n_col h.timing) b

pub same_refs : (h : Header) (place : Issued) (log : Log) → ((a : ℕ) → refs a (place ∷ log) ≡ refs a log) → SameRefs h place log
same_refs h place log e = record {
  each = e;
  due = next_due_same h place log (e 3);
  rounds = round_same place log e;
  limits = limit_same h place log (next_due_same h place log (e 3)) (round_same place log e);
  begins = begun_same place log e;
}

pub ecs_same : (h : Header) (place : Issued) (log : Log) → refs 0 (place ∷ log) ≡ refs 0 log → scrubs (place ∷ log) ≡ scrubs log → ecs_due h (place ∷ log) ≡ ecs_due h log
unfolding ecs_due
ecs_same h place log a b = ap (λ (n : ℕ). ecs_after h n (refs 0 (place ∷ log))) b ∙ ap (λ (n : ℕ). ecs_after h (scrubs log) n) a

not_same : (m n : ℕ) → (m == n) ≡ false → m ≢ n
not_same m n k e = let t = eq-eqb m n e in absurd (cc)

-- what an ECS that is due or not due says
pub ecs_true : (h : Header) (log : Log) → ecs_due h log ≡ true → (1 ≤ h.settings.ecs_every) × (scrubs log < refs 0 log / h.settings.ecs_every)
unfolding ecs_due
ecs_true h log e = go (h.settings.ecs_every == 0) refl e
  where
    go : (x : Bool) → (h.settings.ecs_every == 0) ≡ x → cond x false (nat_lt (scrubs log) (refs 0 log / h.settings.ecs_every)) ≡ true → (1 ≤ h.settings.ecs_every) × (scrubs log < refs 0 log / h.settings.ecs_every)
    go true is k = absurd (cc)
    go false is k = (let n : h.settings.ecs_every ≢ 0 = not_same h.settings.ecs_every 0 is in omega arith, ltb-true _ _ k)

pub ecs_false : (h : Header) (log : Log) → ecs_due h log ≡ false → 1 ≤ h.settings.ecs_every → refs 0 log / h.settings.ecs_every ≤ scrubs log
unfolding ecs_due
ecs_false h log e some =
    let n : (h.settings.ecs_every == 0) ≡ false = ne_eqb h.settings.ecs_every 0 (λ k. omega arith) in
    let k : nat_lt (scrubs log) (refs 0 log / h.settings.ecs_every) ≡ false = rw n at e in
    ltb-false _ _ k

pub ecs_from : (h : Header) (log : Log) → h.settings.ecs_every ≢ 0 → scrubs log < refs 0 log / h.settings.ecs_every → ecs_due h log ≡ true
unfolding ecs_due
ecs_from h log some few =
    let n : (h.settings.ecs_every == 0) ≡ false = ne_eqb h.settings.ecs_every 0 some in
    rw n (lt-ltb _ _ few)

-- an ECS ends what is due
pub ecs_done : (h : Header) (place : Issued) (log : Log) → place.command ≡ Ecs → (1 ≤ h.settings.ecs_every → refs 0 log / h.settings.ecs_every ≤ suc (scrubs log)) → ecs_due h (place ∷ log) ≡ false
ecs_done h place log e soon = go (ecs_due h (place ∷ log)) refl
  where
    go : (x : Bool) → ecs_due h (place ∷ log) ≡ x → x ≡ false
    go false is = refl
    go true is =
        let p = ecs_true h (place ∷ log) is in
        let s = scrubs_scrub place log e in
        let r = refs_scrub 0 place log e in
        let q : refs 0 (place ∷ log) / h.settings.ecs_every ≡ refs 0 log / h.settings.ecs_every = ap (λ (n : ℕ). n / h.settings.ecs_every) r in
        let k = soon p.0 in
        let low = p.1 in
        absurd (omega arith)

-- one more refresh of address 0 makes at most one more ECS due
pub quotient_next : (k n : ℕ) → 1 ≤ k → (n / k ≤ suc n / k) × (suc n / k ≤ suc (n / k))
quotient_next k n some =
    let a = div-mul-le_self n k in
    let b : n < n / k * k + k = lt-div-mul-add some in
    let c : suc n / k < suc (suc (n / k)) = div_below (suc n) k (suc (suc (n / k))) some (let m : suc (suc (n / k)) * k ≡ n / k * k + k + k = omega arith in omega arith) in
    (le-div (n / k) (suc n) k some (omega arith), omega arith)

pub rounds_same : (h : Header) (place : Issued) (log : Log) → SameRefs h place log → Rounds log → Rounds (place ∷ log)
rounds_same h place log s r =
    let a = s.each 0 in
    let b = s.each 1 in
    let c = s.each 2 in
    let d = s.each 3 in
    let p = r.first in
    let q = r.second in
    let u = r.third in
    let v = r.whole in
    record { first = omega arith; second = omega arith; third = omega arith; whole = omega arith }

-- ---- A refresh of an address before the last one

pub record NextTurn (h : Header) (place : Issued) (log : Log) : Type 0 where
  pub same : refs 3 (place ∷ log) ≡ refs 3 log
  pub whole : refs 0 (place ∷ log) ≡ suc (refs 3 log)
  pub sum : refs 0 (place ∷ log) + refs 1 (place ∷ log) + refs 2 (place ∷ log) ≡ suc (refs 0 log + refs 1 log + refs 2 log)
  pub rounds : Rounds (place ∷ log)

pub next_turn : (h : Header) (address : ℕ) (place : Issued) (log : Log) → Rounds log → IsTurnOf address log → address < 3 → place.command ≡ RefSb address → NextTurn h place log
next_turn h zero place log r t low e =
    let a = refs_own 0 place log e in
    let b = refs_other 1 0 place log e (λ k. omega arith) in
    let c = refs_other 2 0 place log e (λ k. omega arith) in
    let d = refs_other 3 0 place log e (λ k. omega arith) in
    let w = t.waits in
    let p = r.first in
    let q = r.second in
    let u = r.third in
    record { same = d; whole = omega arith; sum = omega arith; rounds = record { first = omega arith; second = omega arith; third = omega arith; whole = omega arith } }
next_turn h (suc zero) place log r t low e =
    let a = refs_other 0 1 place log e (λ k. omega arith) in
    let b = refs_own 1 place log e in
    let c = refs_other 2 1 place log e (λ k. omega arith) in
    let d = refs_other 3 1 place log e (λ k. omega arith) in
    let w = t.waits in
    let x = t.earlier 0 (omega arith) in
    let p = r.first in
    let q = r.second in
    record { same = d; whole = omega arith; sum = omega arith; rounds = record { first = omega arith; second = omega arith; third = omega arith; whole = omega arith } }
next_turn h (suc (suc zero)) place log r t low e =
    let a = refs_other 0 2 place log e (λ k. omega arith) in
    let b = refs_other 1 2 place log e (λ k. omega arith) in
    let c = refs_own 2 place log e in
    let d = refs_other 3 2 place log e (λ k. omega arith) in
    let w = t.waits in
    let x = t.earlier 0 (omega arith) in
    let y = t.earlier 1 (omega arith) in
    record { same = d; whole = omega arith; sum = omega arith; rounds = record { first = omega arith; second = omega arith; third = omega arith; whole = omega arith } }
next_turn h (suc (suc (suc n))) place log r t low e = absurd (omega arith)

pub round_next : (h : Header) (place : Issued) (log : Log) → Rounds log → NextTurn h place log → round (place ∷ log) ≡ suc (round log)
round_next h place log r n =
    let a = round_is log r in
    let b = round_is (place ∷ log) n.rounds in
    let c = n.same in
    let d = n.sum in
    let e = a.0 in
    let f = b.0 in
    omega arith

pub limit_next : (h : Header) (place : Issued) (log : Log) → Rounds log → NextTurn h place log → limit h (place ∷ log) ≡ limit h log + 2 * per_task h
limit_next h place log r n =
    let a = limit_is h log in
    let b = limit_is h (place ∷ log) in
    let c = next_due_same h place log n.same in
    let d : round (place ∷ log) * (2 * per_task h) ≡ suc (round log) * (2 * per_task h) = ap (λ (k : ℕ). k * (2 * per_task h)) (round_next h place log r n) in
    omega arith

-- ---- The refresh that completes a round

pub record Complete (place : Issued) (log : Log) : Type 0 where
  pub first : refs 0 (place ∷ log) ≡ suc (refs 3 log)
  pub second : refs 1 (place ∷ log) ≡ suc (refs 3 log)
  pub third : refs 2 (place ∷ log) ≡ suc (refs 3 log)
  pub fourth : refs 3 (place ∷ log) ≡ suc (refs 3 log)

pub complete_same : (place : Issued) (log : Log) → IsTurnOf 3 log → place.command ≡ RefSb 3 → Complete place log
complete_same place log t e =
    let a = refs_other 0 3 place log e (λ k. omega arith) in
    let b = refs_other 1 3 place log e (λ k. omega arith) in
    let c = refs_other 2 3 place log e (λ k. omega arith) in
    let d = refs_own 3 place log e in
    let x = t.earlier 0 (omega arith) in
    let y = t.earlier 1 (omega arith) in
    let z = t.earlier 2 (omega arith) in
    record { first = omega arith; second = omega arith; third = omega arith; fourth = d }

pub complete_all : (place : Issued) (log : Log) → Rounds log → refs 0 log ≡ refs 3 log → place.command ≡ RefAb → Complete place log
complete_all place log r all e =
    let a = refs_all 0 place log e in
    let b = refs_all 1 place log e in
    let c = refs_all 2 place log e in
    let d = refs_all 3 place log e in
    let p = r.first in
    let q = r.second in
    let u = r.third in
    record { first = omega arith; second = omega arith; third = omega arith; fourth = d }

pub complete_rounds : (place : Issued) (log : Log) → Complete place log → Rounds (place ∷ log)
complete_rounds place log k =
    let a = k.first in
    let b = k.second in
    let c = k.third in
    let d = k.fourth in
    record { first = omega arith; second = omega arith; third = omega arith; whole = omega arith }
