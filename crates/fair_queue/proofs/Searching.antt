-- The search for the next port.
use Rattle.std.proofs.Common.{◌≡◌, ℕ, zero, suc, ◌+◌, ◌<◌, ◌≤◌, Bool, true, false, cond, Option, Some, None, List, refl, sym, ap, ◌∙◌, arith}
use Rattle.fair_queue.specs.Machine.{Queued, after, is_empty, queue_of, first_of, next_port, first_rest, without_first}
use Rattle.fair_queue.specs.Admitting.{Admits, AdmitsIf}

pub record Left (queued : Queued) (port counter : ℕ) : Type 0 where
  pub count : ℕ
  pub all : count + counter ≡ 4
  pub is : first_of queued count port ≡ next_port queued

pub passed : (queued : Queued) (port counter : ℕ) → Left queued port counter → counter < 4 → is_empty (queue_of queued port) ≡ true → Left queued (after port) (counter + 1)
passed queued port counter left low none = go left.count left.all left.is
  where
    go : (n : ℕ) → n + counter ≡ 4 → first_of queued n port ≡ next_port queued → Left queued (after port) (counter + 1)
    go zero e f = absurd (omega (arith, e, low))
    go (suc n) e f = record { count = n; all = omega (arith, e); is = sym (ap (λ b. cond b (first_of queued n (after port)) (Some port)) none) ∙ f }

pub reached : (queued : Queued) (port counter : ℕ) → Left queued port counter → counter < 4 → is_empty (queue_of queued port) ≡ false → Some port ≡ next_port queued
reached queued port counter left low some = go left.count left.all left.is
  where
    go : (n : ℕ) → n + counter ≡ 4 → first_of queued n port ≡ next_port queued → Some port ≡ next_port queued
    go zero e f = absurd (omega (arith, e, low))
    go (suc n) e f = sym (ap (λ b. cond b (first_of queued n (after port)) (Some port)) some) ∙ f

pub all-passed : (queued : Queued) (port counter : ℕ) → Left queued port counter → 4 ≤ counter → None ≡ next_port queued
all-passed queued port counter left end = go left.count left.all left.is
  where
    go : (n : ℕ) → n + counter ≡ 4 → first_of queued n port ≡ next_port queued → None ≡ next_port queued
    go zero e f = f
    go (suc n) e f = absurd (omega (arith, e, end))

pub first-left : (queued : Queued) → Left queued queued.turn 0
first-left queued = record { count = 4; all = refl; is = refl }

-- ---- What is admitted

-- the port that is found has a rest
found-step : (queued : Queued) (count port at : ℕ) (b : Bool) → is_empty (queue_of queued port) ≡ b → (first_of queued count (after port) ≡ Some at → is_empty (queue_of queued at) ≡ false)
    → cond b (first_of queued count (after port)) (Some port) ≡ Some at → is_empty (queue_of queued at) ≡ false
found-step queued count port at true f ih e = ih e
found-step queued count port at false f ih e = let same : port ≡ at = cc in ap (λ p. is_empty (queue_of queued p)) (sym same) ∙ f

pub found-full : (queued : Queued) (count port at : ℕ) → first_of queued count port ≡ Some at → is_empty (queue_of queued at) ≡ false
found-full queued zero port at e = cc
found-full queued (suc count) port at e = found-step queued count port at (is_empty (queue_of queued port)) refl (found-full queued count (after port) at) e

takes-first : (rests : List (List ℕ)) (result : Option (List ℕ)) → is_empty rests ≡ false → Admits rests result → result ≡ Some (first_rest rests)
takes-first rests None full a = let e : is_empty rests ≡ true = ap is_empty a in let k : true ≡ false = sym e ∙ full in cc
takes-first rests (Some rest) full a = ap (λ r. Some r) a.1

pub admits-found : (old new : Queued) (port : ℕ) (result : Option (List ℕ)) → Some port ≡ next_port old → Admits (queue_of old port) result → new ≡ without_first old port → AdmitsIf old new (Some port) result
admits-found old new port result found taken is = (is, takes-first (queue_of old port) result (found-full old 4 old.turn port (sym found)) taken)

-- ---- In the loop

open_turn : (queued : Queued) (turn : ℕ) → turn ≡ queued.turn → Left queued turn 0
open_turn queued turn e = record { count = 4; all = refl; is = ap (first_of queued 4) e }

pub begins : (queued : Queued) (turn : ℕ) → turn ≡ queued.turn → Left queued turn 0
begins queued turn e = open_turn queued turn e
