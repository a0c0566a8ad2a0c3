-- The rests of each port, in their order.
use Rattle.std.proofs.Common.{◌≡◌, ◌≢◌, ℕ, zero, suc, ◌+◌, ◌%◌, ◌<◌, ◌≤◌, ◌==◌, Bool, true, false, cond, Option, Some, None, List, [], ◌∷◌, ◌++◌, drop, length, refl, sym, ap, ◌∙◌, arith, append_assoc}
use Rattle.std.specs.Prelude.{slice_index_or, slice_set}
use Rattle.std.proofs.lemmas.Bool.{eqb-true, eqb-false}
use Rattle.fair_queue.specs.Arrivals.{Arrival, AreInside}
use Rattle.fair_queue.specs.Machine.{Queued, Filled, queue_of, has_room, pushed, filled, next_port, first_rest, without_first, admitted, rounds, total, in_queues, size, all_rounds, is_empty}
use Rattle.fair_queue.proofs.Searching.{found-full}
use Rattle.fair_queue.proofs.Ending.{none-queued, empty-room}
use Rattle.fair_queue.proofs.Rounds.{again, filled-four, filled-inside, filled-size, port-below, room-step, without-four, without-less}
use Rattle.fair_queue.specs.Turns.{admitted_of, arrived_of, IsReady}

-- ---- The queue of a port

set-same : (qs : List (List (List ℕ))) (p : ℕ) (v : List (List ℕ)) → p < length qs → slice_index_or (slice_set qs p v) p [] ≡ v
set-same [] p v low = absurd (omega (arith, low))
set-same (x ∷ qs) zero v low = refl
set-same (x ∷ qs) (suc p) v low = set-same qs p v (omega (arith, low))

set-other : (qs : List (List (List ℕ))) (p q : ℕ) (v : List (List ℕ)) → p ≢ q → slice_index_or (slice_set qs p v) q [] ≡ slice_index_or qs q []
set-other [] p q v other = refl
set-other (x ∷ qs) zero zero v other = absurd (other refl)
set-other (x ∷ qs) zero (suc q) v other = refl
set-other (x ∷ qs) (suc p) zero v other = refl
set-other (x ∷ qs) (suc p) (suc q) v other = set-other qs p q v (λ e. other (ap suc e))

get-set : (qs : List (List (List ℕ))) (p q : ℕ) (v : List (List ℕ)) → p < length qs → slice_index_or (slice_set qs p v) q [] ≡ cond (p == q) v (slice_index_or qs q [])
get-set qs p q v low = go (p == q) refl
  where
    go : (b : Bool) → (p == q) ≡ b → slice_index_or (slice_set qs p v) q [] ≡ cond b v (slice_index_or qs q [])
    go true e = ap (λ k. slice_index_or (slice_set qs p v) k []) (sym (eqb-true p q e)) ∙ set-same qs p v low
    go false e = set-other qs p q v (eqb-false p q e)

queue-pushed : (queued : Queued) (a : Arrival) (port : ℕ) → length queued.queues ≡ 4 → a.port < 4 → queue_of (pushed queued a) port ≡ cond (a.port == port) (queue_of queued a.port ++ a.rest ∷ []) (queue_of queued port)
queue-pushed queued a port four low = get-set queued.queues a.port port (queue_of queued a.port ++ a.rest ∷ []) (omega (arith, four, low))

push-step : (b : Bool) (queued : Queued) (a : Arrival) (port : ℕ) (rests : List (List ℕ)) → (a.port == port) ≡ b → cond b (queue_of queued a.port ++ a.rest ∷ []) (queue_of queued port) ++ rests ≡ queue_of queued port ++ cond b (a.rest ∷ rests) rests
push-step true queued a port rests e = append_assoc (queue_of queued a.port) (a.rest ∷ []) rests ∙ ap (λ p. queue_of queued p ++ a.rest ∷ rests) (eqb-true a.port port e)
push-step false queued a port rests e = refl

filled-order : (queued : Queued) (arrivals : List Arrival) (port : ℕ) → length queued.queues ≡ 4 → AreInside arrivals → queue_of (filled queued arrivals).queued port ++ arrived_of port (filled queued arrivals).left ≡ queue_of queued port ++ arrived_of port arrivals
filled-order queued [] port four i = refl
filled-order queued (a ∷ arrivals) port four i =
    room-step (has_room queued a.port) queued a arrivals (λ f. queue_of f.queued port ++ arrived_of port f.left ≡ queue_of queued port ++ arrived_of port (a ∷ arrivals))
    (λ e. filled-order (pushed queued a) arrivals port (pushed-four' queued a four) i.1
    ∙ ap (λ q. q ++ arrived_of port arrivals) (queue-pushed queued a port four i.0) ∙ push-step (a.port == port) queued a port (arrived_of port arrivals) refl)
    (λ e. refl)
  where
    pushed-four' : (queued : Queued) (a : Arrival) → length queued.queues ≡ 4 → length (pushed queued a).queues ≡ 4
    pushed-four' queued a four = set-length queued.queues a.port _ ∙ four
      where
        set-length : (qs : List (List (List ℕ))) (p : ℕ) (new : List (List ℕ)) → length (slice_set qs p new) ≡ length qs
        set-length [] p new = refl
        set-length (q ∷ qs) zero new = refl
        set-length (q ∷ qs) (suc p) new = ap suc (set-length qs p new)

-- ---- Nothing is left

none-total : (qs : List (List (List ℕ))) (p : ℕ) → total qs ≡ 0 → slice_index_or qs p [] ≡ []
none-total [] p e = refl
none-total ([] ∷ qs) zero e = refl
none-total ((r ∷ rs) ∷ qs) zero e = absurd (omega (arith, e))
none-total (q ∷ qs) (suc p) e = none-total qs p (let k : length q + total qs ≡ 0 = e in omega (arith, k))

none-left : (arrivals : List Arrival) → length arrivals ≡ 0 → arrivals ≡ []
none-left [] e = refl
none-left (a ∷ arrivals) e = absurd (omega (arith, e))

left-shorter : (queued : Queued) (arrivals : List Arrival) → length (filled queued arrivals).left ≤ length arrivals
left-shorter queued [] = omega arith
left-shorter queued (a ∷ arrivals) = room-step (has_room queued a.port) queued a arrivals (λ f. length f.left ≤ suc (length arrivals)) (λ e. let h = left-shorter (pushed queued a) arrivals in omega (arith, h)) (λ e. omega arith)

empty-nil : (rests : List (List ℕ)) → is_empty rests ≡ true → rests ≡ []
empty-nil [] e = refl
empty-nil (r ∷ rests) e = cc

-- where no port has a rest, the input has ended
input-ended : (queued : Queued) (arrivals : List Arrival) → filled queued arrivals ≡ record { queued = queued; left = arrivals } → next_port queued ≡ None → queued.turn < 4 → AreInside arrivals → arrivals ≡ []
input-ended queued [] full none turn i = refl
input-ended queued (a ∷ arrivals) full none turn i =
    let room = empty-room queued a.port (none-queued queued a.port none turn i.0) in
    let moved : filled (pushed queued a) arrivals ≡ record { queued = queued; left = a ∷ arrivals } = sym (ap (λ b. cond b (filled (pushed queued a) arrivals) (record { queued = queued; left = a ∷ arrivals })) room) ∙ full in
    let long : length (filled (pushed queued a) arrivals).left ≡ suc (length arrivals) = ap (λ (f : Filled). length f.left) moved in
    let h = left-shorter (pushed queued a) arrivals in
    absurd (omega (arith, long, h))

-- ---- One round

first-drop : (rests : List (List ℕ)) → is_empty rests ≡ false → first_rest rests ∷ drop 1 rests ≡ rests
first-drop [] e = cc
first-drop (r ∷ rests) e = refl

admit-step : (b : Bool) (queued : Queued) (q port : ℕ) (rests : List (List ℕ)) → (q == port) ≡ b → is_empty (queue_of queued q) ≡ false
    → cond b (first_rest (queue_of queued q) ∷ (cond b (drop 1 (queue_of queued q)) (queue_of queued port) ++ rests)) (cond b (drop 1 (queue_of queued q)) (queue_of queued port) ++ rests) ≡ queue_of queued port ++ rests
admit-step true queued q port rests e full = ap (λ l. l ++ rests) (first-drop (queue_of queued q) full) ∙ ap (λ p. queue_of queued p ++ rests) (eqb-true q port e)
admit-step false queued q port rests e full = refl

pub filled-turn : (queued : Queued) (arrivals : List Arrival) → (filled queued arrivals).queued.turn ≡ queued.turn
filled-turn queued [] = refl
filled-turn queued (a ∷ arrivals) = room-step (has_room queued a.port) queued a arrivals (λ f. f.queued.turn ≡ queued.turn) (λ e. filled-turn (pushed queued a) arrivals) (λ e. refl)

pub ready-filled : (queued : Queued) (arrivals : List Arrival) → IsReady queued arrivals → IsReady (filled queued arrivals).queued (filled queued arrivals).left
ready-filled queued arrivals r = record {
  four = filled-four queued arrivals r.four;
  turn = (let t = filled-turn queued arrivals in let low = r.turn in omega (arith, t, low));
  inside = filled-inside queued arrivals r.inside;
}

pub ready-next : (queued : Queued) (arrivals : List Arrival) (port : ℕ) → IsReady queued arrivals → IsReady (without_first queued port) arrivals
ready-next queued arrivals port r = record { four = without-four queued port r.four; turn = (let k : (port + 1) % 4 < 4 = omega arith in k); inside = r.inside }

pub port-order : (n : ℕ) (queued : Queued) (arrivals : List Arrival) (port : ℕ) → IsReady queued arrivals → port < 4 → size queued arrivals ≡ n → admitted_of port (rounds n queued arrivals) ≡ queue_of queued port ++ arrived_of port arrivals
port-order zero queued arrivals port r low e =
    let none : in_queues queued ≡ 0 = omega (arith, e) in
    let ended : length arrivals ≡ 0 = omega (arith, e) in
    sym (ap (λ q. q ++ arrived_of port arrivals) (none-total queued.queues port none) ∙ ap (arrived_of port) (none-left arrivals ended))
port-order (suc n) queued arrivals port r low e = go (next_port (filled queued arrivals).queued) refl (λ q f. port-order n (without_first (filled queued arrivals).queued q) (filled queued arrivals).left port (ready-next _ _ q (ready-filled queued arrivals r)) low f) ∙ filled-order queued arrivals port r.four r.inside
  where
    f : Filled
    f = filled queued arrivals

    go : (o : Option ℕ) → next_port (filled queued arrivals).queued ≡ o
        → ((q : ℕ) → size (without_first (filled queued arrivals).queued q) (filled queued arrivals).left ≡ n → admitted_of port (rounds n (without_first (filled queued arrivals).queued q) (filled queued arrivals).left) ≡ queue_of (without_first (filled queued arrivals).queued q) port ++ arrived_of port (filled queued arrivals).left)
        → admitted_of port (admitted (filled queued arrivals).queued o (λ later. rounds n later (filled queued arrivals).left)) ≡ queue_of (filled queued arrivals).queued port ++ arrived_of port (filled queued arrivals).left
    go None k ih =
        let ready = ready-filled queued arrivals r in
        sym (ap (λ q. q ++ arrived_of port (filled queued arrivals).left) (empty-nil _ (none-queued (filled queued arrivals).queued port k ready.turn low))
        ∙ ap (arrived_of port) (input-ended (filled queued arrivals).queued (filled queued arrivals).left (again queued arrivals) k ready.turn ready.inside))
    go (Some q) k ih =
        let ready = ready-filled queued arrivals r in
        let at = port-below (filled queued arrivals).queued q ready.turn k in
        let full = found-full (filled queued arrivals).queued 4 (filled queued arrivals).queued.turn q k in
        let less = without-less (filled queued arrivals).queued q ready.four at full in
        let all = filled-size queued arrivals r.four r.inside in
        let h = ih q (omega (arith, less, all, e)) in
        let own = get-set (filled queued arrivals).queued.queues q port (drop 1 (queue_of (filled queued arrivals).queued q)) (omega (arith, ready.four, at)) in
        ap (λ l. cond (q == port) (first_rest (queue_of (filled queued arrivals).queued q) ∷ l) l) (h ∙ ap (λ l. l ++ arrived_of port (filled queued arrivals).left) own)
        ∙ admit-step (q == port) (filled queued arrivals).queued q port (arrived_of port (filled queued arrivals).left) refl full

pub order : (queued : Queued) (arrivals : List Arrival) (port : ℕ) → IsReady queued arrivals → port < 4 → admitted_of port (all_rounds queued arrivals) ≡ queue_of queued port ++ arrived_of port arrivals
unfolding all_rounds
order queued arrivals port r low = port-order (size queued arrivals) queued arrivals port r low refl
