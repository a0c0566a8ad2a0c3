-- Ports take turns.
use Rattle.std.proofs.Common.{◌≡◌, ℕ, zero, suc, ◌+◌, ◌-◌, ◌%◌, ◌<◌, ◌≤◌, ◌==◌, Bool, true, false, cond, Option, Some, None, List, [], ◌∷◌, ◌++◌, refl, sym, ap, ◌∙◌, arith}
use Rattle.std.proofs.lemmas.Bool.{eqb-true, eq-eqb}
use Rattle.fair_queue.specs.Arrivals.{Arrival}
use Rattle.fair_queue.specs.Machine.{Queued, Round, after, queue_of, filled, first_of, next_port, without_first, round_of, admitted, rounds, size, all_rounds, is_empty}
use Rattle.fair_queue.proofs.Rounds.{port-below}
use Rattle.fair_queue.specs.Turns.{times, IsReady, LeavesOut}
use Rattle.fair_queue.proofs.Order.{filled-turn, ready-filled, ready-next}

-- ---- One round, and those behind it

record IsFirst (n : ℕ) (queued : Queued) (arrivals : List Arrival) (round : Round) (rest : List Round) : Type 0 where
  count : ℕ
  port : ℕ
  next : next_port (filled queued arrivals).queued ≡ Some port
  is : round ≡ round_of (filled queued arrivals).queued port
  behind : rounds count (without_first (filled queued arrivals).queued port) (filled queued arrivals).left ≡ rest

uncons : (n : ℕ) (queued : Queued) (arrivals : List Arrival) (round : Round) (rest : List Round) → rounds n queued arrivals ≡ round ∷ rest → IsFirst n queued arrivals round rest
uncons zero queued arrivals round rest e = cc
uncons (suc n) queued arrivals round rest e = go (next_port (filled queued arrivals).queued) refl e
  where
    go : (o : Option ℕ) → next_port (filled queued arrivals).queued ≡ o → admitted (filled queued arrivals).queued o (λ later. rounds n later (filled queued arrivals).left) ≡ round ∷ rest → IsFirst (suc n) queued arrivals round rest
    go None k f = cc
    go (Some q) k f =
        let own : Round = round_of (filled queued arrivals).queued q in
        let same : own ≡ round = cc in
        record { count = n; port = q; next = k; is = sym same; behind = let g : rounds n (without_first (filled queued arrivals).queued q) (filled queued arrivals).left ≡ rest = cc in g }

record IsBehind (rest : List Round) : Type 0 where
  count : ℕ
  queued : Queued
  arrivals : List Arrival
  ready : IsReady queued arrivals
  is : rounds count queued arrivals ≡ rest

behind : (before : List Round) (n : ℕ) (queued : Queued) (arrivals : List Arrival) (rest : List Round) → IsReady queued arrivals → rounds n queued arrivals ≡ before ++ rest → IsBehind rest
behind [] n queued arrivals rest r e = record { count = n; queued = queued; arrivals = arrivals; ready = r; is = e }
behind (round ∷ before) n queued arrivals rest r e =
    let f = uncons n queued arrivals round (before ++ rest) e in
    behind before f.count (without_first (filled queued arrivals).queued f.port) (filled queued arrivals).left rest (ready-next _ _ f.port (ready-filled queued arrivals r)) f.behind

-- ---- Ports in cyclic order

-- the port so many steps on
abbrev on : ℕ → ℕ → ℕ
on turn steps = (turn + steps) % 4

record IsBetween (turn low high port : ℕ) : Type 0 where
  steps : ℕ
  from : low ≤ steps
  upto : steps ≤ high
  is : port ≡ on turn steps

-- the search finds a port no further than one that is known to have a rest
found-before : (queued : Queued) (turn high goal : ℕ) → is_empty (queue_of queued goal) ≡ false → goal ≡ on turn high → (d count low port : ℕ) → d < count → high ≡ low + d → first_of queued count (on turn low) ≡ Some port → IsBetween turn low high port
found-before queued turn high goal full is d zero low port lt e f = absurd (omega (arith, lt))
found-before queued turn high goal full is zero (suc count) low port lt e f =
    let same : on turn low ≡ goal = ap (on turn) (let k : low ≡ high = omega (arith, e) in k) ∙ sym is in
    let here : Some (on turn low) ≡ Some port = sym (ap (λ b. cond b (first_of queued count (after (on turn low))) (Some (on turn low))) (ap (λ p. is_empty (queue_of queued p)) same ∙ full)) ∙ f in
    let at : on turn low ≡ port = cc in
    record { steps = low; from = omega arith; upto = omega (arith, e); is = sym at }
found-before queued turn high goal full is (suc d) (suc count) low port lt e f =
    step (is_empty (queue_of queued (on turn low))) f (found-before queued turn high goal full is d count (suc low) port (omega (arith, lt)) (omega (arith, e)))
  where
    further : after (on turn low) ≡ on turn (suc low)
    further = omega arith

    step : (b : Bool) → cond b (first_of queued count (after (on turn low))) (Some (on turn low)) ≡ Some port → (first_of queued count (on turn (suc low)) ≡ Some port → IsBetween turn (suc low) high port) → IsBetween turn low high port
    step true k ih =
        let h = ih (ap (first_of queued count) (sym further) ∙ k) in
        let from = h.from in
        record { steps = h.steps; from = omega (arith, from); upto = h.upto; is = h.is }
    step false k ih = let at : on turn low ≡ port = cc in record { steps = low; from = omega arith; upto = omega (arith, e); is = sym at }

-- each of the rounds is of a port further on
abbrev GoOn : ℕ → ℕ → ℕ → List Round → Type 0
GoOn turn low high [] = Unit {0}
GoOn turn low high (round ∷ rounds) = (steps : ℕ) × (low ≤ steps) × (steps < high) × (round.port ≡ on turn steps) × GoOn turn (suc steps) high rounds

not-same : (turn high steps port goal : ℕ) → port ≡ on turn steps → goal ≡ on turn high → (port == goal) ≡ false → steps ≤ high → steps < high
not-same turn high steps port goal e f ne le = go (steps == high) refl
  where
    go : (b : Bool) → (steps == high) ≡ b → steps < high
    go true k =
        let same : port ≡ goal = e ∙ ap (on turn) (eqb-true steps high k) ∙ sym f in
        let t : true ≡ false = sym (eq-eqb port goal same) ∙ ne in cc
    go false k = less steps high k le
      where
        less : (a b : ℕ) → (a == b) ≡ false → a ≤ b → a < b
        less a b k le = grind arith

-- what is missing to a bound
record Gap (low high : ℕ) : Type 0 where
  size : ℕ
  is : high ≡ low + size

gap : (low high : ℕ) → low ≤ high → Gap low high
gap low high le = record { size = high - low; is = omega (arith, le) }

goes-on : (between : List Round) (n : ℕ) (queued : Queued) (arrivals : List Arrival) (last : List Round) (turn low high goal : ℕ) → IsReady queued arrivals → queued.turn ≡ on turn low → goal ≡ on turn high → low ≤ high → high < 4 → rounds n queued arrivals ≡ between ++ last → LeavesOut goal between
    → GoOn turn low high between
goes-on [] n queued arrivals last turn low high goal r t g le lt e out = tt
goes-on (round ∷ between) n queued arrivals last turn low high goal r t g le lt e out =
    let f = uncons n queued arrivals round (between ++ last) e in
    let mid : Queued = (filled queued arrivals).queued in
    let at : mid.turn ≡ on turn low = filled-turn queued arrivals ∙ t in
    let d = gap low high le in
    let size = d.is in
    let full : is_empty (queue_of mid goal) ≡ false = ap (λ (v : Round). is_empty (queue_of v.from goal)) (sym f.is) ∙ out.1 in
    let b = found-before mid turn high goal full g d.size 4 low f.port (omega (arith, size, lt)) d.is (ap (first_of mid 4) (sym at) ∙ f.next) in
    let own : round.port ≡ f.port = ap (λ (v : Round). v.port) f.is in
    let less = not-same turn high b.steps f.port goal b.is g (ap (λ p. p == goal) (sym own) ∙ out.0) b.upto in (
      b.steps,
      b.from,
      less,
      own ∙ b.is,
      goes-on between f.count (without_first mid f.port) (filled queued arrivals).left last turn (suc b.steps) high goal (ready-next _ _ f.port (ready-filled queued arrivals r))
          (ap after b.is ∙ (let k : after (on turn b.steps) ≡ on turn (suc b.steps) = omega arith in k)) g less lt f.behind out.2,
    )

-- ---- Each port at most once

none-times : (turn low high i other : ℕ) (rounds : List Round) → GoOn turn low high rounds → high < 4 → i < low → other ≡ on turn i → times other rounds ≡ 0
none-times turn low high i other [] g lt less e = refl
none-times turn low high i other (round ∷ rounds) g lt less e =
    go (round.port == other) refl (none-times turn (suc g.0) high i other rounds g.4 lt (let a = g.1 in omega (arith, a, less)) e)
  where
    go : (b : Bool) → (round.port == other) ≡ b → times other rounds ≡ 0 → cond b (suc (times other rounds)) (times other rounds) ≡ 0
    go true k ih =
        let same : on turn g.0 ≡ on turn i = sym g.3 ∙ eqb-true round.port other k ∙ e in
        let low = g.1 in let high = g.2 in
        absurd (omega (arith, same, low, high, lt, less))
    go false k ih = ih

once : (turn low high other : ℕ) (rounds : List Round) → GoOn turn low high rounds → high < 4 → times other rounds ≤ 1
once turn low high other [] g lt = omega arith
once turn low high other (round ∷ rounds) g lt = go (round.port == other) refl (once turn (suc g.0) high other rounds g.4 lt)
  where
    go : (b : Bool) → (round.port == other) ≡ b → times other rounds ≤ 1 → cond b (suc (times other rounds)) (times other rounds) ≤ 1
    go true k ih =
        let z = none-times turn (suc g.0) high g.0 other rounds g.4 lt (omega arith) (sym (eqb-true round.port other k) ∙ g.3) in
        let f : suc (times other rounds) ≤ 1 = omega (arith, z) in f
    go false k ih = ih

pub takes-turns : (queued : Queued) (arrivals : List Arrival) (before between last : List Round) (first : Round) (other : ℕ) → IsReady queued arrivals → all_rounds queued arrivals ≡ before ++ first ∷ (between ++ last) → LeavesOut first.port between → times other between ≤ 1
unfolding all_rounds
takes-turns queued arrivals before between last first other r e out =
    let b = behind before (size queued arrivals) queued arrivals (first ∷ (between ++ last)) r e in
    let f = uncons b.count b.queued b.arrivals first (between ++ last) b.is in
    let mid = ready-filled b.queued b.arrivals b.ready in
    let low = port-below (filled b.queued b.arrivals).queued f.port mid.turn f.next in
    let own : first.port ≡ f.port = ap (λ (v : Round). v.port) f.is in
    let turn : ℕ = after f.port in
    let t : after f.port ≡ on turn 0 = omega arith in
    let g : first.port ≡ on turn 3 = own ∙ (let k : f.port ≡ ((f.port + 1) % 4 + 3) % 4 = omega (arith, low) in k) in
    once turn 0 3 other between
    (goes-on between f.count (without_first (filled b.queued b.arrivals).queued f.port) (filled b.queued b.arrivals).left last turn 0 3 first.port (ready-next _ _ f.port mid) t g (omega arith) (omega arith) f.behind out)
    (omega arith)
