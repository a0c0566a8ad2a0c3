-- The rounds of a merge, one after another.
use Rattle.std.proofs.Common.{◌≡◌, ℕ, zero, suc, ◌+◌, ◌-◌, ◌%◌, ◌<◌, ◌==◌, ◌&&◌, ◌||◌, Bool, true, false, cond, nat_lt, Option, Some, None, List, [], ◌∷◌, ◌++◌, drop, length, refl, sym, ap, ◌∙◌, subst, arith, append_assoc, length-append}
use Rattle.std.specs.Prelude.{slice_index_or, slice_set, nat_le}
use Rattle.std.specs.List.{flat_map}
use Rattle.std.proofs.lemmas.Bool.{leb-true}
use Rattle.std.proofs.lemmas.Grind.{flat_map-append}
use Rattle.ddr_text.specs.Opening.{with_feed, is_long}
use Rattle.fair_queue.specs.Arrivals.{Arrival, AreInside, Input, MOST, is_port, arrival_of, framed, with_line, at_end, input_from}
use Rattle.fair_queue.specs.Machine.{Queued, Filled, queue_of, has_room, pushed, filled, first_of, next_port, first_rest, without_first, round_of, admitted, rounds, in_queues, total, size, all_rounds, is_empty, after}
use Rattle.fair_queue.specs.Merged.{barred, barriers, one_more, is_request, rests_of, text_from, ending}
use Rattle.fair_queue.proofs.Searching.{found-full}

-- ---- Ports within their range

port-low : (digit : ℕ) (b : Bool) → (nat_le 48 digit && b) ≡ true → b ≡ true
port-low digit b e = go (nat_le 48 digit) e
  where
    go : (t : Bool) → (t && b) ≡ true → b ≡ true
    go true k = k
    go false k = cc

arrival-inside : (text : List ℕ) (a : Arrival) → arrival_of text ≡ Some a → a.port < 4
arrival-inside [] a e = cc
arrival-inside (digit ∷ []) a e = cc
arrival-inside (digit ∷ space ∷ rest) a e = go (is_port digit) refl (space == 32) e
  where
    go : (t : Bool) → is_port digit ≡ t → (u : Bool) → cond (t && u) (Some (record { port = digit - 48; rest = rest })) None ≡ Some a → a.port < 4
    go true is true k =
        let own : Arrival = record { port = digit - 48; rest = rest } in
        let same : own ≡ a = cc in
        let low = leb-true digit 51 (port-low digit (nat_le digit 51) is) in
        subst (λ (v : Arrival). v.port < 4) same (let k : digit - 48 < 4 = omega (arith, low) in k)
    go true is false k = cc
    go false is u k = cc

frame-inside : (n : ℕ) (text : List ℕ) (a : Arrival) → framed n text ≡ Some a → a.port < 4
unfolding framed
frame-inside n text a e = go (nat_lt MOST n || is_long text) e
  where
    go : (t : Bool) → cond t None (arrival_of text) ≡ Some a → a.port < 4
    go true k = cc
    go false k = arrival-inside text a k

with-inside : (f : Option Arrival) (rest : Input) → ((a : Arrival) → f ≡ Some a → a.port < 4) → AreInside rest.lines → AreInside (with_line f rest).lines
with-inside None rest h i = tt
with-inside (Some a) rest h i = (h a refl, i)

end-inside : (bytes : List ℕ) → AreInside (at_end bytes).lines
end-inside [] = tt
end-inside (byte ∷ bytes) = tt

pub input-inside : (n : ℕ) (parts : List (List ℕ)) → AreInside (input_from n parts).lines
input-inside n [] = tt
input-inside n (rest ∷ []) = end-inside rest
input-inside n (text ∷ next ∷ parts) = with-inside (framed n text) (input_from (suc n) (next ∷ parts)) (frame-inside n text) (input-inside (suc n) (next ∷ parts))

-- ---- How many rests there are

sum-set : (qs : List (List (List ℕ))) (p : ℕ) (new : List (List ℕ)) → p < length qs → total (slice_set qs p new) + length (slice_index_or qs p []) ≡ total qs + length new
sum-set [] p new low = absurd (omega (arith, low))
sum-set (q ∷ qs) zero new low = let k : length new + total qs + length q ≡ length q + total qs + length new = omega arith in k
sum-set (q ∷ qs) (suc p) new low =
    let h = sum-set qs p new (omega (arith, low)) in
    let k : length q + total (slice_set qs p new) + length (slice_index_or qs p []) ≡ length q + total qs + length new = omega (arith, h) in k

set-length : (qs : List (List (List ℕ))) (p : ℕ) (new : List (List ℕ)) → length (slice_set qs p new) ≡ length qs
set-length [] p new = refl
set-length (q ∷ qs) zero new = refl
set-length (q ∷ qs) (suc p) new = ap suc (set-length qs p new)

pub pushed-four : (queued : Queued) (a : Arrival) → length queued.queues ≡ 4 → length (pushed queued a).queues ≡ 4
pushed-four queued a four = set-length queued.queues a.port _ ∙ four

pub without-four : (queued : Queued) (port : ℕ) → length queued.queues ≡ 4 → length (without_first queued port).queues ≡ 4
without-four queued port four = set-length queued.queues port _ ∙ four

pub pushed-more : (queued : Queued) (a : Arrival) → length queued.queues ≡ 4 → a.port < 4 → in_queues (pushed queued a) ≡ suc (in_queues queued)
pushed-more queued a four low =
    let h = sum-set queued.queues a.port (queue_of queued a.port ++ a.rest ∷ []) (omega (arith, four, low)) in
    let k = length-append (queue_of queued a.port) (a.rest ∷ []) in
    omega (arith, h, k)

some-first : (rests : List (List ℕ)) → is_empty rests ≡ false → length rests ≡ suc (length (drop 1 rests))
some-first [] e = cc
some-first (r ∷ rests) e = refl

pub without-less : (queued : Queued) (port : ℕ) → length queued.queues ≡ 4 → port < 4 → is_empty (queue_of queued port) ≡ false → in_queues queued ≡ suc (in_queues (without_first queued port))
without-less queued port four low full =
    let h = sum-set queued.queues port (drop 1 (queue_of queued port)) (omega (arith, four, low)) in
    let k = some-first (queue_of queued port) full in
    omega (arith, h, k)

-- ---- Filling

-- the same queues, and the same lines left
pub room-step : (b : Bool) (queued : Queued) (a : Arrival) (arrivals : List Arrival) (P : Filled → Type 0) → (b ≡ true → P (filled (pushed queued a) arrivals)) → (b ≡ false → P (record { queued = queued; left = a ∷ arrivals }))
    → P (cond b (filled (pushed queued a) arrivals) (record { queued = queued; left = a ∷ arrivals }))
room-step true queued a arrivals P f g = f refl
room-step false queued a arrivals P f g = g refl

-- what is full stays full
pub again : (queued : Queued) (arrivals : List Arrival) → filled (filled queued arrivals).queued (filled queued arrivals).left ≡ filled queued arrivals
again queued [] = refl
again queued (a ∷ arrivals) =
    room-step (has_room queued a.port) queued a arrivals (λ f. filled f.queued f.left ≡ f) (λ e. again (pushed queued a) arrivals) (λ e. ap (λ b. cond b (filled (pushed queued a) arrivals) (record { queued = queued; left = a ∷ arrivals })) e)

pub filled-four : (queued : Queued) (arrivals : List Arrival) → length queued.queues ≡ 4 → length (filled queued arrivals).queued.queues ≡ 4
filled-four queued [] four = four
filled-four queued (a ∷ arrivals) four = room-step (has_room queued a.port) queued a arrivals (λ f. length f.queued.queues ≡ 4) (λ e. filled-four (pushed queued a) arrivals (pushed-four queued a four)) (λ e. four)

pub filled-size : (queued : Queued) (arrivals : List Arrival) → length queued.queues ≡ 4 → AreInside arrivals → size (filled queued arrivals).queued (filled queued arrivals).left ≡ size queued arrivals
filled-size queued [] four i = refl
filled-size queued (a ∷ arrivals) four i =
    room-step (has_room queued a.port) queued a arrivals (λ f. size f.queued f.left ≡ size queued (a ∷ arrivals))
    (λ e. let h = filled-size (pushed queued a) arrivals (pushed-four queued a four) i.1 in let k = pushed-more queued a four i.0 in h ∙ (let e : in_queues (pushed queued a) + length arrivals ≡ in_queues queued + suc (length arrivals) = omega (arith, k) in e))
    (λ e. refl)

pub filled-inside : (queued : Queued) (arrivals : List Arrival) → AreInside arrivals → AreInside (filled queued arrivals).left
filled-inside queued [] i = tt
filled-inside queued (a ∷ arrivals) i = room-step (has_room queued a.port) queued a arrivals (λ f. AreInside f.left) (λ e. filled-inside (pushed queued a) arrivals i.1) (λ e. i)

-- ---- One round

rounds-filled : (count : ℕ) (queued : Queued) (arrivals : List Arrival) → rounds count (filled queued arrivals).queued (filled queued arrivals).left ≡ rounds count queued arrivals
rounds-filled zero queued arrivals = refl
rounds-filled (suc count) queued arrivals = ap (λ f. admitted f.queued (next_port f.queued) (λ later. rounds count later f.left)) (again queued arrivals)

-- filling first changes nothing
pub all-filled : (queued : Queued) (arrivals : List Arrival) → length queued.queues ≡ 4 → AreInside arrivals → all_rounds (filled queued arrivals).queued (filled queued arrivals).left ≡ all_rounds queued arrivals
unfolding all_rounds
all-filled queued arrivals four i =
    ap (λ n. rounds n (filled queued arrivals).queued (filled queued arrivals).left) (filled-size queued arrivals four i) ∙ rounds-filled (size queued arrivals) queued arrivals

next-low : (queued : Queued) (count port at : ℕ) → port < 4 → first_of queued count port ≡ Some at → at < 4
next-low queued zero port at low e = cc
next-low queued (suc count) port at low e = step (is_empty (queue_of queued port)) e (next-low queued count (after port) at (let k : (port + 1) % 4 < 4 = omega arith in k))
  where
    step : (b : Bool) → cond b (first_of queued count (after port)) (Some port) ≡ Some at → (first_of queued count (after port) ≡ Some at → at < 4) → at < 4
    step true e ih = ih e
    step false e ih = let same : port ≡ at = cc in omega (arith, low, same)

pub port-below : (queued : Queued) (port : ℕ) → queued.turn < 4 → next_port queued ≡ Some port → port < 4
port-below queued port low e = next-low queued 4 queued.turn port low e

-- the queues are filled: the next round, and those behind it
pub all-next : (queued : Queued) (arrivals : List Arrival) (port : ℕ) → filled queued arrivals ≡ record { queued = queued; left = arrivals } → length queued.queues ≡ 4 → queued.turn < 4 → next_port queued ≡ Some port
    → all_rounds queued arrivals ≡ round_of queued port ∷ all_rounds (without_first queued port) arrivals
unfolding all_rounds
all-next queued arrivals port full four low next =
    let less = without-less queued port four (port-below queued port low next) (found-full queued 4 queued.turn port next) in
    let more : size queued arrivals ≡ suc (size (without_first queued port) arrivals) = omega (arith, less) in
    ap (λ n. rounds n queued arrivals) more
    ∙ ap (λ f. admitted f.queued (next_port f.queued) (λ later. rounds (size (without_first queued port) arrivals) later f.left)) full
    ∙ ap (λ o. admitted queued o (λ later. rounds (size (without_first queued port) arrivals) later arrivals)) next

rounds-none : (n : ℕ) (queued : Queued) (arrivals : List Arrival) → filled queued arrivals ≡ record { queued = queued; left = arrivals } → next_port queued ≡ None → rounds n queued arrivals ≡ []
rounds-none zero queued arrivals full next = refl
rounds-none (suc n) queued arrivals full next =
    ap (λ f. admitted f.queued (next_port f.queued) (λ later. rounds n later f.left)) full ∙ ap (λ o. admitted queued o (λ later. rounds n later arrivals)) next

pub all-none : (queued : Queued) (arrivals : List Arrival) → filled queued arrivals ≡ record { queued = queued; left = arrivals } → next_port queued ≡ None → all_rounds queued arrivals ≡ []
unfolding all_rounds
all-none queued arrivals full next = rounds-none (size queued arrivals) queued arrivals full next

-- ---- Its text

pub text-filled : (cap count : ℕ) (queued : Queued) (input : Input) (new : Queued) (left : Input) → length queued.queues ≡ 4 → AreInside input.lines → filled queued input.lines ≡ record { queued = new; left = left.lines } → input.is_bad ≡ left.is_bad
    → text_from cap count queued input ≡ text_from cap count new left
text-filled cap count queued input new left four i is bad =
    ap (λ rs. flat_map with_feed (barred cap count (rests_of rs)) ++ ending input.is_bad) (sym (all-filled queued input.lines four i) ∙ ap (λ f. all_rounds f.queued f.left) is)
    ∙ ap (λ b. flat_map with_feed (barred cap count (rests_of (all_rounds new left.lines))) ++ ending b) bad

pub text-next : (cap count : ℕ) (queued : Queued) (left : Input) (port : ℕ) → filled queued left.lines ≡ record { queued = queued; left = left.lines } → length queued.queues ≡ 4 → queued.turn < 4 → next_port queued ≡ Some port
    → text_from cap count queued left
    ≡ flat_map with_feed (barriers cap count (first_rest (queue_of queued port)) ++ first_rest (queue_of queued port) ∷ [])
    ++ text_from cap (one_more (is_request (first_rest (queue_of queued port))) count) (without_first queued port) left
text-next cap count queued left port full four low next =
    let rest = first_rest (queue_of queued port) in
    let later = barred cap (one_more (is_request rest) count) (rests_of (all_rounds (without_first queued port) left.lines)) in
    ap (λ rs. flat_map with_feed (barred cap count (rests_of rs)) ++ ending left.is_bad) (all-next queued left.lines port full four low next)
    ∙ ap (λ l. flat_map with_feed l ++ ending left.is_bad) (sym (append_assoc (barriers cap count rest) (rest ∷ []) later))
    ∙ ap (λ l. l ++ ending left.is_bad) (flat_map-append with_feed (barriers cap count rest ++ rest ∷ []) later)
    ∙ append_assoc (flat_map with_feed (barriers cap count rest ++ rest ∷ [])) (flat_map with_feed later) (ending left.is_bad)

pub text-none : (cap count : ℕ) (queued : Queued) (left : Input) → filled queued left.lines ≡ record { queued = queued; left = left.lines } → next_port queued ≡ None → text_from cap count queued left ≡ ending left.is_bad
text-none cap count queued left full next = ap (λ rs. flat_map with_feed (barred cap count (rests_of rs)) ++ ending left.is_bad) (all-none queued left.lines full next)
