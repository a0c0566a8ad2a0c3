-- The rests of a merge are lines: none of them has a line feed.
use Rattle.std.proofs.Common.{◌≡◌, ◌≢◌, ℕ, zero, suc, ◌<◌, ◌-◌, ◌==◌, ◌&&◌, ◌||◌, Bool, true, false, cond, nat_lt, Option, Some, None, List, [], ◌∷◌, refl, sym, subst}
use Rattle.std.specs.List.{slice_split, onto_first}
use Rattle.std.proofs.lemmas.Bool.{eq-eqb, eqb-false}
use Rattle.std.proofs.lemmas.List.Elements.{All-nil, All-cons, All-tail}
use Rattle.std.proofs.lemmas.List.Splits.{slice_split-cons_yes, slice_split-cons_no}
use Rattle.ddr_io.specs.Line.{HasNoFeed}
use Rattle.ddr_text.specs.Opening.{is_feed, is_long, parts_of}
use Rattle.fair_queue.specs.Arrivals.{Arrival, Input, MOST, arrival_of, at_end, framed, input_from, input_of, is_port, with_line}
use Rattle.fair_queue.specs.Machine.{Queued, Round, admitted, all_rounds, empty, filled, next_port, rounds, size, without_first}
use Rattle.fair_queue.specs.Merged.{rests_of}
use Rattle.fair_queue.specs.Parsed.{AreLines}
use Rattle.fair_queue.specs.Turns.{admitted_of, arrived_of, IsReady}
use Rattle.fair_queue.proofs.Fair.{fair, ready}
use Rattle.fair_queue.proofs.Order.{ready-filled, ready-next}
use Rattle.fair_queue.proofs.Rounds.{port-below}

-- ---- The parts of bytes

abbrev Other : ℕ → Type 0
Other byte = byte ≢ 10

clean-onto : (x : ℕ) (parts : List (List ℕ)) → x ≢ 10 → AreLines parts → AreLines (onto_first x parts)
clean-onto x [] other clean = (All-cons Other x [] other (All-nil Other), tt)
clean-onto x (part ∷ parts) other clean = (All-cons Other x part other clean.0, clean.1)

clean-split : (xs : List ℕ) → AreLines (slice_split is_feed xs)
clean-split [] = (All-nil Other, tt)
clean-split (x ∷ xs) = go (is_feed x) refl (clean-split xs)
  where
    go : (b : Bool) → is_feed x ≡ b → AreLines (slice_split is_feed xs) → AreLines (slice_split is_feed (x ∷ xs))
    go true e clean = subst AreLines (sym (slice_split-cons_yes is_feed x xs e)) (All-nil Other, clean)
    go false e clean = subst AreLines (sym (slice_split-cons_no is_feed x xs e)) (clean-onto x (slice_split is_feed xs) (eqb-false x 10 e) clean)

clean-parts : (bytes : List ℕ) → AreLines (parts_of bytes)
unfolding parts_of
clean-parts bytes = clean-split bytes

-- ---- The lines of ports

abbrev AreFree : List Arrival → Type 0
AreFree [] = Unit {0}
AreFree (arrival ∷ arrivals) = HasNoFeed arrival.rest × AreFree arrivals

arrival-free : (text : List ℕ) (a : Arrival) → HasNoFeed text → arrival_of text ≡ Some a → HasNoFeed a.rest
arrival-free [] a clean e = cc
arrival-free (digit ∷ []) a clean e = cc
arrival-free (digit ∷ space ∷ rest) a clean e = go (is_port digit && space == 32) e
  where
    go : (b : Bool) → cond b (Some (record { port = digit - 48; rest = rest })) None ≡ Some a → HasNoFeed a.rest
    go true e =
        let own : Arrival = record { port = digit - 48; rest = rest } in
        let same : own ≡ a = cc in
        subst (λ (v : Arrival). HasNoFeed v.rest) same (All-tail Other space rest (All-tail Other digit (space ∷ rest) clean))
    go false e = cc

frame-free : (n : ℕ) (text : List ℕ) (a : Arrival) → HasNoFeed text → framed n text ≡ Some a → HasNoFeed a.rest
unfolding framed
frame-free n text a clean e = go (nat_lt MOST n || is_long text) e
  where
    go : (t : Bool) → cond t None (arrival_of text) ≡ Some a → HasNoFeed a.rest
    go true k = cc
    go false k = arrival-free text a clean k

with-free : (f : Option Arrival) (rest : Input) → ((a : Arrival) → f ≡ Some a → HasNoFeed a.rest) → AreFree rest.lines → AreFree (with_line f rest).lines
with-free None rest h free = tt
with-free (Some a) rest h free = (h a refl, free)

end-free : (bytes : List ℕ) → AreFree (at_end bytes).lines
end-free [] = tt
end-free (byte ∷ bytes) = tt

input-free : (n : ℕ) (parts : List (List ℕ)) → AreLines parts → AreFree (input_from n parts).lines
input-free n [] clean = tt
input-free n (rest ∷ []) clean = end-free rest
input-free n (text ∷ next ∷ parts) clean = with-free (framed n text) (input_from (suc n) (next ∷ parts)) (λ a. frame-free n text a clean.0) (input-free (suc n) (next ∷ parts) clean.1)

arrived-lines : (port : ℕ) (arrivals : List Arrival) → AreFree arrivals → AreLines (arrived_of port arrivals)
arrived-lines port [] free = tt
arrived-lines port (arrival ∷ arrivals) free = go (arrival.port == port) (arrived-lines port arrivals free.1)
  where
    go : (b : Bool) → AreLines (arrived_of port arrivals) → AreLines (cond b (arrival.rest ∷ arrived_of port arrivals) (arrived_of port arrivals))
    go true lines = (free.0, lines)
    go false lines = lines

-- ---- The rests

abbrev AreLow : List Round → Type 0
AreLow [] = Unit {0}
AreLow (round ∷ rounds) = (round.port < 4) × AreLow rounds

rounds-low : (n : ℕ) (queued : Queued) (arrivals : List Arrival) → IsReady queued arrivals → AreLow (rounds n queued arrivals)
rounds-low zero queued arrivals r = tt
rounds-low (suc n) queued arrivals r =
    go (next_port (filled queued arrivals).queued) refl (λ q. rounds-low n (without_first (filled queued arrivals).queued q) (filled queued arrivals).left (ready-next _ _ q (ready-filled queued arrivals r)))
  where
    go : (o : Option ℕ) → next_port (filled queued arrivals).queued ≡ o → ((q : ℕ) → AreLow (rounds n (without_first (filled queued arrivals).queued q) (filled queued arrivals).left))
        → AreLow (admitted (filled queued arrivals).queued o (λ later. rounds n later (filled queued arrivals).left))
    go None e ih = tt
    go (Some q) e ih = let filled_ready = ready-filled queued arrivals r in (port-below (filled queued arrivals).queued q filled_ready.turn e, ih q)

all-low : (queued : Queued) (arrivals : List Arrival) → IsReady queued arrivals → AreLow (all_rounds queued arrivals)
unfolding all_rounds
all-low queued arrivals r = rounds-low (size queued arrivals) queued arrivals r

own-line : (round : Round) (later : List (List ℕ)) (b : Bool) → b ≡ true → AreLines (cond b (round.rest ∷ later) later) → HasNoFeed round.rest
own-line round later true e lines = lines.0
own-line round later false e lines = cc

later-lines : (round : Round) (later : List (List ℕ)) (b : Bool) → AreLines (cond b (round.rest ∷ later) later) → AreLines later
later-lines round later true lines = lines.1
later-lines round later false lines = lines

rests-lines : (rounds : List Round) → AreLow rounds → ((port : ℕ) → port < 4 → AreLines (admitted_of port rounds)) → AreLines (rests_of rounds)
rests-lines [] low lines = tt
rests-lines (round ∷ rounds) low lines = (
  own-line round (admitted_of round.port rounds) (round.port == round.port) (eq-eqb round.port round.port refl) (lines round.port low.0),
  rests-lines rounds low.1 (λ port k. later-lines round (admitted_of port rounds) (round.port == port) (lines port k)),
)

pub clean-rests : (bytes : List ℕ) → AreLines (rests_of (all_rounds empty (input_of bytes).lines))
clean-rests bytes =
    let f = fair bytes in
    rests-lines (all_rounds empty (input_of bytes).lines) (all-low empty (input_of bytes).lines (ready bytes))
    (λ port low. subst AreLines (sym (f.order port low)) (arrived-lines port (input_of bytes).lines (input-free 1 (parts_of bytes) (clean-parts bytes))))
