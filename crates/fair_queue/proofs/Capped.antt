-- How many requests stand behind the last I line of a merged job.
use Rattle.std.proofs.Common.{◌≡◌, ℕ, zero, suc, ◌+◌, ◌%◌, ◌<◌, ◌≤◌, ◌==◌, ◌&&◌, ◌||◌, not, Bool, true, false, cond, List, [], ◌∷◌, ◌++◌, length, refl, sym, ap, ◌∙◌, subst, arith, Ok}
use Rattle.std.proofs.lemmas.Bool.{eqb-true, eq-eqb, eqb-false, ne_eqb}
use Rattle.std.proofs.Math.Nat.{mod-lt, mod-eq_of_lt, mod_self, suc-mod}
use Rattle.command_words.specs.Geometry.{Shape}
use Rattle.ddr_text.specs.Accepted.{TraceGrammar, SpellsTraceLine}
use Rattle.ddr_text.specs.Grammar.{trace_line_of}
use Rattle.ddr_text.specs.declared.lines.TraceLine.{TraceLine}
use Rattle.ddr_text.specs.declared.lines.TraceLine.TheVariants.{Read, Write, Flip, Idle}
use Rattle.reports.specs.Barriers.{idle_clocks}
use Rattle.reports.specs.Requests.{requests_from}
use Rattle.reports.specs.Ages.{IsCapped}
use Rattle.fair_queue.specs.Merged.{barred, barrier, is_due, is_request, one_more}
use Rattle.fair_queue.specs.Parsed.{AreRead}

-- ---- A cap, line by line

-- so many requests stand behind the last I line
abbrev pub KeepsCap : ℕ → ℕ → List TraceLine → Type 0
KeepsCap cap count [] = Unit {0}
KeepsCap cap count (Read line ∷ trace) = (count < cap) × KeepsCap cap (suc count) trace
KeepsCap cap count (Write line bytes ∷ trace) = (count < cap) × KeepsCap cap (suc count) trace
KeepsCap cap count (Flip line device bit ∷ trace) = KeepsCap cap count trace
KeepsCap cap count (Idle clocks ∷ trace) = KeepsCap cap 0 trace

within : (cap count n : ℕ) (stretch later : List TraceLine) → count ≤ cap → KeepsCap cap count (stretch ++ later) → idle_clocks stretch ≡ [] → count + length (requests_from n stretch) ≤ cap
within cap count n [] later low k e = omega (arith, low)
within cap count n (Read line ∷ stretch) later low k e = let h = within cap (suc count) (suc n) stretch later (omega (arith, k.0)) k.1 e in let g : count + suc (length (requests_from (suc n) stretch)) ≤ cap = omega (arith, h) in g
within cap count n (Write line bytes ∷ stretch) later low k e = let h = within cap (suc count) (suc n) stretch later (omega (arith, k.0)) k.1 e in let g : count + suc (length (requests_from (suc n) stretch)) ≤ cap = omega (arith, h) in g
within cap count n (Flip line device bit ∷ stretch) later low k e = within cap count (suc n) stretch later low k e
within cap count n (Idle clocks ∷ stretch) later low k e = cc

behind : (cap count : ℕ) (earlier rest : List TraceLine) → count ≤ cap → KeepsCap cap count (earlier ++ rest) → (c : ℕ) × (c ≤ cap) × KeepsCap cap c rest
behind cap count [] rest low k = (count, low, k)
behind cap count (Read line ∷ earlier) rest low k = behind cap (suc count) earlier rest (omega (arith, k.0)) k.1
behind cap count (Write line bytes ∷ earlier) rest low k = behind cap (suc count) earlier rest (omega (arith, k.0)) k.1
behind cap count (Flip line device bit ∷ earlier) rest low k = behind cap count earlier rest low k
behind cap count (Idle clocks ∷ earlier) rest low k = behind cap 0 earlier rest (omega arith) k

pub capped : (cap : ℕ) (trace : List TraceLine) → KeepsCap cap 0 trace → IsCapped cap trace
capped cap trace k earlier stretch later e none =
    let b = behind cap 0 earlier (stretch ++ later) (omega arith) (subst (KeepsCap cap 0) e k) in
    let w = within cap b.0 1 stretch later b.1 b.2 none in
    omega (arith, w)

-- ---- Which texts are requests

-- a line with another letter than R and W
letter-request : (byte : ℕ) (rest text : List ℕ) → text ≡ byte ∷ rest → is_request text ≡ (byte == 82 || byte == 87)
letter-request byte rest text e = ap is_request e

abbrev Asks : TraceLine → Bool
Asks (Read line) = true
Asks (Write line bytes) = true
Asks (Flip line device bit) = false
Asks (Idle clocks) = false

asks : TraceGrammar → (g : Shape) (text : List ℕ) (line : TraceLine) → trace_line_of g text ≡ Ok line → is_request text ≡ Asks line
asks grammar g text (Read line) e = ap is_request (grammar.only g text (Read line) e).1
asks grammar g text (Write line bytes) e = ap is_request (grammar.only g text (Write line bytes) e).1.1
asks grammar g text (Flip line device bit) e = ap is_request (grammar.only g text (Flip line device bit) e).1
asks grammar g text (Idle clocks) e = ap is_request (grammar.only g text (Idle clocks) e).1

-- the barrier is an I line
head : List ℕ → ℕ
head [] = 0
head (byte ∷ bytes) = byte

is-idle : (line : TraceLine) (text : List ℕ) → text ≡ barrier → SpellsTraceLine text line → (clocks : ℕ) × (line ≡ Idle clocks)
unfolding head
is-idle (Read line) text e s = let k : 73 ≡ 82 = ap head (sym e ∙ s) in absurd (omega (arith, k))
is-idle (Write line bytes) text e s = let k : 73 ≡ 87 = ap head (sym e ∙ s.1) in absurd (omega (arith, k))
is-idle (Flip line device bit) text e s = let k : 73 ≡ 70 = ap head (sym e ∙ s) in absurd (omega (arith, k))
is-idle (Idle clocks) text e s = (clocks, refl)

-- ---- The lines of a merge

-- at most so many requests stand behind the last barrier, where so many were admitted
abbrev most : ℕ → ℕ → ℕ
most cap zero = 0
most cap (suc count) = suc (count % cap)

suc-mod_case : (cap m : ℕ) → 1 ≤ cap → m < cap → (suc m % cap == 0) ≡ false → (suc m < cap) × (suc m % cap ≡ suc m)
suc-mod_case cap m one low e = go (suc m == cap) refl
  where
    go : (b : Bool) → (suc m == cap) ≡ b → (suc m < cap) × (suc m % cap ≡ suc m)
    go true f =
        let same : suc m ≡ cap = eqb-true (suc m) cap f in
        let none : suc m % cap ≡ 0 = ap (λ k. k % cap) same ∙ mod_self cap in
        let g : true ≡ false = sym (eq-eqb (suc m % cap) 0 none) ∙ e in cc
    go false f = let less : suc m < cap = lt-of_ne (suc m) cap f (omega (arith, low)) in (less, mod-eq_of_lt less)
      where
        lt-of_ne : (a b : ℕ) → (a == b) ≡ false → a ≤ b → a < b
        lt-of_ne a b f le = split (eqb-false a b f)
          where
            split : (a ≡ b → ⊥) → a < b
            split h = grind (arith, le, h)

due-none : (cap count c : ℕ) → 1 ≤ cap → c ≤ most cap count → is_due cap count ≡ false → (c < cap) × (suc c ≤ most cap (suc count))
due-none cap zero c one low e = (omega (arith, one, low), omega (arith, low))
due-none cap (suc count) c one low e =
    let r : suc count % cap ≡ suc (count % cap) % cap = suc-mod count cap in
    let m = mod-lt count {m = cap} (omega (arith, one)) in
    let some : (suc count == 0) ≡ false = ne_eqb (suc count) 0 (λ z. omega (arith, z)) in
    let left : (suc count % cap == 0) ≡ false = sym (ap (λ b. not b && suc count % cap == 0) some) ∙ e in
    let k = suc-mod_case cap (count % cap) one m (ap (λ v. v == 0) (sym r) ∙ left) in
    let same : suc count % cap ≡ suc (count % cap) = r ∙ k.1 in
    (omega (arith, low, k.0), (let f : suc c ≤ suc (suc count % cap) = omega (arith, low, same) in f))

low-most : (cap count : ℕ) → 1 ≤ cap → most cap count ≤ cap
low-most cap zero one = omega arith
low-most cap (suc count) one = let m = mod-lt count {m = cap} (omega (arith, one)) in omega (arith, m)

one-most : (cap count : ℕ) → 1 ≤ most cap (suc count)
one-most cap count = omega arith

-- one text that is no barrier
text-step : TraceGrammar → (g : Shape) (cap count c : ℕ) (text : List ℕ) (line : TraceLine) (trace : List TraceLine) → trace_line_of g text ≡ Ok line
    → (is_request text ≡ true → (c < cap) × (suc c ≤ most cap (suc count))) → c ≤ most cap count
    → ((d : ℕ) → d ≤ most cap (one_more (is_request text) count) → KeepsCap cap d trace) → KeepsCap cap c (line ∷ trace)
text-step grammar g cap count c text (Read line) trace e room low go =
    let a = asks grammar g text (Read line) e in
    let r = room a in (r.0, go (suc c) (let k : most cap (one_more (is_request text) count) ≡ most cap (suc count) = ap (λ b. most cap (one_more b count)) a in let f = r.1 in omega (arith, f, k)))
text-step grammar g cap count c text (Write line bytes) trace e room low go =
    let a = asks grammar g text (Write line bytes) e in
    let r = room a in (r.0, go (suc c) (let k : most cap (one_more (is_request text) count) ≡ most cap (suc count) = ap (λ b. most cap (one_more b count)) a in let f = r.1 in omega (arith, f, k)))
text-step grammar g cap count c text (Flip line device bit) trace e room low go =
    let a = asks grammar g text (Flip line device bit) e in
    go c (let k : most cap (one_more (is_request text) count) ≡ most cap count = ap (λ b. most cap (one_more b count)) a in omega (arith, low, k))
text-step grammar g cap count c text (Idle clocks) trace e room low go = go 0 (omega arith)

mutual-free : TraceGrammar → (g : Shape) (cap : ℕ) → 1 ≤ cap → (count c : ℕ) (rests : List (List ℕ)) (trace : List TraceLine) → AreRead g (barred cap count rests) trace → c ≤ most cap count → KeepsCap cap c trace
mutual-free grammar g cap one count c rests [] read low = tt
mutual-free grammar g cap one count c [] (line ∷ trace) read low = absurd read
mutual-free grammar g cap one count c (rest ∷ rests) (line ∷ trace) read low =
    step (is_request rest) refl (is_due cap count) refl (line ∷ trace) read (λ d more k h. mutual-free grammar g cap one (one_more (is_request rest) count) d rests more h k)
  where
    bare : (c : ℕ) → c ≤ most cap count → (is_request rest ≡ true → (c < cap) × (suc c ≤ most cap (suc count))) → (trace : List TraceLine) → AreRead g (rest ∷ barred cap (one_more (is_request rest) count) rests) trace
        → ((d : ℕ) (more : List TraceLine) → d ≤ most cap (one_more (is_request rest) count) → AreRead g (barred cap (one_more (is_request rest) count) rests) more → KeepsCap cap d more) → KeepsCap cap c trace
    bare c low room [] read go = tt
    bare c low room (line ∷ trace) read go = text-step grammar g cap count c rest line trace read.0 room low (λ d k. go d trace k read.1)

    step : (asks_it : Bool) → is_request rest ≡ asks_it → (due : Bool) → is_due cap count ≡ due → (trace : List TraceLine) → AreRead g (cond (asks_it && due) (barrier ∷ []) [] ++ rest ∷ barred cap (one_more (is_request rest) count) rests) trace
        → ((d : ℕ) (more : List TraceLine) → d ≤ most cap (one_more (is_request rest) count) → AreRead g (barred cap (one_more (is_request rest) count) rests) more → KeepsCap cap d more) → KeepsCap cap c trace
    step true e true f [] read go = tt
    step true e true f (line ∷ trace) read go =
        let i = is-idle line barrier refl (grammar.only g barrier line read.0).1 in
        subst (λ (l : TraceLine). KeepsCap cap c (l ∷ trace)) (sym i.1) (bare 0 (omega arith) (λ k. (omega (arith, one), one-most cap count)) trace read.1 go)
    step true e false f trace read go = bare c low (λ k. due-none cap count c one low f) trace read go
    step false e true f trace read go = bare c low (λ k. let g : true ≡ false = sym k ∙ e in cc) trace read go
    step false e false f trace read go = bare c low (λ k. let g : true ≡ false = sym k ∙ e in cc) trace read go

pub merged-capped : TraceGrammar → (g : Shape) (cap : ℕ) (rests : List (List ℕ)) (trace : List TraceLine) → 1 ≤ cap → AreRead g (barred cap 0 rests) trace → IsCapped cap trace
merged-capped grammar g cap rests trace one read = capped cap trace (mutual-free grammar g cap one 0 0 rests trace read (omega arith))
