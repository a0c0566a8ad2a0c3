-- Where a request of a trace stands in it.
use Rattle.std.proofs.Common.{◌≡◌, ℕ, suc, ◌+◌, ◌<◌, ◌≤◌, ◌==◌, Bool, true, false, cond, Some, List, [], ◌∷◌, ◌++◌, take, length, slice_get, refl, sym, ap, ◌∙◌, subst, arith, append_assoc}
use Rattle.std.proofs.lemmas.Bool.{eqb-true}
use Rattle.ddr_text.specs.declared.lines.TraceLine.{TraceLine}
use Rattle.ddr_text.specs.declared.lines.TraceLine.TheVariants.{Read, Write, Flip, Idle}
use Rattle.requests.specs.declared.request.Kind.TheVariants.{Read as Reads, Write as Writes}
use Rattle.reports.specs.Requests.{Request, request_of, requests_from, flip_of, flips_from}
use Rattle.reports.proofs.Ready.{or-split}
use Rattle.reports.specs.Runs.{Run, has, is_served, ready, held}

-- the request is that of a trace line, and these are those of the lines before it
pub record IsAt (n : ℕ) (trace : List TraceLine) (earlier : List Request) (r : Request) : Type 0 where
  pub place : ℕ
  pub number : r.number ≡ n + place
  pub line : TraceLine
  pub there : slice_get trace place ≡ Some line
  pub is : request_of r.number line ≡ r ∷ []
  pub before : earlier ≡ requests_from n (take place trace)

past : (n : ℕ) (t : TraceLine) (trace : List TraceLine) (earlier whole : List Request) (r : Request) → IsAt (suc n) trace earlier r → whole ≡ request_of n t ++ earlier → IsAt n (t ∷ trace) whole r
past n t trace earlier whole r f e = record {
  place = suc f.place;
  number = omega (arith, f.number);
  line = f.line;
  there = f.there;
  is = f.is;
  before = e ∙ ap (λ l. request_of n t ++ l) f.before;
}

-- the head, or further behind
here : (n : ℕ) (t : TraceLine) (trace : List TraceLine) (q : Request) (earlier later : List Request) (r : Request) → request_of n t ≡ q ∷ [] → q.number ≡ n → q ∷ requests_from (suc n) trace ≡ earlier ++ r ∷ later → ((rest : List Request) → requests_from (suc n) trace ≡ rest ++ r ∷ later → IsAt (suc n) trace rest r) → IsAt n (t ∷ trace) earlier r
here n t trace q [] later r is number e ih =
    let f : q ≡ r = cc in
    subst (λ v. IsAt n (t ∷ trace) [] v) f (record { place = 0; number = omega (arith, number); line = t; there = refl; is = ap (λ k. request_of k t) number ∙ is; before = refl })
here n t trace q (b ∷ bs) later r is number e ih =
    let f : q ≡ b = cc in
    let g : requests_from (suc n) trace ≡ bs ++ r ∷ later = cc in
    past n t trace bs (b ∷ bs) r (ih bs g) (ap (λ v. v ∷ bs) (sym f) ∙ ap (λ l. l ++ bs) (sym is))

pub nothing : (before after : List Request) (r : Request) → [] ≡ before ++ r ∷ after → ⊥
nothing [] after r e = cc
nothing (b ∷ bs) after r e = cc

pub is_at : (n : ℕ) (trace : List TraceLine) (earlier later : List Request) (r : Request) → requests_from n trace ≡ earlier ++ r ∷ later → IsAt n trace earlier r
is_at n [] earlier later r e = absurd (nothing earlier later r e)
is_at n (Read line ∷ trace) earlier later r e = here n (Read line) trace (record { number = n; line = line; kind = Reads }) earlier later r refl refl e (λ rest f. is_at (suc n) trace rest later r f)
is_at n (Write line bytes ∷ trace) earlier later r e = here n (Write line bytes) trace (record { number = n; line = line; kind = Writes }) earlier later r refl refl e (λ rest f. is_at (suc n) trace rest later r f)
is_at n (Flip line device bit ∷ trace) earlier later r e = past n (Flip line device bit) trace earlier earlier r (is_at (suc n) trace earlier later r e) refl
is_at n (Idle clocks ∷ trace) earlier later r e = past n (Idle clocks) trace earlier earlier r (is_at (suc n) trace earlier later r e) refl

-- ---- The requests of parts of a trace

pub requests-append : (n : ℕ) (trace more : List TraceLine) (m : ℕ) → m ≡ n + length trace → requests_from n (trace ++ more) ≡ requests_from n trace ++ requests_from m more
requests-append n [] more m e = ap (λ k. requests_from k more) (omega (arith, e))
requests-append n (t ∷ trace) more m e =
    ap (λ l. request_of n t ++ l) (requests-append (suc n) trace more m (omega (arith, e)))
    ∙ sym (append_assoc (request_of n t) (requests_from (suc n) trace) (requests_from m more))

pub flips-append : (n : ℕ) (trace more : List TraceLine) (m : ℕ) → m ≡ n + length trace → flips_from n (trace ++ more) ≡ flips_from n trace ++ flips_from m more
flips-append n [] more m e = ap (λ k. flips_from k more) (omega (arith, e))
flips-append n (t ∷ trace) more m e =
    ap (λ l. flip_of n t ++ l) (flips-append (suc n) trace more m (omega (arith, e)))
    ∙ sym (append_assoc (flip_of n t) (flips_from (suc n) trace) (flips_from m more))

-- ---- Numbers within bounds

-- each number is at least the first and below the second
abbrev pub Between : ℕ → ℕ → List Request → Type 0
Between low high [] = Unit {0}
Between low high (r ∷ rs) = (low ≤ r.number) × (r.number < high) × Between low high rs

pub Between-append : (low high : ℕ) (a b : List Request) → Between low high a → Between low high b → Between low high (a ++ b)
Between-append low high [] b h k = k
Between-append low high (r ∷ a) b h k = (h.0, h.1, Between-append low high a b h.2 k)

pub Between-wider : (low high low' high' : ℕ) (rs : List Request) → Between low high rs → low' ≤ low → high ≤ high' → Between low' high' rs
Between-wider low high low' high' [] h a b = tt
Between-wider low high low' high' (r ∷ rs) h a b = (omega (arith, h.0, a), omega (arith, h.1, b), Between-wider low high low' high' rs h.2 a b)

Between-of : (n : ℕ) (t : TraceLine) → Between n (suc n) (request_of n t)
Between-of n (Read line) = (omega arith, omega arith, tt)
Between-of n (Write line bytes) = (omega arith, omega arith, tt)
Between-of n (Flip line device bit) = tt
Between-of n (Idle clocks) = tt

pub Between-asked : (n : ℕ) (trace : List TraceLine) (high : ℕ) → high ≡ n + length trace → Between n high (requests_from n trace)
Between-asked n [] high e = tt
Between-asked n (t ∷ trace) high e =
    Between-append n high (request_of n t) (requests_from (suc n) trace)
    (Between-wider n (suc n) n high (request_of n t) (Between-of n t) (omega arith) (omega (arith, e)))
    (Between-wider (suc n) high n high (requests_from (suc n) trace) (Between-asked (suc n) trace high (omega (arith, e))) (omega arith) (omega arith))

Between-cond : (low high : ℕ) (b : Bool) (xs ys : List Request) → Between low high xs → Between low high ys → Between low high (cond b xs ys)
Between-cond low high true xs ys h k = h
Between-cond low high false xs ys h k = k

pub Between-ready : (low high : ℕ) (rs : List Request) (run : Run) → Between low high rs → Between low high (ready rs run)
Between-ready low high [] run h = tt
Between-ready low high (r ∷ rs) run h = Between-cond low high (is_served r.number run) (r ∷ ready rs run) [] (h.0, h.1, Between-ready low high rs run h.2) tt

pub Between-held : (low high : ℕ) (rs : List Request) (run : Run) → Between low high rs → Between low high (held rs run)
Between-held low high [] run h = tt
Between-held low high (r ∷ rs) run h = Between-cond low high (is_served r.number run) (held rs run) (r ∷ rs) (Between-held low high rs run h.2) h

pub Between-inside : (low high : ℕ) (before after : List Request) (r : Request) (rs : List Request) → Between low high rs → rs ≡ before ++ r ∷ after → (low ≤ r.number) × (r.number < high)
Between-inside low high before after r [] h e = absurd (nothing before after r e)
Between-inside low high [] after r (q ∷ rs) h e = let f : q ≡ r = cc in subst (λ (v : Request). (low ≤ v.number) × (v.number < high)) f (h.0, h.1)
Between-inside low high (b ∷ before) after r (q ∷ rs) h e = Between-inside low high before after r rs h.2 cc

-- a number among them is within the bounds
pub Between-has : (low high n : ℕ) (rs : List Request) → Between low high rs → has n rs ≡ true → (low ≤ n) × (n < high)
Between-has low high n [] h e = cc
Between-has low high n (r ∷ rs) h e =
    or-split (r.number == n) (has n rs) ((low ≤ n) × (n < high)) e
    (λ f. let g : r.number ≡ n = eqb-true _ _ f in (omega (arith, g, h.0), omega (arith, g, h.1)))
    (λ f. Between-has low high n rs h.2 f)
