-- The step that serves a request of the trace, and the run before it.
use Rattle.std.proofs.Common.{◌≡◌, ℕ, zero, suc, ◌+◌, ◌<◌, ◌==◌, ◌||◌, Bool, true, false, cond, Option, Some, None, List, [], ◌∷◌, reverse, length, slice_get, take, refl, sym, ap, ◌∙◌, subst, arith}
use Rattle.std.specs.Prelude.{IfSome}
use Rattle.std.proofs.lemmas.Bool.{eqb-true, eq-eqb}
use Rattle.std.proofs.lemmas.List.{reverse-reverse}
use Rattle.speed_bin.specs.declared.header.Header.{Header}
use Rattle.ddr_text.specs.declared.lines.TraceLine.{TraceLine}
use Rattle.device_core.specs.Stored.{also}
use Rattle.reports.specs.Requests.{Request, request_of, requests_from, requests, on}
use Rattle.reports.specs.Runs.{Issues, Flips, Run, served, has, is_served, IsNext}
use Rattle.reports.specs.Readings.{before}
use Rattle.reports.specs.Sound.{Sound}
use Rattle.reports.proofs.Ready.{or-split, or-left, or-right, has-on, has-reverse, on-own}
use Rattle.reports.proofs.Found.{IsAt, is_at, Between-asked, Between-has}
use Rattle.reports.proofs.Memory.{OfTrace, OfTrace-served}

-- two requests of a trace with one number are the same
pub same-at : (trace : List TraceLine) (ea eb : List Request) (a b : Request) → IsAt 1 trace ea a → IsAt 1 trace eb b → a.number ≡ b.number → a ≡ b
same-at trace ea eb a b fa fb e =
    let place : fa.place ≡ fb.place = omega (arith, e, fa.number, fb.number) in
    let line : Some fa.line ≡ Some fb.line = sym fa.there ∙ ap (slice_get trace) place ∙ fb.there in
    let same : fa.line ≡ fb.line = cc in
    let one : a ∷ [] ≡ b ∷ [] = sym fa.is ∙ ap (λ n. request_of n fa.line) e ∙ ap (request_of b.number) same ∙ fb.is in
    cc

-- ---- A request that comes next is not served yet

has-own_cond : (n : ℕ) (q : Request) (rs : List Request) (b : Bool) → has n rs ≡ true → has n (cond b (q ∷ rs) rs) ≡ true
has-own_cond n q rs true h = or-right (q.number == n) (has n rs) h
has-own_cond n q rs false h = h

has-own : (trace : List TraceLine) (er : List Request) (r : Request) (rs : List Request) → IsAt 1 trace er r → OfTrace trace rs → has r.number rs ≡ true → has r.number (on r.line rs) ≡ true
has-own trace er r [] f h e = e
has-own trace er r (q ∷ rs) f h e =
    or-split (q.number == r.number) (has r.number rs) (has r.number (on r.line (q ∷ rs)) ≡ true) e
    (λ k.
    let same : q ≡ r = same-at trace h.0.0 er q r h.0.1 f (eqb-true _ _ k) in
    ap (λ v. has r.number (on r.line (v ∷ rs))) same ∙ ap (has r.number) (on-own r rs) ∙ or-left (r.number == r.number) (has r.number (on r.line rs)) (eq-eqb r.number r.number refl))
    (λ k. has-own_cond r.number q (on r.line rs) (q.line == r.line) (has-own trace er r rs f h.1 k))

has-there : (n : ℕ) (rs : List Request) → has n rs ≡ true → has n (reverse rs) ≡ true
has-there n rs e = has-reverse n (reverse rs) (ap (has n) (reverse-reverse rs) ∙ e)

not-both : (b : Bool) → (b ≡ true → ⊥) → b ≡ false
not-both true h = absurd (h refl)
not-both false h = refl

pub next-unserved : (h : Header) (trace : List TraceLine) (run : Run) (r : Request) → Sound h trace run → IsNext (requests trace) run r → is_served r.number run ≡ false
next-unserved h trace run r sound n =
    let f = is_at 1 trace n.earlier n.later r n.is_offered in
    not-both (is_served r.number run) (λ e.
    let own : has r.number (on r.line (served run)) ≡ true = has-own trace n.earlier r (served run) f (OfTrace-served h trace run sound) e in
    let among : has r.number (on r.line n.earlier) ≡ true = ap (has r.number) (sym n.in_order) ∙ has-there r.number (on r.line (served run)) own in
    let there : has r.number (requests_from 1 (take f.place trace)) ≡ true = ap (has r.number) (sym f.before) ∙ has-on r.number r.line n.earlier among in
    let low = Between-has 1 (1 + length (take f.place trace)) r.number (requests_from 1 (take f.place trace)) (Between-asked 1 (take f.place trace) (1 + length (take f.place trace)) refl) there in
    omega (arith, low.1, f.number, short f.place trace))
  where
    short : (n : ℕ) (xs : List TraceLine) → length (take n xs) < n + 1
    short zero xs = omega arith
    short (suc n) [] = omega arith
    short (suc n) (x ∷ xs) = let h = short n xs in omega (arith, h)

-- ---- A request that is served was the next one when it was

next-cond_true : (trace : List TraceLine) (b : Bool) (earlier run : Run) (r : Request) → b ≡ true → IsNext (requests trace) earlier r → IsNext (requests trace) (cond b earlier run) r
next-cond_true trace b earlier run r e n = subst (λ c. IsNext (requests trace) (cond c earlier run) r) (sym e) n

next-cond_false : (trace : List TraceLine) (b : Bool) (earlier run : Run) (r : Request) → b ≡ false → IsNext (requests trace) run r → IsNext (requests trace) (cond b earlier run) r
next-cond_false trace b earlier run r e n = subst (λ c. IsNext (requests trace) (cond c earlier run) r) (sym e) n

or-only : (a b : Bool) → (a || b) ≡ true → b ≡ false → a ≡ true
or-only true b h e = refl
or-only false true h e = cc
or-only false false h e = h

own-next : (trace : List TraceLine) (run : Run) (er : List Request) (r : Request) (o : Option Request) → IsAt 1 trace er r → IfSome o (λ q. IsNext (requests trace) run q) → is_served r.number run ≡ false → has r.number (also o (served run)) ≡ true → IsNext (requests trace) run r
own-next trace run er r None f n e k = let g : false ≡ true = sym e ∙ k in cc
own-next trace run er r (Some q) f n e k =
    let own : (q.number == r.number) ≡ true = or-only (q.number == r.number) (has r.number (served run)) k e in
    subst (λ v. IsNext (requests trace) run v) (same-at trace n.earlier er q r (is_at 1 trace n.earlier n.later q n.is_offered) f (eqb-true _ _ own)) n

pub served-next : (h : Header) (trace : List TraceLine) (run : Run) (er : List Request) (r : Request) → Sound h trace run → IsAt 1 trace er r → is_served r.number run ≡ true → IsNext (requests trace) (before r.number run) r
served-next h trace [] er r sound f e = cc
served-next h trace (Flips k ∷ run) er r sound f e = next-cond_true trace (is_served r.number run) (before r.number run) run r e (served-next h trace run er r sound.1 f e)
served-next h trace (Issues s ∷ run) er r sound f e = split (is_served r.number run) refl (λ k. served-next h trace run er r sound.1 f k)
  where
    split : (b : Bool) → is_served r.number run ≡ b → (is_served r.number run ≡ true → IsNext (requests trace) (before r.number run) r) → IsNext (requests trace) (before r.number (Issues s ∷ run)) r
    split true k ih = next-cond_true trace (is_served r.number run) (before r.number run) run r k (ih k)
    split false k ih = next-cond_false trace (is_served r.number run) (before r.number run) run r k (own-next trace run er r s.request f sound.0.is_next k e)
