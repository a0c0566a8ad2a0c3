-- The requests of one line are served in their order, each once.
use Rattle.std.proofs.Common.{◌≡◌, ◌∙◌, ℕ, zero, suc, ◌+◌, ◌<◌, ◌==◌, ◌&&◌, not, Bool, true, false, cond, Option, Some, None, List, [], ◌∷◌, ◌++◌, length, slice_get, refl, sym, ap, subst, arith, eq-eqb, ne_eqb, eqb-true}
use Rattle.std.specs.List.{filter, remove}
use Rattle.std.proofs.lemmas.List.Elements.{filter-append}
use Rattle.command_words.specs.Command.{bank_number}
use Rattle.command_words.specs.Geometry.{Shape}
use Rattle.command_words.specs.Place.{place_of}
use Rattle.command_words.specs.declared.geometry.Place.{Place}
use Rattle.speed_bin.specs.declared.header.Header.{Header}
use Rattle.speed_bin.proofs.Tests.{or_false}
use Rattle.requests.specs.declared.request.Request.{Request}
use Rattle.requests.specs.declared.waiting.Waiting.{Waiting}
use Rattle.requests.specs.Queue.{Step, numbered, waiting, waiting_as, is_number, is_served, oldest, hits, is_of_line}
use Rattle.speed_bin.specs.Header.{shape_of}
use Rattle.speed_bin.specs.Counters.{is_row}
use Rattle.requests.specs.Order.{named, served, IsInOrder, AreServedOnce}
use Rattle.requests.proofs.Oldest.{holds}
use Rattle.requests.proofs.Queue.{Rising, rising-at, rising-offered, rising-waiting, numbered-append, waiting-offer, waiting-serve, waiting-other, unserved, filtered-stands}

pub append-nil : (ws : List Waiting) → ws ++ [] ≡ ws
append-nil [] = refl
append-nil (w ∷ ws) = ap (λ vs. w ∷ vs) (append-nil ws)

append-append : (us vs ws : List Waiting) → (us ++ vs) ++ ws ≡ us ++ (vs ++ ws)
append-append [] vs ws = refl
append-append (u ∷ us) vs ws = ap (λ xs. u ∷ xs) (append-append us vs ws)

-- ---- Each request has the place of its line

abbrev pub ArePlaced : Shape → List Waiting → Type 0
ArePlaced g [] = Unit {0}
ArePlaced g (w ∷ ws) = (w.place ≡ place_of w.request.line g) × ArePlaced g ws

placed-numbered : (h : Header) (n : ℕ) (rs : List Request) → ArePlaced (shape_of h) (numbered h n rs)
placed-numbered h n [] = tt
placed-numbered h n (r ∷ rs) = (refl, placed-numbered h (n + 1) rs)

placed-filter : (g : Shape) (test : Waiting → Bool) (ws : List Waiting) → ArePlaced g ws → ArePlaced g (filter test ws)
placed-filter g test [] p = tt
placed-filter g test (w ∷ ws) p = go (test w) refl (placed-filter g test ws p.1)
  where
    go : (t : Bool) → test w ≡ t → ArePlaced g (filter test ws) → ArePlaced g (cond (test w) (w ∷ filter test ws) (filter test ws))
    go true q ih = rw q (p.0, ih)
    go false q ih = rw q ih

pub placed-waiting : (h : Header) (offered : List Request) (log : List Step) → ArePlaced (shape_of h) (waiting h offered log)
placed-waiting h offered log = placed-filter (shape_of h) (λ w. not (is_served w.id log)) (numbered h 1 offered) (placed-numbered h 1 offered)

pub placed-oldest : (g : Shape) (test : Waiting → Bool) (ws : List Waiting) (w : Waiting) → ArePlaced g ws → oldest test ws ≡ Some w → w.place ≡ place_of w.request.line g
placed-oldest g test [] w p e = cc
placed-oldest g test (v ∷ ws) w p e = go (test v) e (placed-oldest g test ws w p.1)
  where
    go : (t : Bool) → cond t (Some v) (oldest test ws) ≡ Some w → (oldest test ws ≡ Some w → w.place ≡ place_of w.request.line g) → w.place ≡ place_of w.request.line g
    go true f ih = let k : v ≡ w = cc in subst (λ (x : Waiting). x.place ≡ place_of x.request.line g) k p.0
    go false f ih = ih f

-- ---- The oldest hit is the oldest of its line

-- the oldest that passes a test passes a narrower one as the oldest
narrower : (g : Shape) (wide narrow : Waiting → Bool) (ws : List Waiting) (w : Waiting) → ArePlaced g ws → ((v : Waiting) → v.place ≡ place_of v.request.line g → narrow v ≡ true → wide v ≡ true) → narrow w ≡ true → oldest wide ws ≡ Some w → oldest narrow ws ≡ Some w
narrower g wide narrow [] w p implies meets e = cc
narrower g wide narrow (v ∷ ws) w p implies meets e = go (wide v) (narrow v) refl refl e (narrower g wide narrow ws w p.1 implies meets)
  where
    go : (a b : Bool) → wide v ≡ a → narrow v ≡ b → cond a (Some v) (oldest wide ws) ≡ Some w → (oldest wide ws ≡ Some w → oldest narrow ws ≡ Some w) → cond (narrow v) (Some v) (oldest narrow ws) ≡ Some w
    go true true q r f ih = rw r f
    go true false q r f ih = let k : v ≡ w = cc in let n : narrow v ≡ true = subst (λ (x : Waiting). narrow x ≡ true) (sym k) meets in cc
    go false true q r f ih = let k = implies v p.0 r in cc
    go false false q r f ih = rw r (ih f)

hits_place : (b : ℕ) (o : Option ℕ) (v w : Waiting) → v.place ≡ w.place → hits b o w ≡ true → hits b o v ≡ true
hits_place b o v w e q = ap (λ (p : Place). (bank_number p.bank == b) && is_row o p.row) e ∙ q

pub its_line : (g : Shape) (ws : List Waiting) (b : ℕ) (o : Option ℕ) (w : Waiting) → ArePlaced g ws → oldest (hits b o) ws ≡ Some w → oldest (is_of_line w.request.line) ws ≡ Some w
its_line g ws b o w p e =
    let hit = holds (hits b o) ws w e in
    let own = placed-oldest g (hits b o) ws w p e in
    narrower g (hits b o) (is_of_line w.request.line) ws w p
    (λ v q t.
    let same : v.request.line ≡ w.request.line = eqb-true _ _ t in
    hits_place b o v w (q ∙ ap (λ (n : ℕ). place_of n g) same ∙ sym own) hit)
    (eq-eqb w.request.line w.request.line refl)
    e

-- ---- What is served and what waits, of each line

-- the oldest that passes, at its place: it comes first among those that pass
pub filter-first : (test : Waiting → Bool) (n m : ℕ) (ws : List Waiting) (at : ℕ) (w : Waiting) → Rising n m ws → slice_get ws at ≡ Some w → oldest test ws ≡ Some w → filter test ws ≡ w ∷ filter test (remove ws at)
filter-first test n m [] at w h e f = cc
filter-first test n m (v ∷ ws) zero w h e f =
    let k : v ≡ w = cc in
    let meets : test v ≡ true = subst (λ (x : Waiting). test x ≡ true) (sym k) (holds test (v ∷ ws) w f) in
    ap (λ t. cond t (v ∷ filter test ws) (filter test ws)) meets ∙ ap (λ (x : Waiting). x ∷ filter test ws) k
filter-first test n m (v ∷ ws) (suc at) w h e f = go (test v) refl f (filter-first test (v.id + 1) m ws at w h.2 e)
  where
    go : (t : Bool) → test v ≡ t → cond t (Some v) (oldest test ws) ≡ Some w → (oldest test ws ≡ Some w → filter test ws ≡ w ∷ filter test (remove ws at)) → cond (test v) (v ∷ filter test ws) (filter test ws) ≡ w ∷ cond (test v) (v ∷ filter test (remove ws at)) (filter test (remove ws at))
    go true q g ih =
        let k : v ≡ w = cc in
        let r = rising-at (v.id + 1) m ws at w h.2 e in
        let i : v.id ≡ w.id = ap (λ (x : Waiting). x.id) k in
        absurd (let a = r.from in omega (arith, a, i))
    go false q g ih = rw q (ih g)

filter-others : (test : Waiting → Bool) (ws : List Waiting) (at : ℕ) (w : Waiting) → slice_get ws at ≡ Some w → test w ≡ false → filter test (remove ws at) ≡ filter test ws
filter-others test [] at w e f = cc
filter-others test (v ∷ ws) zero w e f =
    let k : v ≡ w = cc in
    let n : test v ≡ false = subst (λ (x : Waiting). test x ≡ false) (sym k) f in
    sym (ap (λ t. cond t (v ∷ filter test ws) (filter test ws)) n)
filter-others test (v ∷ ws) (suc at) w e f = ap (λ xs. cond (test v) (v ∷ xs) xs) (filter-others test ws at w e f)

-- a number stands once
filter-none : (id n m : ℕ) (ws : List Waiting) → id < n → Rising n m ws → filter (λ v. v.id == id) ws ≡ []
filter-none id n m [] low h = refl
filter-none id n m (w ∷ ws) low h =
    let e : (w.id == id) ≡ false = ne_eqb _ _ (λ f. let a = h.0 in omega (arith, a, f, low)) in
    ap (λ t. cond t (w ∷ filter (λ v. v.id == id) ws) (filter (λ v. v.id == id) ws)) e ∙ filter-none id (w.id + 1) m ws (let a = h.0 in omega (arith, a, low)) h.2

filter-number : (n m : ℕ) (ws : List Waiting) (at : ℕ) (w : Waiting) → Rising n m ws → slice_get ws at ≡ Some w → filter (λ v. v.id == w.id) ws ≡ w ∷ []
filter-number n m [] at w h e = cc
filter-number n m (v ∷ ws) zero w h e =
    let k : v ≡ w = cc in
    let i : v.id ≡ w.id = ap (λ (x : Waiting). x.id) k in
    ap (λ t. cond t (v ∷ filter (λ x. x.id == w.id) ws) (filter (λ x. x.id == w.id) ws)) (eq-eqb v.id w.id i)
    ∙ ap (λ xs. v ∷ xs) (filter-none w.id (v.id + 1) m ws (omega (arith, i)) h.2)
    ∙ ap (λ (x : Waiting). x ∷ []) k
filter-number n m (v ∷ ws) (suc at) w h e =
    let r = rising-at (v.id + 1) m ws at w h.2 e in
    let d : (v.id == w.id) ≡ false = ne_eqb _ _ (λ f. let a = r.from in omega (arith, a, f)) in
    ap (λ t. cond t (v ∷ filter (λ x. x.id == w.id) ws) (filter (λ x. x.id == w.id) ws)) d ∙ filter-number (v.id + 1) m ws at w h.2 e

-- ---- An offer

-- a number of the log is not that of a later request
named-offer : (h : Header) (offered : List Request) (r : Request) (o : Option ℕ) → is_number (length offered + 1) o ≡ false → named o (numbered h 1 (offered ++ r ∷ [])) ≡ named o (numbered h 1 offered)
named-offer h offered r None f = refl
named-offer h offered r (Some k) f =
    let w = waiting_as (shape_of h) (length offered + 1) r in
    let id : length offered + 1 ≡ 1 + length offered = omega arith in
    let d : (length offered + 1 == k) ≡ false = turn (length offered + 1) k f in
    ap (λ ws. filter (λ v. v.id == k) ws) (numbered-append h 1 offered r (length offered + 1) id)
    ∙ filter-append (λ v. v.id == k) (numbered h 1 offered) (w ∷ [])
    ∙ ap (λ t. filter (λ v. v.id == k) (numbered h 1 offered) ++ cond t (w ∷ []) []) d
    ∙ append-nil (filter (λ v. v.id == k) (numbered h 1 offered))
  where
    turn : (a b : ℕ) → (b == a) ≡ false → (a == b) ≡ false
    turn a b e = grind arith

pub served-offer : (h : Header) (offered : List Request) (log : List Step) (r : Request) → is_served (length offered + 1) log ≡ false → served h (offered ++ r ∷ []) log ≡ served h offered log
served-offer h offered [] r f = refl
served-offer h offered (step ∷ log) r f =
    let p = or_false (is_number (length offered + 1) step.id) (is_served (length offered + 1) log) f in
    ap (λ ws. ws ++ named step.id (numbered h 1 (offered ++ r ∷ []))) (served-offer h offered log r p.1)
    ∙ ap (λ ws. served h offered log ++ ws) (named-offer h offered r step.id p.0)

pub in_order-offer : (h : Header) (offered : List Request) (log : List Step) (r : Request) → is_served (length offered + 1) log ≡ false → IsInOrder h offered log → IsInOrder h (offered ++ r ∷ []) log
in_order-offer h offered log r new order line =
    let test = is_of_line line in
    let w = waiting_as (shape_of h) (length offered + 1) r in
    let id : length offered + 1 ≡ 1 + length offered = omega arith in
    ap (λ ws. filter test ws ++ filter test (waiting h (offered ++ r ∷ []) log)) (served-offer h offered log r new)
    ∙ ap (λ ws. filter test (served h offered log) ++ filter test ws) (waiting-offer h offered log r (length offered + 1) refl new)
    ∙ ap (λ ws. filter test (served h offered log) ++ ws) (filter-append test (waiting h offered log) (w ∷ []))
    ∙ sym (append-append (filter test (served h offered log)) (filter test (waiting h offered log)) (filter test (w ∷ [])))
    ∙ ap (λ ws. ws ++ filter test (w ∷ [])) (order line)
    ∙ sym (filter-append test (numbered h 1 offered) (w ∷ []))
    ∙ ap (λ ws. filter test ws) (sym (numbered-append h 1 offered r (length offered + 1) id))

-- ---- A column

named-waiting : (h : Header) (offered : List Request) (log : List Step) (at : ℕ) (w : Waiting) → slice_get (waiting h offered log) at ≡ Some w → named (Some w.id) (numbered h 1 offered) ≡ w ∷ []
named-waiting h offered log at w e =
    let s = filtered-stands (λ v. not (is_served v.id log)) (numbered h 1 offered) at w e in
    filter-number 1 (length offered + 1) (numbered h 1 offered) s.index w (rising-offered h offered) s.here

pub in_order-serve : (h : Header) (offered : List Request) (log : List Step) (at : ℕ) (w : Waiting) (step : Step) → slice_get (waiting h offered log) at ≡ Some w → oldest (is_of_line w.request.line) (waiting h offered log) ≡ Some w → step.id ≡ Some w.id → IsInOrder h offered log → IsInOrder h offered (step ∷ log)
in_order-serve h offered log at w step e first f order line =
    let test = is_of_line line in
    let ws = waiting h offered log in
    let done = served h offered log in
    ap (λ o. filter test (done ++ named o (numbered h 1 offered)) ++ filter test (waiting h offered (step ∷ log))) f
    ∙ ap (λ vs. filter test (done ++ vs) ++ filter test (waiting h offered (step ∷ log))) (named-waiting h offered log at w e)
    ∙ ap (λ vs. filter test (done ++ w ∷ []) ++ filter test vs) (waiting-serve h offered log at w step e f)
    ∙ ap (λ vs. vs ++ filter test (remove ws at)) (filter-append test done (w ∷ []))
    ∙ append-append (filter test done) (filter test (w ∷ [])) (filter test (remove ws at))
    ∙ ap (λ vs. filter test done ++ vs) (go (test w) refl)
    ∙ order line
  where
    go : (t : Bool) → is_of_line line w ≡ t → filter (is_of_line line) (w ∷ []) ++ filter (is_of_line line) (remove (waiting h offered log) at) ≡ filter (is_of_line line) (waiting h offered log)
    go true p =
        let same : w.request.line ≡ line = eqb-true _ _ p in
        let o : oldest (is_of_line line) (waiting h offered log) ≡ Some w = subst (λ (n : ℕ). oldest (is_of_line n) (waiting h offered log) ≡ Some w) same first in
        ap (λ t. cond t (w ∷ []) [] ++ filter (is_of_line line) (remove (waiting h offered log) at)) p
        ∙ sym (filter-first (is_of_line line) 1 (length offered + 1) (waiting h offered log) at w (rising-waiting h offered log) e o)
    go false p =
        ap (λ t. cond t (w ∷ []) [] ++ filter (is_of_line line) (remove (waiting h offered log) at)) p
        ∙ filter-others (is_of_line line) (waiting h offered log) at w e p

pub once-serve : (h : Header) (offered : List Request) (log : List Step) (at : ℕ) (w : Waiting) (step : Step) → slice_get (waiting h offered log) at ≡ Some w → step.id ≡ Some w.id → AreServedOnce log → AreServedOnce (step ∷ log)
once-serve h offered log at w step e f once = (once, λ n g. let k : w.id ≡ n = cc (f, g) in subst (λ (i : ℕ). is_served i log ≡ false) k (unserved h offered log at w e))

-- ---- A place without a number

pub in_order-other : (h : Header) (offered : List Request) (log : List Step) (step : Step) → step.id ≡ None → IsInOrder h offered log → IsInOrder h offered (step ∷ log)
in_order-other h offered log step f order line =
    let test = is_of_line line in
    ap (λ o. filter test (served h offered log ++ named o (numbered h 1 offered)) ++ filter test (waiting h offered (step ∷ log))) f
    ∙ ap (λ ws. filter test ws ++ filter test (waiting h offered (step ∷ log))) (append-nil (served h offered log))
    ∙ ap (λ ws. filter test (served h offered log) ++ filter test ws) (waiting-other h offered log step f)
    ∙ order line

pub once-other : (log : List Step) (step : Step) → step.id ≡ None → AreServedOnce log → AreServedOnce (step ∷ log)
once-other log step f once = (once, λ n g. let k : None ≡ Some n = sym f ∙ g in cc)
