-- What is offered waits, and what is served waits no longer.
use Rattle.std.proofs.Common.{◌≡◌, ◌∙◌, ℕ, zero, suc, ◌+◌, ◌<◌, ◌≤◌, ◌==◌, Bool, true, false, not, ◌||◌, cond, Some, None, List, [], ◌∷◌, ◌++◌, length, slice_get, refl, sym, ap, subst, arith, eq-eqb, ne_eqb, length-append}
use Rattle.std.specs.List.{filter, remove}
use Rattle.std.proofs.lemmas.List.Elements.{filter-append}
use Rattle.command_words.specs.Geometry.{lines_of}
use Rattle.speed_bin.specs.declared.header.Header.{Header}
use Rattle.requests.specs.declared.request.Request.{Request}
use Rattle.requests.specs.declared.waiting.Waiting.{Waiting}
use Rattle.requests.specs.Queue.{Step, numbered, is_number, is_served, waiting, waiting_as, span, AreInside, AreKnown}
use Rattle.speed_bin.specs.Header.{shape_of}

pub numbered-append : (h : Header) (n : ℕ) (rs : List Request) (r : Request) (id : ℕ) → id ≡ n + length rs → numbered h n (rs ++ r ∷ []) ≡ numbered h n rs ++ waiting_as (shape_of h) id r ∷ []
numbered-append h n [] r id e = let f : id ≡ n = omega arith in ap (λ (k : ℕ). waiting_as (shape_of h) k r ∷ []) (sym f)
numbered-append h n (q ∷ rs) r id e = ap (λ rest. waiting_as (shape_of h) n q ∷ rest) (numbered-append h (n + 1) rs r id (omega arith))

-- one more request is offered
pub waiting-offer : (h : Header) (offered : List Request) (log : List Step) (r : Request) (id : ℕ) → id ≡ length offered + 1 → is_served id log ≡ false → waiting h (offered ++ r ∷ []) log ≡ waiting h offered log ++ waiting_as (shape_of h) id r ∷ []
waiting-offer h offered log r id e new =
    let w = waiting_as (shape_of h) id r in
    ap (λ ws. filter (λ v. not (is_served v.id log)) ws) (numbered-append h 1 offered r id (omega arith))
    ∙ filter-append (λ v. not (is_served v.id log)) (numbered h 1 offered) (w ∷ [])
    ∙ ap (λ t. waiting h offered log ++ cond (not t) (w ∷ []) []) new

-- the numbers rise, from n on and below m
abbrev pub Rising : ℕ → ℕ → List Waiting → Type 0
Rising n m [] = Unit {0}
Rising n m (w ∷ ws) = (n ≤ w.id) × (w.id < m) × Rising (w.id + 1) m ws

pub rising-wider : (k n m : ℕ) (ws : List Waiting) → k ≤ n → Rising n m ws → Rising k m ws
rising-wider k n m [] le h = tt
rising-wider k n m (w ∷ ws) le h = (omega (arith, h.0), h.1, h.2)

pub rising-numbered : (h : Header) (n m : ℕ) (rs : List Request) → n + length rs ≤ m → Rising n m (numbered h n rs)
rising-numbered h n m [] e = tt
rising-numbered h n m (r ∷ rs) e = (omega arith, omega arith, rising-numbered h (n + 1) m rs (omega arith))

pub rising-filter : (test : Waiting → Bool) (n m : ℕ) (ws : List Waiting) → Rising n m ws → Rising n m (filter test ws)
rising-filter test n m [] h = tt
rising-filter test n m (w ∷ ws) h = go (test w) refl (rising-filter test (w.id + 1) m ws h.2)
  where
    go : (t : Bool) → test w ≡ t → Rising (w.id + 1) m (filter test ws) → Rising n m (cond (test w) (w ∷ filter test ws) (filter test ws))
    go true q ih = rw q (h.0, h.1, ih)
    go false q ih = rw q (rising-wider n (w.id + 1) m (filter test ws) (omega (arith, h.0)) ih)

pub rising-offered : (h : Header) (offered : List Request) → Rising 1 (length offered + 1) (numbered h 1 offered)
rising-offered h offered = rising-numbered h 1 (length offered + 1) offered (omega arith)

pub rising-waiting : (h : Header) (offered : List Request) (log : List Step) → Rising 1 (length offered + 1) (waiting h offered log)
rising-waiting h offered log = rising-filter (λ v. not (is_served v.id log)) 1 (length offered + 1) (numbered h 1 offered) (rising-offered h offered)

pub record Within (n m id : ℕ) : Type 0 where
  pub from : n ≤ id
  pub below : id < m

pub rising-at : (n m : ℕ) (ws : List Waiting) (at : ℕ) (w : Waiting) → Rising n m ws → slice_get ws at ≡ Some w → Within n m w.id
rising-at n m [] at w h e = cc
rising-at n m (v ∷ ws) zero w h e = let f : v ≡ w = cc in subst (λ (x : Waiting). Within n m x.id) f (record { from = h.0; below = h.1 })
rising-at n m (v ∷ ws) (suc at) w h e = let g = rising-at (v.id + 1) m ws at w h.2 e in record { from = omega (arith, h.0, g.from); below = g.below }

filter-two : (p q : Waiting → Bool) (ws : List Waiting) → filter (λ w. not (p w || q w)) ws ≡ filter (λ w. not (p w)) (filter (λ w. not (q w)) ws)
filter-two p q [] = refl
filter-two p q (w ∷ ws) = go (p w) (q w) refl refl (filter-two p q ws)
  where
    go : (a b : Bool) → p w ≡ a → q w ≡ b → filter (λ v. not (p v || q v)) ws ≡ filter (λ v. not (p v)) (filter (λ v. not (q v)) ws) → cond (not (p w || q w)) (w ∷ filter (λ v. not (p v || q v)) ws) (filter (λ v. not (p v || q v)) ws) ≡ filter (λ v. not (p v)) (cond (not (q w)) (w ∷ filter (λ v. not (q v)) ws) (filter (λ v. not (q v)) ws))
    go true true e f ih = rw (e, f) ih
    go true false e f ih = rw (e, f) (rw e ih)
    go false true e f ih = rw (e, f) ih
    go false false e f ih = rw (e, f) (rw e (ap (λ vs. w ∷ vs) ih))

filter-above : (id n m : ℕ) (ws : List Waiting) → id < n → Rising n m ws → filter (λ v. not (id == v.id)) ws ≡ ws
filter-above id n m [] low h = refl
filter-above id n m (w ∷ ws) low h =
    let e : (id == w.id) ≡ false = ne_eqb _ _ (λ f. omega (arith, h.0)) in
    ap (λ t. cond (not t) (w ∷ filter (λ v. not (id == v.id)) ws) (filter (λ v. not (id == v.id)) ws)) e ∙ ap (λ vs. w ∷ vs) (filter-above id (w.id + 1) m ws (omega (arith, h.0)) h.2)

pub filter-remove : (n m : ℕ) (ws : List Waiting) (at : ℕ) (w : Waiting) → Rising n m ws → slice_get ws at ≡ Some w → filter (λ v. not (w.id == v.id)) ws ≡ remove ws at
filter-remove n m [] at w h e = cc
filter-remove n m (v ∷ ws) zero w h e =
    let f : v ≡ w = cc in
    let g : (w.id == v.id) ≡ true = eq-eqb _ _ (ap (λ (x : Waiting). x.id) (sym f)) in
    ap (λ t. cond (not t) (v ∷ filter (λ x. not (w.id == x.id)) ws) (filter (λ x. not (w.id == x.id)) ws)) g
    ∙ filter-above w.id (v.id + 1) m ws (let i : w.id ≡ v.id = ap (λ (x : Waiting). x.id) (sym f) in omega (arith, i)) h.2
filter-remove n m (v ∷ ws) (suc at) w h e =
    let i = rising-at (v.id + 1) m ws at w h.2 e in
    let g : (w.id == v.id) ≡ false = ne_eqb _ _ (λ f. omega (arith, i.from)) in
    ap (λ t. cond (not t) (v ∷ filter (λ x. not (w.id == x.id)) ws) (filter (λ x. not (w.id == x.id)) ws)) g
    ∙ ap (λ vs. v ∷ vs) (filter-remove (v.id + 1) m ws at w h.2 e)

-- a waiting request is served
pub waiting-serve : (h : Header) (offered : List Request) (log : List Step) (at : ℕ) (w : Waiting) (step : Step) → slice_get (waiting h offered log) at ≡ Some w → step.id ≡ Some w.id → waiting h offered (step ∷ log) ≡ remove (waiting h offered log) at
waiting-serve h offered log at w step e f =
    ap (λ o. filter (λ v. not (is_number v.id o || is_served v.id log)) (numbered h 1 offered)) f
    ∙ filter-two (λ v. w.id == v.id) (λ v. is_served v.id log) (numbered h 1 offered)
    ∙ filter-remove 1 (length offered + 1) (waiting h offered log) at w (rising-waiting h offered log) e

-- a place without a number
pub waiting-other : (h : Header) (offered : List Request) (log : List Step) (step : Step) → step.id ≡ None → waiting h offered (step ∷ log) ≡ waiting h offered log
waiting-other h offered log step f = ap (λ o. filter (λ v. not (is_number v.id o || is_served v.id log)) (numbered h 1 offered)) f

pub known-offer : (offered : List Request) (log : List Step) (r : Request) → AreKnown offered log → AreKnown (offered ++ r ∷ []) log
known-offer offered log r h n low = h n (let e = length-append offered (r ∷ []) in omega (arith, e))

pub known-serve : (h : Header) (offered : List Request) (log : List Step) (at : ℕ) (w : Waiting) (step : Step) → AreKnown offered log → slice_get (waiting h offered log) at ≡ Some w → step.id ≡ Some w.id → AreKnown offered (step ∷ log)
known-serve h offered log at w step known e f n low =
    let i = rising-at 1 (length offered + 1) (waiting h offered log) at w (rising-waiting h offered log) e in
    let g : (w.id == n) ≡ false = ne_eqb _ _ (λ k. omega (arith, i.below)) in
    ap (λ o. is_number n o || is_served n log) f ∙ ap (λ t. t || is_served n log) g ∙ known n low

pub known-other : (offered : List Request) (log : List Step) (step : Step) → AreKnown offered log → step.id ≡ None → AreKnown offered (step ∷ log)
known-other offered log step known f n low = ap (λ o. is_number n o || is_served n log) f ∙ known n low

-- ---- Lengths

pub length-remove : (ws : List Waiting) (at : ℕ) (w : Waiting) → slice_get ws at ≡ Some w → length (remove ws at) + 1 ≡ length ws
length-remove [] at w e = cc
length-remove (v ∷ ws) zero w e = omega arith
length-remove (v ∷ ws) (suc at) w e = let ih = length-remove ws at w e in omega (arith, ih)

-- where a later request becomes the oldest one, fewer stand from it to the newest
pub span-remove : (n : ℕ) (ws : List Waiting) (at : ℕ) (w : Waiting) → Rising 1 (n + 1) ws → slice_get ws at ≡ Some w → span n (remove ws at) ≤ span n ws
span-remove n [] at w h e = cc
span-remove n (v ∷ []) zero w h e = omega arith
span-remove n (v ∷ u ∷ ws) zero w h e = let r = h.2 in let a = r.0 in omega (arith, a)
span-remove n (v ∷ ws) (suc at) w h e = omega arith

-- one more request is offered, where fewer than 64 stand in the span
pub span-offer : (n id : ℕ) (ws : List Waiting) (w : Waiting) → Rising 1 (n + 1) ws → w.id ≡ n + 1 → span n ws < 64 → span (n + 1) (ws ++ w ∷ []) ≤ 64
span-offer n id [] w h e low = omega (arith, e)
span-offer n id (v ∷ ws) w h e low = let a = h.1 in omega (arith, a, low)

pub inside-offer : (h : Header) (offered : List Request) (r : Request) → AreInside h offered → r.line < lines_of (shape_of h) → AreInside h (offered ++ r ∷ [])
inside-offer h [] r i low = (low, tt)
inside-offer h (q ∷ offered) r i low = (i.0, inside-offer h offered r i.1 low)

-- ---- A waiting request is not served yet

pub passes : (test : Waiting → Bool) (ws : List Waiting) (at : ℕ) (w : Waiting) → slice_get (filter test ws) at ≡ Some w → test w ≡ true
passes test [] at w e = cc
passes test (v ∷ ws) at w e = go (test v) refl at e (λ i. passes test ws i w)
  where
    go : (t : Bool) → test v ≡ t → (i : ℕ) → slice_get (cond t (v ∷ filter test ws) (filter test ws)) i ≡ Some w → ((j : ℕ) → slice_get (filter test ws) j ≡ Some w → test w ≡ true) → test w ≡ true
    go true p zero f ih = let k : v ≡ w = cc in subst (λ (x : Waiting). test x ≡ true) k p
    go true p (suc j) f ih = ih j f
    go false p i f ih = ih i f

pub unserved : (h : Header) (offered : List Request) (log : List Step) (at : ℕ) (w : Waiting) → slice_get (waiting h offered log) at ≡ Some w → is_served w.id log ≡ false
unserved h offered log at w e = flip (is_served w.id log) (passes (λ v. not (is_served v.id log)) (numbered h 1 offered) at w e)
  where
    flip : (t : Bool) → not t ≡ true → t ≡ false
    flip true p = cc
    flip false p = refl

-- what a filter leaves was in the list
pub record Stands (ws : List Waiting) (w : Waiting) : Type 0 where
  pub index : ℕ
  pub here : slice_get ws index ≡ Some w

pub filtered-stands : (test : Waiting → Bool) (ws : List Waiting) (at : ℕ) (w : Waiting) → slice_get (filter test ws) at ≡ Some w → Stands ws w
filtered-stands test [] at w e = cc
filtered-stands test (v ∷ ws) at w e = go (test v) at e (λ i. filtered-stands test ws i w)
  where
    go : (t : Bool) (i : ℕ) → slice_get (cond t (v ∷ filter test ws) (filter test ws)) i ≡ Some w → ((j : ℕ) → slice_get (filter test ws) j ≡ Some w → Stands ws w) → Stands (v ∷ ws) w
    go true zero f ih = record { index = zero; here = f }
    go true (suc j) f ih = let s = ih j f in record { index = suc s.index; here = s.here }
    go false i f ih = let s = ih i f in record { index = suc s.index; here = s.here }
