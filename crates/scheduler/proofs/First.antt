-- The index of the first request that meets a test.
use Rattle.std.proofs.Common.{◌≡◌, ◌∙◌, ℕ, zero, suc, ◌+◌, ◌<◌, Bool, true, false, ◌&&◌, ◌==◌, List, [], ◌∷◌, ◌++◌, Option, Some, None, length, take, get_or, replicate, refl, sym, ap, arith, cond, eq-eqb, slice_get, slice_index_or, subst, ◌⊎◌, inl, inr}
use Rattle.std.proofs.lemmas.List.{take_more, length-take}
use Rattle.std.proofs.lemmas.Bool.{eqb-true}
use Rattle.speed_bin.specs.Counters.{is_row}
use Rattle.requests.specs.declared.waiting.Waiting.{Waiting}
use Rattle.command_words.specs.Command.{bank_number}
use Rattle.requests.specs.Queue.{oldest, in_bank, hits}
use Rattle.scheduler.specs.Board.{kept, or_at, first_from, first_at}

pub first_from-snoc : (n m : ℕ) (test : Waiting → Bool) (xs : List Waiting) (x : Waiting) → m ≡ n + length xs → first_from n test (xs ++ x ∷ []) ≡ or_at (first_from n test xs) (test x) m
first_from-snoc n m test [] x e = let f : m ≡ n = omega arith in rw f (go (test x) refl)
  where
    go : (t : Bool) → test x ≡ t → cond (test x) (Some n) None ≡ or_at None (test x) n
    go true q = rw q refl
    go false q = rw q refl
first_from-snoc n m test (w ∷ xs) x e = go (test w) refl (first_from-snoc (suc n) m test xs x (omega arith))
  where
    go : (t : Bool) → test w ≡ t → first_from (suc n) test (xs ++ x ∷ []) ≡ or_at (first_from (suc n) test xs) (test x) m → cond (test w) (Some n) (first_from (suc n) test (xs ++ x ∷ [])) ≡ or_at (cond (test w) (Some n) (first_from (suc n) test xs)) (test x) m
    go true q h = rw q refl
    go false q h = rw q h

pub first_at-more : (test : Waiting → Bool) (xs : List Waiting) (i : ℕ) (d : Waiting) → i < length xs → first_at test (take (i + 1) xs) ≡ or_at (first_at test (take i xs)) (test (get_or xs i d)) i
first_at-more test xs i d low = let e = length-take i xs in ap (λ ys. first_at test ys) (take_more xs i d low) ∙ first_from-snoc 0 i test (take i xs) (get_or xs i d) (omega (arith, e))

-- the rows of two banks with one number
pub same_bank : (n b row : ℕ) (rows : ℕ → Option ℕ) → (n == b && is_row (rows n) row) ≡ (n == b && is_row (rows b) row)
same_bank n b row rows = go (n == b) refl
  where
    go : (t : Bool) → (n == b) ≡ t → (t && is_row (rows n) row) ≡ (t && is_row (rows b) row)
    go true e = ap (λ k. is_row (rows k) row) (eqb-true n b e)
    go false e = refl

pub noted : (test : Waiting → Bool) (xs : List Waiting) (at : ℕ) (w : Waiting) (before after : Option ℕ) → before ≡ first_at test (take at xs) → after ≡ or_at before (test w) at → w ≡ get_or xs at w → at < length xs → after ≡ first_at test (take (at + 1) xs)
noted test xs at w before after e f g low =
    f ∙ ap (λ o. or_at o (test w) at) e ∙ ap (λ x. or_at (first_at test (take at xs)) (test x) at) g ∙ sym (first_at-more test xs at w low)

-- what a found index says
pub record Found (n : ℕ) (test : Waiting → Bool) (ws : List Waiting) (at : ℕ) : Type 0 where
  pub index : ℕ
  pub at_is : at ≡ n + index
  pub inside : index < length ws
  pub request : Waiting
  pub here : slice_get ws index ≡ Some request
  pub holds : test request ≡ true
  pub first : oldest test ws ≡ Some request

pub found_from : (n : ℕ) (test : Waiting → Bool) (ws : List Waiting) (at : ℕ) → first_from n test ws ≡ Some at → Found n test ws at
found_from n test [] at e = cc
found_from n test (w ∷ ws) at e = go (test w) refl e (λ f. found_from (suc n) test ws at f)
  where
    go : (t : Bool) → test w ≡ t → cond t (Some n) (first_from (suc n) test ws) ≡ Some at → (first_from (suc n) test ws ≡ Some at → Found (suc n) test ws at) → Found n test (w ∷ ws) at
    go true q f ih = let k : n ≡ at = cc in record { index = 0; at_is = omega (arith, k); inside = omega arith; request = w; here = refl; holds = q; first = rw q refl }
    go false q f ih = let h = ih f in record { index = suc h.index; at_is = omega (arith, h.at_is); inside = omega (arith, h.inside); request = h.request; here = h.here; holds = h.holds; first = rw q h.first }

pub record FoundAt (test : Waiting → Bool) (ws : List Waiting) (at : ℕ) : Type 0 where
  pub inside : at < length ws
  pub request : Waiting
  pub here : slice_get ws at ≡ Some request
  pub holds : test request ≡ true
  pub first : oldest test ws ≡ Some request

pub found : (test : Waiting → Bool) (ws : List Waiting) (at : ℕ) → first_at test ws ≡ Some at → FoundAt test ws at
found test ws at e =
    let h = found_from 0 test ws at e in
    let k : at ≡ h.index = omega (arith, h.at_is) in record {
      inside = omega (arith, h.at_is, h.inside);
      request = h.request;
      here = subst (λ i. slice_get ws i ≡ Some h.request) (sym k) h.here;
      holds = h.holds;
      first = h.first;
    }

-- where none is found, no test holds
pub none_found : (n : ℕ) (test : Waiting → Bool) (ws : List Waiting) → first_from n test ws ≡ None → oldest test ws ≡ None
none_found n test [] e = refl
none_found n test (w ∷ ws) e = go (test w) refl e (λ f. none_found (suc n) test ws f)
  where
    go : (t : Bool) → test w ≡ t → cond t (Some n) (first_from (suc n) test ws) ≡ None → (first_from (suc n) test ws ≡ None → oldest test ws ≡ None) → cond (test w) (Some w) (oldest test ws) ≡ None
    go true q f ih = cc
    go false q f ih = rw q (ih f)

pub bank_is : (b : ℕ) (w : Waiting) → in_bank b w ≡ true → bank_number w.place.bank ≡ b
bank_is b w e = eqb-true _ _ e

pub get-inside : (ws : List Waiting) (i : ℕ) (w : Waiting) → slice_get ws i ≡ Some w → i < length ws
get-inside [] i w e = cc
get-inside (v ∷ ws) zero w e = omega arith
get-inside (v ∷ ws) (suc i) w e = let h = get-inside ws i w e in omega (arith, h)

pub get-is : (ws : List Waiting) (i : ℕ) (w v d : Waiting) → w ≡ get_or ws i d → slice_get ws i ≡ Some v → w ≡ v
get-is [] i w v d e f = cc
get-is (x ∷ ws) zero w v d e f = cc
get-is (x ∷ ws) (suc i) w v d e f = get-is ws i w v d e f

pub banks_more : (ws : List Waiting) (at i : ℕ) (w v : Waiting) → ((k : ℕ) (x : Waiting) → k < at → slice_get ws k ≡ Some x → bank_number x.place.bank < 32) → bank_number w.place.bank < 32 → w ≡ get_or ws at w → at < length ws → i < at + 1 → slice_get ws i ≡ Some v → bank_number v.place.bank < 32
banks_more ws at i w v before low is inside upto e = go (below_or i at (omega arith))
  where
    below_or : (a b : ℕ) → a < b + 1 → (a < b) ⊎ (a ≡ b)
    below_or a b h = grind arith

    go : (i < at) ⊎ (i ≡ at) → bank_number v.place.bank < 32
    go (inl h) = before i v h e
    go (inr h) = let f : slice_get ws at ≡ Some v = subst (λ k. slice_get ws k ≡ Some v) h e in let g : w ≡ v = get-is ws at w v w is f in subst (λ (x : Waiting). bank_number x.place.bank < 32) g low

-- an open row that is none is hit by no request
pub no_hit : (n b : ℕ) (ws : List Waiting) → first_from n (hits b None) ws ≡ None
no_hit n b [] = refl
no_hit n b (w ∷ ws) = go (in_bank b w) refl (no_hit (suc n) b ws)
  where
    go : (t : Bool) → in_bank b w ≡ t → first_from (suc n) (hits b None) ws ≡ None → cond (in_bank b w && false) (Some n) (first_from (suc n) (hits b None) ws) ≡ None
    go true q h = rw q h
    go false q h = rw q h

-- a list whose banks are below 32 and none of which asks is empty
pub all_silent : (ws : List Waiting) → ((i : ℕ) (w : Waiting) → slice_get ws i ≡ Some w → bank_number w.place.bank < 32) → ((b : ℕ) → b < 32 → first_at (in_bank b) ws ≡ None) → ws ≡ []
all_silent [] low none = refl
all_silent (w ∷ ws) low none = absurd (go (eq-eqb b b refl) (none b (low 0 w refl)))
  where
    b : ℕ
    b = bank_number w.place.bank

    go : (b == b) ≡ true → cond (b == b) (Some 0) (first_from 1 (in_bank b) ws) ≡ None → ⊥
    go q e = let f : Some 0 ≡ None = sym (ap (λ t. cond t (Some 0) (first_from 1 (in_bank b) ws)) q) ∙ e in cc

-- a bank of which no request waits has no hit
pub not_asked : (n b : ℕ) (o : Option ℕ) (ws : List Waiting) → first_from n (in_bank b) ws ≡ None → first_from n (hits b o) ws ≡ None
not_asked n b o [] e = refl
not_asked n b o (w ∷ ws) e = go (in_bank b w) refl e (λ f. not_asked (suc n) b o ws f)
  where
    go : (t : Bool) → in_bank b w ≡ t → cond t (Some n) (first_from (suc n) (in_bank b) ws) ≡ None → (first_from (suc n) (in_bank b) ws ≡ None → first_from (suc n) (hits b o) ws ≡ None) → cond (in_bank b w && is_row o w.place.row) (Some n) (first_from (suc n) (hits b o) ws) ≡ None
    go true q f h = cc
    go false q f h = rw q (h f)

-- a table of none keeps none
pub none_kept : (n b : ℕ) → kept (replicate n None) b ≡ None
none_kept zero b = refl
none_kept (suc n) zero = refl
none_kept (suc n) (suc b) = none_kept n b

pub none_owed : (n b : ℕ) → slice_index_or (replicate n false) b false ≡ false
none_owed zero b = refl
none_owed (suc n) zero = refl
none_owed (suc n) (suc b) = none_owed n b
