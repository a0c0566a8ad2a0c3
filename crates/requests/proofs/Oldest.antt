-- The first of a list that passes a test.
use Rattle.std.proofs.Common.{◌≡◌, ◌∙◌, ℕ, zero, suc, Bool, true, false, cond, Some, List, [], ◌∷◌, ◌++◌, slice_get, refl, sym, ap, subst}
use Rattle.std.specs.List.{remove}
use Rattle.requests.specs.declared.waiting.Waiting.{Waiting}
use Rattle.requests.specs.Queue.{oldest}

pub oldest-more : (test : Waiting → Bool) (ws vs : List Waiting) (w : Waiting) → oldest test ws ≡ Some w → oldest test (ws ++ vs) ≡ Some w
oldest-more test [] vs w e = cc
oldest-more test (v ∷ ws) vs w e = go (test v) refl e (oldest-more test ws vs w)
  where
    go : (t : Bool) → test v ≡ t → cond t (Some v) (oldest test ws) ≡ Some w → (oldest test ws ≡ Some w → oldest test (ws ++ vs) ≡ Some w) → cond (test v) (Some v) (oldest test (ws ++ vs)) ≡ Some w
    go true p f ih = rw p f
    go false p f ih = rw p (ih f)

pub oldest-remove : (test : Waiting → Bool) (ws : List Waiting) (at : ℕ) (w v : Waiting) → slice_get ws at ≡ Some v → test v ≡ false → oldest test ws ≡ Some w → oldest test (remove ws at) ≡ Some w
oldest-remove test [] at w v e f g = cc
oldest-remove test (x ∷ ws) zero w v e f g =
    let k : x ≡ v = cc in
    let t : test x ≡ false = subst (λ (y : Waiting). test y ≡ false) (sym k) f in
    sym (ap (λ b. cond b (Some x) (oldest test ws)) t) ∙ g
oldest-remove test (x ∷ ws) (suc at) w v e f g = go (test x) refl g (oldest-remove test ws at w v e f)
  where
    go : (t : Bool) → test x ≡ t → cond t (Some x) (oldest test ws) ≡ Some w → (oldest test ws ≡ Some w → oldest test (remove ws at) ≡ Some w) → cond (test x) (Some x) (oldest test (remove ws at)) ≡ Some w
    go true p f ih = rw p f
    go false p f ih = rw p (ih f)

pub record Found (test : Waiting → Bool) (ws : List Waiting) : Type 0 where
  pub request : Waiting
  pub found : oldest test ws ≡ Some request

-- where the oldest of one test passes another, some passes that
pub oldest-other : (test other : Waiting → Bool) (ws : List Waiting) (w : Waiting) → oldest test ws ≡ Some w → other w ≡ true → Found other ws
oldest-other test other [] w e f = cc
oldest-other test other (v ∷ ws) w e f = go (test v) (other v) refl refl e (λ g. oldest-other test other ws w g f)
  where
    go : (a b : Bool) → test v ≡ a → other v ≡ b → cond a (Some v) (oldest test ws) ≡ Some w → (oldest test ws ≡ Some w → Found other ws) → Found other (v ∷ ws)
    go a true p q g ih = record { request = v; found = rw q refl }
    go true false p q g ih = let k : v ≡ w = cc in let m : other v ≡ true = subst (λ (x : Waiting). other x ≡ true) (sym k) f in cc
    go false false p q g ih = let h = ih g in record { request = h.request; found = rw q h.found }

pub holds : (test : Waiting → Bool) (ws : List Waiting) (w : Waiting) → oldest test ws ≡ Some w → test w ≡ true
holds test [] w e = cc
holds test (v ∷ ws) w e = go (test v) refl e (holds test ws w)
  where
    go : (t : Bool) → test v ≡ t → cond t (Some v) (oldest test ws) ≡ Some w → (oldest test ws ≡ Some w → test w ≡ true) → test w ≡ true
    go true p f ih = let g : v ≡ w = cc in subst (λ (x : Waiting). test x ≡ true) g p
    go false p f ih = ih f
