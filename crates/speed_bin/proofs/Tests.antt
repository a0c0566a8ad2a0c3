-- Tests over the numbers below a number, and tests joined.
use Rattle.std.proofs.Common.{◌≡◌, ◌∙◌, ℕ, zero, suc, ◌<◌, ◌⊎◌, Bool, true, false, ◌&&◌, ◌||◌, not, refl, sym, ap, arith, inl, inr, Option, Some, None, is_none, ◌+◌, add-one}
use Rattle.speed_bin.specs.Below.{all_below, any_below}
use Rattle.speed_bin.proofs.Splits.{last_or_below}

pub both : (x y : Bool) → (x && y) ≡ true → (x ≡ true) × (y ≡ true)
both true y h = (refl, h)
both false y h = (cc, cc)

pub joined : (x y : Bool) → x ≡ true → y ≡ true → (x && y) ≡ true
joined true y h k = k
joined false y h k = cc

pub or_right : (x y : Bool) → y ≡ true → (x || y) ≡ true
or_right true y h = refl
or_right false y h = h

pub or_left : (x y : Bool) → x ≡ true → (x || y) ≡ true
or_left true y h = refl
or_left false y h = cc

pub or_false : (x y : Bool) → (x || y) ≡ false → (x ≡ false) × (y ≡ false)
or_false true y h = (cc, cc)
or_false false y h = (refl, h)

pub when_not : (x y : Bool) → (not x || y) ≡ true → x ≡ true → y ≡ true
when_not true y h e = h
when_not false y h e = cc

pub true_or_false : (x : Bool) → (x ≡ true) ⊎ (x ≡ false)
true_or_false true = inl refl
true_or_false false = inr refl

-- two tests that hold together are one
pub same_tests : (x y : Bool) → (x ≡ true → y ≡ true) → (y ≡ true → x ≡ true) → x ≡ y
same_tests true true h k = refl
same_tests true false h k = sym (h refl)
same_tests false true h k = k refl
same_tests false false h k = refl

pub none_from_test : (o : Option ℕ) → is_none o ≡ true → o ≡ None
none_from_test None h = refl
none_from_test (Some x) h = cc

pub any_below_at : (n : ℕ) (test : ℕ → Bool) (i : ℕ) → i < n → test i ≡ true → any_below n test ≡ true
unfolding any_below
any_below_at zero test i low h = absurd (omega arith)
any_below_at (suc n) test i low h = go (last_or_below i n low) (any_below_at n test i)
  where
    go : (i ≡ n) ⊎ (i < n) → (i < n → test i ≡ true → any_below n test ≡ true) → (test n || any_below n test) ≡ true
    go (inl e) ih = or_left (test n) (any_below n test) (ap test (sym e) ∙ h)
    go (inr below) ih = or_right (test n) (any_below n test) (ih below h)

pub any_below_none : (n : ℕ) (test : ℕ → Bool) → ((i : ℕ) → i < n → test i ≡ false) → any_below n test ≡ false
unfolding any_below
any_below_none zero test h = refl
any_below_none (suc n) test h =
    let here = h n (omega arith) in
    rw here (any_below_none n test (λ i low. h i (omega arith)))

-- where some number passes, there is one
pub any_below_some : (n : ℕ) (test : ℕ → Bool) → any_below n test ≡ true → (i : ℕ) × (i < n) × (test i ≡ true)
unfolding any_below
any_below_some zero test h = absurd cc
any_below_some (suc n) test h = go (test n) refl h (any_below_some n test)
  where
    go : (x : Bool) → test n ≡ x → (x || any_below n test) ≡ true → (any_below n test ≡ true → (i : ℕ) × (i < n) × (test i ≡ true)) → (i : ℕ) × (i < suc n) × (test i ≡ true)
    go true e k ih = (n, omega arith, e)
    go false e k ih = let w : (i : ℕ) × (i < n) × (test i ≡ true) = ih k in (w.0, omega (arith, w.1), w.2)

pub any_below_same : (n : ℕ) (test other : ℕ → Bool) → ((i : ℕ) → i < n → test i ≡ other i) → any_below n test ≡ any_below n other
unfolding any_below
any_below_same zero test other h = refl
any_below_same (suc n) test other h =
    let ih = any_below_same n test other (λ i low. h i (omega arith)) in
    let e = h n (omega arith) in
    rw (e, ih) refl

pub all_below_at : (n : ℕ) (test : ℕ → Bool) (i : ℕ) → all_below n test ≡ true → i < n → test i ≡ true
unfolding all_below
all_below_at zero test i h low = absurd (omega arith)
all_below_at (suc n) test i h low = go (both (test n) (all_below n test) h) (last_or_below i n low) (all_below_at n test i)
  where
    go : (test n ≡ true) × (all_below n test ≡ true) → (i ≡ n) ⊎ (i < n) → (all_below n test ≡ true → i < n → test i ≡ true) → test i ≡ true
    go p (inl e) ih = ap test e ∙ p.0
    go p (inr below) ih = ih p.1 below

-- where not all pass, some one fails
pub all_below_fails : (n : ℕ) (test : ℕ → Bool) → all_below n test ≡ false → (i : ℕ) × (i < n) × (test i ≡ false)
unfolding all_below
all_below_fails zero test h = absurd (cc)
all_below_fails (suc n) test h = go (test n) refl (all_below_fails n test)
  where
    go : (x : Bool) → test n ≡ x → (all_below n test ≡ false → (i : ℕ) × (i < n) × (test i ≡ false)) → (i : ℕ) × (i < suc n) × (test i ≡ false)
    go false e ih = (n, omega arith, e)
    go true e ih =
        let rest : all_below n test ≡ false = rw e at h in
        let p = ih rest in
        (p.0, (let low = p.1 in omega arith), p.2)

-- ---- A loop that tests each number in turn

pub all_below_none : (test : ℕ → Bool) → all_below 0 test ≡ true
unfolding all_below
all_below_none test = refl

pub all_below_more : (n : ℕ) (test : ℕ → Bool) → all_below n test ≡ true → test n ≡ true → all_below (n + 1) test ≡ true
unfolding all_below
all_below_more n test h k = rw add-one (joined (test n) (all_below n test) k h)

pub all_below_refuted : (n : ℕ) (test : ℕ → Bool) (i : ℕ) → i < n → test i ≡ false → all_below n test ≡ false
all_below_refuted n test i low h = go (true_or_false (all_below n test))
  where
    go : (all_below n test ≡ true) ⊎ (all_below n test ≡ false) → all_below n test ≡ false
    go (inl e) = let k = all_below_at n test i e low in absurd (cc)
    go (inr e) = e

pub all_below_same : (n : ℕ) (test other : ℕ → Bool) → ((i : ℕ) → i < n → test i ≡ other i) → all_below n test ≡ all_below n other
unfolding all_below
all_below_same zero test other h = refl
all_below_same (suc n) test other h =
    let ih = all_below_same n test other (λ i low. h i (omega arith)) in
    let e = h n (omega arith) in
    rw (e, ih) refl

pub all_below_from : (n : ℕ) (test : ℕ → Bool) → ((i : ℕ) → i < n → test i ≡ true) → all_below n test ≡ true
unfolding all_below
all_below_from zero test h = refl
all_below_from (suc n) test h = joined (test n) (all_below n test) (h n (omega arith)) (all_below_from n test (λ i low. h i (omega arith)))
