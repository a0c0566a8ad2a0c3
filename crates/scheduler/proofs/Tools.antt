-- More of tests over the numbers below a number, lists of tests, and refreshes that are due.
use Rattle.std.proofs.Common.{◌≡◌, ◌∙◌, ℕ, zero, suc, ◌/◌, ◌<◌, ◌≤◌, ◌⊎◌, inl, inr, Bool, true, false, ◌&&◌, ◌||◌, Some, None, List, [], ◌∷◌, IsTrue, refl, ap, arith, cond}
use Rattle.std.proofs.Math.Nat.{div-mul-le_self}
use Rattle.std.proofs.lemmas.Nat.{le-div}
use Rattle.speed_bin.specs.Below.{all_below, any_below}
use Rattle.speed_bin.specs.Log.{Log, refs}
use Rattle.speed_bin.specs.Rules.{first_failing}
use Rattle.speed_bin.specs.declared.header.Header.{Header}
use Rattle.speed_bin.proofs.Audits.{AllTrue}
use Rattle.speed_bin.proofs.Splits.{last_or_below}
use Rattle.refresh_plan.specs.Debts.{IsNothingDue}
use Rattle.refresh_plan.proofs.Owing.{below_two, below_back}

pub not_false : (x : Bool) → (x ≡ true → ⊥) → x ≡ false
not_false true h = absurd (h refl)
not_false false h = refl

pub le_or_gt : (a b : ℕ) → (a ≤ b) ⊎ (b < a)
le_or_gt a b = grind arith

-- where not all pass, one fails
pub record Fails (n : ℕ) (test : ℕ → Bool) : Type 0 where
  pub index : ℕ
  pub low : index < n
  pub fails : test index ≡ false

pub fails_below : (n : ℕ) (test : ℕ → Bool) → all_below n test ≡ false → Fails n test
unfolding all_below
fails_below zero test e = cc
fails_below (suc n) test e = go (test n) refl e (λ f. fails_below n test f)
  where
    go : (t : Bool) → test n ≡ t → (t && all_below n test) ≡ false → (all_below n test ≡ false → Fails n test) → Fails (suc n) test
    go true q f ih = let k = ih f in let l = k.low in record { index = k.index; low = omega (arith, l); fails = k.fails }
    go false q f ih = record { index = n; low = omega arith; fails = q }

pub any_below_false : (n : ℕ) (f : ℕ → Bool) → any_below n f ≡ false → (i : ℕ) → i < n → f i ≡ false
unfolding any_below
any_below_false zero f h i low = absurd (omega arith)
any_below_false (suc n) f h i low = go (f n) refl h (last_or_below i n low) (λ k below. any_below_false n f k i below)
  where
    go : (t : Bool) → f n ≡ t → (t || any_below n f) ≡ false → (i ≡ n) ⊎ (i < n) → (any_below n f ≡ false → i < n → f i ≡ false) → f i ≡ false
    go true q e at ih = cc
    go false q e (inl at) ih = ap f at ∙ q
    go false q e (inr below) ih = ih e below

-- what passes a test at each number where another passes
pub any_below_wider : (n : ℕ) (f g : ℕ → Bool) → ((i : ℕ) → i < n → f i ≡ true → g i ≡ true) → any_below n f ≡ true → any_below n g ≡ true
unfolding any_below
any_below_wider zero f g h e = e
any_below_wider (suc n) f g h e = go (f n) refl e (λ k. any_below_wider n f g (λ i low. h i (omega (arith, low))) k)
  where
    go : (t : Bool) → f n ≡ t → (t || any_below n f) ≡ true → (any_below n f ≡ true → any_below n g ≡ true) → (g n || any_below n g) ≡ true
    go true q k ih = ap (λ t. t || any_below n g) (h n (omega arith) q)
    go false q k ih = go2 (g n) (ih k)
      where
        go2 : (t : Bool) → any_below n g ≡ true → (t || any_below n g) ≡ true
        go2 true k = refl
        go2 false k = k

-- ---- A list of tests that all hold

pub none_failing : (n : ℕ) (tests : List Bool) → AllTrue tests → first_failing n tests ≡ None
none_failing n [] h = refl
none_failing n (t ∷ ts) h = go t h.0 (none_failing (suc n) ts h.1)
  where
    go : (t : Bool) → IsTrue t → first_failing (suc n) ts ≡ None → cond t (first_failing (suc n) ts) (Some n) ≡ None
    go true p k = k
    go false p k = cc

-- ---- Refreshes that are due

div_mono : (a b n : ℕ) → 1 ≤ n → a ≤ b → a / n ≤ b / n
div_mono a b n some le = let m = div-mul-le_self a n in le-div (a / n) b n some (omega (arith, m, le))

pub nothing_due_before : (h : Header) (log : Log) (t u : ℕ) → 1 ≤ h.timing.nrefi → t ≤ u → IsNothingDue h u log → IsNothingDue h t log
nothing_due_before h log t u some le nothing = λ address low. let e = below_back (u / h.timing.nrefi) (refs address log) (nothing address low) in let d = div_mono t u h.timing.nrefi some le in below_two (t / h.timing.nrefi) (refs address log) (omega (arith, e, d))
