-- Tests of every number below a bound, which compute.
use Rattle.std.proofs.Common.{◌≡◌, ℕ, zero, suc, ◌<◌, Bool, true, false, ◌&&◌, ◌⊎◌, inl, inr, arith, sym, subst, refl}

-- the test holds at each number below the bound
abbrev pub below : ℕ → (ℕ → Bool) → Bool
below zero test = true
below (suc n) test = test n && below n test

pub and_left : (a b : Bool) → (a && b) ≡ true → a ≡ true
and_left true b h = refl
and_left false b h = h

pub and_right : (a b : Bool) → (a && b) ≡ true → b ≡ true
and_right true b h = h
and_right false b h = cc

last_or_below : (k n : ℕ) → k < suc n → (k ≡ n) ⊎ (k < n)
last_or_below k n h = grind arith

pub at_below : (n : ℕ) (test : ℕ → Bool) → below n test ≡ true → (k : ℕ) → k < n → test k ≡ true
at_below zero test h k small = absurd (omega arith)
at_below (suc n) test h k small =
    elim (last_or_below k n small) [
      | inl same ↦ subst (λ (m : ℕ). test m ≡ true) (sym same) (and_left (test n) (below n test) h)
      | inr less ↦ at_below n test (and_right (test n) (below n test) h) k less
    ]
