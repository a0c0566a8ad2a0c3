-- Sums over the numbers below a number, as over the rows of a bank.
use Rattle.std.proofs.Common.{◌≡◌, ◌≢◌, ℕ, zero, suc, ◌+◌, ◌*◌, ◌<◌, ◌≤◌, ◌⊎◌, refl, ap, arith, inl, inr}
use Rattle.speed_bin.specs.Weights.{sum_below}
use Rattle.speed_bin.proofs.Splits.{last_or_below}

pub same_sum : (n : ℕ) (f g : ℕ → ℕ) → ((i : ℕ) → i < n → f i ≡ g i) → sum_below n f ≡ sum_below n g
same_sum zero f g h = refl
same_sum (suc n) f g h =
    let ih = same_sum n f g (λ i low. h i (omega arith)) in
    let last = h n (omega arith) in
    omega arith

-- where the two differ at one place alone, the sums differ by as much
pub one_change : (n r : ℕ) (f g : ℕ → ℕ) → r < n → ((i : ℕ) → i < n → i ≢ r → f i ≡ g i) → sum_below n f + g r ≡ sum_below n g + f r
one_change zero r f g low h = omega arith
one_change (suc n) r f g low h = go (last_or_below r n low) (one_change n r f g)
  where
    go : (r ≡ n) ⊎ (r < n) → (r < n → ((i : ℕ) → i < n → i ≢ r → f i ≡ g i) → sum_below n f + g r ≡ sum_below n g + f r) → f n + sum_below n f + g r ≡ g n + sum_below n g + f r
    go (inl e) ih =
        let rest : sum_below n f ≡ sum_below n g = same_sum n f g (λ i below. h i (omega arith) (omega arith)) in
        let a : f r ≡ f n = ap f e in
        let b : g r ≡ g n = ap g e in
        omega arith
    go (inr below) ih =
        let now : sum_below n f + g r ≡ sum_below n g + f r = ih below (λ i under other. h i (omega arith) other) in
        let last : f n ≡ g n = h n (omega arith) (omega arith) in
        omega arith

pub sum_at_most : (n most : ℕ) (f : ℕ → ℕ) → ((i : ℕ) → i < n → f i ≤ most) → sum_below n f ≤ n * most
sum_at_most zero most f h = omega arith
sum_at_most (suc n) most f h =
    let ih = sum_at_most n most f (λ i low. h i (omega arith)) in
    let last = h n (omega arith) in
    omega arith

pub part_of_sum : (n r : ℕ) (f : ℕ → ℕ) → r < n → f r ≤ sum_below n f
part_of_sum zero r f low = omega arith
part_of_sum (suc n) r f low = go (last_or_below r n low) (part_of_sum n r f)
  where
    go : (r ≡ n) ⊎ (r < n) → (r < n → f r ≤ sum_below n f) → f r ≤ f n + sum_below n f
    go (inl e) ih = let a : f r ≡ f n = ap f e in omega arith
    go (inr below) ih = let now = ih below in omega arith
