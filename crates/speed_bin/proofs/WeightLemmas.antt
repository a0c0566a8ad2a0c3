-- Weights of activation counts. A cycle has suc d activations.
use Rattle.std.proofs.Common.{◌≡◌, ℕ, zero, suc, ◌+◌, ◌-◌, ◌*◌, ◌^◌, ◌<◌, ◌≤◌, ◌⊎◌, min, false, nat_lt, refl, arith, inl, inr, pow-suc, pow-add, mul-le-mul_left, mul-le-mul_right, le_trans, le_refl, add-zero}
use Rattle.std.proofs.Math.Nat.{one-le-pow, le_of_mul-le-mul_left, pow-zero, one-mul, zero-min, zero-mul}
use Rattle.std.proofs.lemmas.Bool.Decides.{nat_tests}
use Rattle.speed_bin.specs.Weights.{weight}
use Rattle.speed_bin.proofs.Splits.{below_or_not}

pub weight_low : (d ath k c : ℕ) → c < ath → weight d ath k c ≡ min c (suc d) * d ^ k
weight_low d ath k c h = grind (arith, nat_tests)

-- y is how far the count is above ATH, and j how many steps are left
pub weight_high : (d ath k c y j : ℕ) → c ≡ ath + y → k ≡ suc y + j → weight d ath k c ≡ suc d ^ suc (suc y) * d ^ j
weight_high d ath k c y j p q =
    let e : nat_lt c ath ≡ false = grind (arith, nat_tests) in
    let f : c - ath ≡ y = omega arith in
    let g : k - suc y ≡ j = omega arith in
    rw (e, f, g) refl

pub nothing : (d ath k : ℕ) → 0 < ath → weight d ath k 0 ≡ 0
nothing d ath k h = rw (weight_low d ath k 0 h, zero-min, zero-mul) refl

-- a weight at a step of the high part, p being a power of the cycle and q one of d: the new weight times the cycle
-- is the old one times the cycle, and the new one
high_step : (d p q old new : ℕ) → old ≡ p * (q * d) → new ≡ p * suc d * q → suc d * new ≡ suc d * old + new
high_step d p q old new e f = rw (e, f) (omega arith)

high_grows : (d p q old new : ℕ) → old ≡ p * (q * d) → new ≡ p * suc d * q → old ≤ new
high_grows d p q old new e f = omega arith

-- the weights at c and at suc c, where suc c is at least ATH
record AtStep (d ath k c : ℕ) : Type 0 where
  p : ℕ
  q : ℕ
  old : weight d ath k c ≡ p * (q * d)
  new : weight d ath k (suc c) ≡ p * suc d * q

at_step_first : (d ath k c j : ℕ) → suc d < ath → suc c ≡ ath → k ≡ suc j → AtStep d ath k c
at_step_first d ath k c j room e f =
    let full : min c (suc d) ≡ suc d = omega arith in
    record {
      p = suc d;
      q = d ^ j;
      old = rw (weight_low d ath k c (omega arith), full, f, pow-suc d j) refl;
      new = rw (weight_high d ath k (suc c) 0 j (omega arith) (omega arith), pow-suc (suc d) 1, pow-suc (suc d) 0, pow-zero, one-mul) refl;
    }

at_step_later : (d ath k c y j : ℕ) → c ≡ ath + y → k ≡ suc (suc y) + j → AtStep d ath k c
at_step_later d ath k c y j e f = record {
  p = suc d ^ suc (suc y);
  q = d ^ j;
  old = rw (weight_high d ath k c y (suc j) e (omega arith), pow-suc d j) refl;
  new = rw (weight_high d ath k (suc c) (suc y) j (omega arith) (omega arith), pow-suc (suc d) (suc (suc y))) refl;
}

at_step : (d ath k c : ℕ) → suc d < ath → suc (suc c) ≤ ath + k → ath ≤ suc c → AtStep d ath k c
at_step d ath k c room within high = go (suc c - ath) refl
  where
    go : (y : ℕ) → suc c - ath ≡ y → AtStep d ath k c
    go zero e = at_step_first d ath k c (k - 1) room (omega arith) (omega arith)
    go (suc y) e = at_step_later d ath k c y (k - suc (suc y)) (omega arith) (omega arith)

low_step : (d p m n old new most : ℕ) → n ≤ m + 1 → old ≡ m * p → new ≡ n * p → suc d * p ≤ most → suc d * new ≤ suc d * old + most
low_step d p m n old new most h e f room =
    let a : n * p ≤ (m + 1) * p = mul-le-mul_right p h in
    let b : suc d * (n * p) ≤ suc d * ((m + 1) * p) = mul-le-mul_left (suc d) a in
    rw (e, f) (omega arith)

-- one activation adds at most a part of the row's new weight, or of the weight at ATH - 1
pub one_activation : (d ath k c most : ℕ) → suc d < ath → suc (suc c) ≤ ath + k → weight d ath k (suc c) ≤ most → suc d * d ^ k ≤ most → suc d * weight d ath k (suc c) ≤ suc d * weight d ath k c + most
one_activation d ath k c most room within new_in low_in = go (below_or_not (suc c) ath)
  where
    go : (suc c < ath) ⊎ (ath ≤ suc c) → suc d * weight d ath k (suc c) ≤ suc d * weight d ath k c + most
    go (inl low) = low_step d (d ^ k) (min c (suc d)) (min (suc c) (suc d)) _ _ most (omega arith) (weight_low d ath k c (omega arith)) (weight_low d ath k (suc c) low) low_in
    go (inr high) =
        let s = at_step d ath k c room within high in
        let e = high_step d s.p s.q _ _ s.old s.new in
        omega (arith, e)

pub grows : (d ath k c : ℕ) → suc d < ath → suc (suc c) ≤ ath + k → weight d ath k c ≤ weight d ath k (suc c)
grows d ath k c room within = go (below_or_not (suc c) ath)
  where
    go : (suc c < ath) ⊎ (ath ≤ suc c) → weight d ath k c ≤ weight d ath k (suc c)
    go (inl low) =
        let m : min c (suc d) ≤ min (suc c) (suc d) = omega arith in
        rw (weight_low d ath k c (omega arith), weight_low d ath k (suc c) low) (mul-le-mul_right (d ^ k) m)
    go (inr high) = let s = at_step d ath k c room within high in high_grows d s.p s.q _ _ s.old s.new

pub grows_by : (d ath k c e : ℕ) → suc d < ath → suc (c + e) ≤ ath + k → weight d ath k c ≤ weight d ath k (c + e)
grows_by d ath k c zero room within = rw add-zero (le_refl _)
grows_by d ath k c (suc e) room within =
    let ih = grows_by d ath k c e room (omega arith) in
    let last = grows d ath k (c + e) room (omega arith) in
    let same : c + suc e ≡ suc (c + e) = omega arith in
    rw same (le_trans ih last)

pub monotone : (d ath k b c : ℕ) → suc d < ath → b ≤ c → suc c ≤ ath + k → weight d ath k b ≤ weight d ath k c
monotone d ath k b c room h within =
    let e : b + (c - b) ≡ c = omega arith in
    let g = grows_by d ath k b (c - b) room (omega arith) in
    rw e at g

-- below ATH a row weighs at most a cycle, and from ATH on at least that
pub low_weight : (d ath k c : ℕ) → c < ath → weight d ath k c ≤ suc d * d ^ k
low_weight d ath k c h =
    let m : min c (suc d) ≤ suc d = omega arith in
    rw (weight_low d ath k c h) (mul-le-mul_right (d ^ k) m)

pub high_weight : (d ath k c : ℕ) → suc d < ath → ath ≤ c → suc c ≤ ath + k → suc d * d ^ k ≤ weight d ath k c
high_weight d ath k c room high within =
    let full : min (ath - 1) (suc d) ≡ suc d = omega arith in
    let start : weight d ath k (ath - 1) ≡ suc d * d ^ k = rw (weight_low d ath k (ath - 1) (omega arith), full) refl in
    let g = monotone d ath k (ath - 1) c room (omega arith) within in
    rw start at g

-- a row that weighs no more than all rows at ATH - 1 is not far above ATH
pub not_far : (d ath k rows c y : ℕ) → 0 < d → c ≡ ath + y → suc y ≤ k → weight d ath k c ≤ rows * (suc d * d ^ k) → suc d ^ suc y ≤ rows * d ^ suc y
not_far d ath k rows c y pos e within h = go (k - suc y) (omega arith)
  where
    go : (j : ℕ) → k ≡ suc y + j → suc d ^ suc y ≤ rows * d ^ suc y
    go j f =
        let w = weight_high d ath k c y j e f in
        let s = pow-suc (suc d) (suc y) in
        let t : d ^ k ≡ d ^ suc y * d ^ j = rw f (pow-add d (suc y) j) in
        let big : suc d ^ suc y * suc d * d ^ j ≤ rows * (suc d * (d ^ suc y * d ^ j)) = rw (← s, ← w, ← t) h in
        let turned : suc d * d ^ j * suc d ^ suc y ≤ suc d * d ^ j * (rows * d ^ suc y) = omega arith in
        let some : 1 ≤ d ^ j = one-le-pow j d pos in
        let q : 0 < suc d * d ^ j = grind arith in
        le_of_mul-le-mul_left turned q
