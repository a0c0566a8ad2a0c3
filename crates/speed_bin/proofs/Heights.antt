-- The height of a number of rows is the greatest of all numbers that meet its test, also of those above 64.
use Rattle.std.proofs.Common.{◌≡◌, ◌∙◌, ℕ, zero, suc, ◌+◌, ◌-◌, ◌*◌, ◌^◌, ◌<◌, ◌≤◌, ◌⊎◌, Bool, true, false, nat_le, cond, refl, ap, arith, inl, inr, le-leb, leb-true, pow-suc, add-suc, pow-add, lit<, mul-le-mul, mul-le-mul_left, mul-le-mul_right}
use Rattle.std.proofs.Math.Nat.{pow-zero, le_of_mul-le-mul_left, one-le-pow, pow-le-pow_left}
use Rattle.speed_bin.specs.Height.{IsHeight, greatest_upto, height_of}
use Rattle.speed_bin.proofs.Splits.{below_or_not}

same_or_below : (i n : ℕ) → i ≤ suc n → (i ≡ suc n) ⊎ (i ≤ n)
same_or_below i n h = grind arith

greatest_upto_at : (test : ℕ → Bool) (n y : ℕ) → y ≤ n → test y ≡ true → y ≤ greatest_upto test n
greatest_upto_at test zero y low h = low
greatest_upto_at test (suc n) y low h = go (same_or_below y n low) (test (suc n)) refl (greatest_upto_at test n y)
  where
    go : (y ≡ suc n) ⊎ (y ≤ n) → (t : Bool) → test (suc n) ≡ t → (y ≤ n → test y ≡ true → y ≤ greatest_upto test n) → y ≤ cond t (suc n) (greatest_upto test n)
    go (inl e) true k ih = omega arith
    go (inr below) true k ih = omega arith
    go (inl e) false k ih = let a : test y ≡ false = ap test e ∙ k in absurd (cc)
    go (inr below) false k ih = ih below h

-- no number from 65 on meets the test of 65,536 rows or fewer
too_far : (d rows j : ℕ) → 65536 * d ^ 65 < suc d ^ 65 → rows ≤ 65536 → suc d ^ (65 + j) ≤ rows * d ^ (65 + j) → ⊥
too_far d rows j large few h =
    let a = pow-add (suc d) 65 j in
    let b = pow-add d 65 j in
    let c : d ^ j ≤ suc d ^ j = pow-le-pow_left (omega arith) j in
    let p : 1 ≤ suc d ^ j = one-le-pow j (suc d) (omega arith) in
    let e : rows * (d ^ 65 * d ^ j) ≤ 65536 * (d ^ 65 * suc d ^ j) = mul-le-mul few (mul-le-mul_left (d ^ 65) c) in
    let k : suc d ^ 65 * suc d ^ j ≤ rows * (d ^ 65 * d ^ j) = rw (← a, ← b) h in
    let l : (65536 * d ^ 65 + 1) * suc d ^ j ≤ suc d ^ 65 * suc d ^ j = mul-le-mul_right (suc d ^ j) (omega arith) in
    products (d ^ 65) (suc d ^ j) (suc d ^ 65 * suc d ^ j) _ p l k e
  where
    products : (y q x m : ℕ) → 1 ≤ q → (65536 * y + 1) * q ≤ x → x ≤ m → m ≤ 65536 * (y * q) → ⊥
    products y q x m p l k e = omega arith

-- the cycles 2 to 5
large_enough : (d : ℕ) → d ≤ 4 → 65536 * d ^ 65 < suc d ^ 65
large_enough zero h = lit< tt
large_enough (suc zero) h = lit< tt
large_enough (suc (suc zero)) h = lit< tt
large_enough (suc (suc (suc zero))) h = lit< tt
large_enough (suc (suc (suc (suc zero)))) h = lit< tt
large_enough (suc (suc (suc (suc (suc d))))) h = absurd (omega arith)

pub height_greatest : (d rows y : ℕ) → d ≤ 4 → rows ≤ 65536 → suc d ^ y ≤ rows * d ^ y → y ≤ height_of d rows
unfolding height_of
height_greatest d rows y cycle few h = go (below_or_not y 65)
  where
    go : (y < 65) ⊎ (65 ≤ y) → y ≤ height_of d rows
    go (inl low) = greatest_upto_at (λ k. nat_le (suc d ^ k) (rows * d ^ k)) 64 y (omega arith) (le-leb _ _ h)
    go (inr high) =
        let e : 65 + (y - 65) ≡ y = omega arith in
        absurd (too_far d rows (y - 65) (large_enough d cycle) few (rw e h))

-- ---- The height meets its own test

greatest_meets : (test : ℕ → Bool) (n : ℕ) → test 0 ≡ true → test (greatest_upto test n) ≡ true
greatest_meets test zero h = h
greatest_meets test (suc n) h = go (test (suc n)) refl (greatest_meets test n h)
  where
    go : (t : Bool) → test (suc n) ≡ t → test (greatest_upto test n) ≡ true → test (cond t (suc n) (greatest_upto test n)) ≡ true
    go true e ih = e
    go false e ih = ih

pub height_meets : (d rows : ℕ) → 1 ≤ rows → suc d ^ height_of d rows ≤ rows * d ^ height_of d rows
unfolding height_of
height_meets d rows some =
    let start : suc d ^ 0 ≤ rows * d ^ 0 = rw (pow-zero, pow-zero) (omega arith) in
    leb-true _ _ (greatest_meets (λ k. nat_le (suc d ^ k) (rows * d ^ k)) 64 (le-leb _ _ start))

pub height_is : (d rows : ℕ) → d ≤ 4 → 1 ≤ rows → rows ≤ 65536 → IsHeight d rows (height_of d rows)
height_is d rows cycle some few = record {
  meets = height_meets d rows some;
  greatest = λ k h. height_greatest d rows k cycle few h;
}

-- ---- A number that meets the test while the next one does not is the height

-- each smaller number meets the test too
meets_below : (d rows h e : ℕ) → suc d ^ (h + e) ≤ rows * d ^ (h + e) → suc d ^ h ≤ rows * d ^ h
meets_below d rows h zero k = let same : h + 0 ≡ h = omega arith in rw same at k
meets_below d rows h (suc e) k = meets_below d rows h e (one (h + e) (rw add-suc at k))
  where
    one : (n : ℕ) → suc d ^ suc n ≤ rows * d ^ suc n → suc d ^ n ≤ rows * d ^ n
    one n q =
        let a = pow-suc (suc d) n in
        let b = pow-suc d n in
        let r : suc d ^ n * suc d ≤ rows * (d ^ n * d) = rw (← a, ← b) q in
        let wide : rows * (d ^ n * d) ≤ rows * d ^ n * suc d = omega arith in
        let both : suc d * suc d ^ n ≤ suc d * (rows * d ^ n) = omega arith in
        le_of_mul-le-mul_left both (omega arith)

pub height_at : (d rows h : ℕ) → d ≤ 4 → 1 ≤ rows → rows ≤ 65536 → suc d ^ h ≤ rows * d ^ h → rows * d ^ suc h < suc d ^ suc h → h ≡ height_of d rows
height_at d rows h cycle some few meets fails = go (below_or_not h (height_of d rows))
  where
    up : h ≤ height_of d rows
    up = height_greatest d rows h cycle few meets

    go : (h < height_of d rows) ⊎ (height_of d rows ≤ h) → h ≡ height_of d rows
    go (inr low) = omega (arith, up)
    go (inl high) =
        let e : suc h + (height_of d rows - suc h) ≡ height_of d rows = omega arith in
        let m : suc d ^ (suc h + (height_of d rows - suc h)) ≤ rows * d ^ (suc h + (height_of d rows - suc h)) = rw e (height_meets d rows some) in
        let next = meets_below d rows (suc h) (height_of d rows - suc h) m in
        absurd (omega arith)

-- ---- Heights, computed

of_one_row : height_of 3 1 ≡ 0
unfolding height_of
of_one_row = refl

of_many_rows : height_of 3 65536 ≡ 38
unfolding height_of
of_many_rows = refl
