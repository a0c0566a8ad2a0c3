-- The powers that `height` computes fit into 128 bits, and a height is small.
use Rattle.std.proofs.Common.{refl, ◌-◌, ◌≡◌, ℕ, zero, suc, Bool, true, false, cond, nat_le, ◌*◌, ◌^◌, ◌<◌, ◌≤◌, arith, pow-suc, mul-le-mul, lit<}
use Rattle.std.proofs.Math.Nat.{pow-zero, pow-le-pow_right, pow-le-pow_left}
use Rattle.speed_bin.specs.Height.{greatest_upto, height_of}

pub power_fits : (d h : ℕ) → d ≤ 4 → h < 50 → suc d ^ suc h * suc d < 2 ^ 128
power_fits d h cycle low =
    let a = pow-suc (suc d) (suc h) in
    let base : suc d ^ suc (suc h) ≤ 5 ^ suc (suc h) = pow-le-pow_left (omega arith) (suc (suc h)) in
    let five : 0 < 5 = omega arith in
    let k : suc (suc h) ≤ 51 = omega arith in
    let b : 5 ^ suc (suc h) ≤ 5 ^ 51 = pow-le-pow_right five k in
    omega (arith, a, base, b)

pub limit_fits : (d rows h : ℕ) → d ≤ 4 → rows ≤ 65536 → h < 50 → rows * d ^ suc h * d < 2 ^ 128
limit_fits d rows h cycle few low =
    let base : d ^ suc h ≤ 4 ^ suc h = pow-le-pow_left cycle (suc h) in
    let four : 0 < 4 = omega arith in
    let k : suc h ≤ 50 = omega arith in
    let b : 4 ^ suc h ≤ 4 ^ 50 = pow-le-pow_right four k in
    let small : d ^ suc h ≤ 4 ^ 50 = omega (arith, base, b) in
    let c : rows * d ^ suc h ≤ 65536 * 4 ^ 50 = mul-le-mul few small in
    let e : rows * d ^ suc h * d ≤ 65536 * 4 ^ 50 * 4 = mul-le-mul c cycle in
    omega (arith, e)

pub first_power : (n : ℕ) → n ≡ n ^ 1
first_power n = let a : n ^ 1 ≡ n ^ 0 * n = pow-suc n 0 in let b : n ^ 0 ≡ 1 = rw pow-zero refl in rw (a, b) (omega arith)

pub first_reached : (cycle rows d : ℕ) → 1 ≤ rows → cycle ^ 0 ≤ rows * d ^ 0
first_reached cycle rows d some = rw (pow-zero, pow-zero) (omega (arith, some))

pub first_limit : (rows d : ℕ) → d * rows ≡ rows * d ^ 1
first_limit rows d = let a : d ^ 1 ≡ d ^ 0 * d = pow-suc d 0 in let b : d ^ 0 ≡ 1 = rw pow-zero refl in rw (a, b) (omega arith)

pub next_limit : (rows d n : ℕ) → rows * d ^ n * d ≡ rows * d ^ suc n
next_limit rows d n = let a = pow-suc d n in rw a (omega arith)

-- the cycles 2 to 5: no number of rows reaches a height of 50
fifty : (d : ℕ) → d ≤ 4 → 65536 * d ^ 50 < suc d ^ 50
fifty zero h = lit< tt
fifty (suc zero) h = lit< tt
fifty (suc (suc zero)) h = lit< tt
fifty (suc (suc (suc zero))) h = lit< tt
fifty (suc (suc (suc (suc zero)))) h = lit< tt
fifty (suc (suc (suc (suc (suc d))))) h = absurd (omega arith)

pub not_fifty : (d rows : ℕ) → d ≤ 4 → rows ≤ 65536 → suc d ^ 50 ≤ rows * d ^ 50 → ⊥
not_fifty d rows cycle few reached =
    let f = fifty d cycle in
    let c : rows * d ^ 50 ≤ 65536 * d ^ 50 = mul-le-mul few (omega arith) in
    omega (arith, f, c, reached)

upto_below : (test : ℕ → Bool) (n : ℕ) → greatest_upto test n ≤ n
upto_below test zero = omega arith
upto_below test (suc n) = go (test (suc n)) (upto_below test n)
  where
    go : (t : Bool) → greatest_upto test n ≤ n → cond t (suc n) (greatest_upto test n) ≤ suc n
    go true low = omega arith
    go false low = omega arith

pub height_low : (spare rows : ℕ) → height_of spare rows ≤ 64
unfolding height_of
height_low spare rows = upto_below (λ k. nat_le (suc spare ^ k) (rows * spare ^ k)) 64
