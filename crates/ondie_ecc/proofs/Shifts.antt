-- Runs of bits that are shifted and joined stay within a byte.
use Rattle.std.proofs.Common.{◌≡◌, ℕ, zero, suc, ◌+◌, ◌-◌, ◌*◌, ◌/◌, ◌%◌, ◌^◌, ◌<◌, ◌≤◌, ◌∙◌, bit_and, ap, arith}
use Rattle.std.proofs.lemmas.Nat.{and_mask, pow_pos}
use Rattle.std.proofs.Math.Nat.{mod-lt}
use Rattle.std.proofs.lemmas.Nat.Bits.{ones_shr}

pub shifted : (high c : ℕ) → c ≤ 7 → high * 2 ^ c % 2 ^ 8 ≡ high % 2 ^ (8 - c) * 2 ^ c
shifted high zero near = omega arith
shifted high (suc zero) near = omega arith
shifted high (suc (suc zero)) near = omega arith
shifted high (suc (suc (suc zero))) near = omega arith
shifted high (suc (suc (suc (suc zero)))) near = omega arith
shifted high (suc (suc (suc (suc (suc zero))))) near = omega arith
shifted high (suc (suc (suc (suc (suc (suc zero)))))) near = omega arith
shifted high (suc (suc (suc (suc (suc (suc (suc zero))))))) near = omega arith
shifted high (suc (suc (suc (suc (suc (suc (suc (suc c)))))))) near = absurd (omega arith)

pub joined-fits : (low high c : ℕ) → c ≤ 7 → low < 2 ^ c → low + high % 2 ^ (8 - c) * 2 ^ c < 256
joined-fits low high zero near small = omega arith
joined-fits low high (suc zero) near small = omega arith
joined-fits low high (suc (suc zero)) near small = omega arith
joined-fits low high (suc (suc (suc zero))) near small = omega arith
joined-fits low high (suc (suc (suc (suc zero)))) near small = omega arith
joined-fits low high (suc (suc (suc (suc (suc zero))))) near small = omega arith
joined-fits low high (suc (suc (suc (suc (suc (suc zero)))))) near small = omega arith
joined-fits low high (suc (suc (suc (suc (suc (suc (suc zero))))))) near small = omega arith
joined-fits low high (suc (suc (suc (suc (suc (suc (suc (suc c)))))))) near small = absurd (omega arith)

-- seven bits
pub seven-shifted : (high from : ℕ) → 2 ≤ from → from ≤ 7
    → high / 1 % 2 ^ (from - 1) * 2 ^ (8 - from) % 2 ^ 8 ≡ high % 2 ^ (from - 1) * 2 ^ (8 - from)
seven-shifted high zero least near = absurd (omega arith)
seven-shifted high (suc zero) least near = absurd (omega arith)
seven-shifted high (suc (suc zero)) least near = omega arith
seven-shifted high (suc (suc (suc zero))) least near = omega arith
seven-shifted high (suc (suc (suc (suc zero)))) least near = omega arith
seven-shifted high (suc (suc (suc (suc (suc zero))))) least near = omega arith
seven-shifted high (suc (suc (suc (suc (suc (suc zero)))))) least near = omega arith
seven-shifted high (suc (suc (suc (suc (suc (suc (suc zero))))))) least near = omega arith
seven-shifted high (suc (suc (suc (suc (suc (suc (suc (suc c)))))))) least near = absurd (omega arith)

pub seven-fits : (low high from : ℕ) → 2 ≤ from → from ≤ 7 → low < 2 ^ (8 - from) → low + high % 2 ^ (from - 1) * 2 ^ (8 - from) < 128
seven-fits low high zero least near small = absurd (omega arith)
seven-fits low high (suc zero) least near small = absurd (omega arith)
seven-fits low high (suc (suc zero)) least near small = omega arith
seven-fits low high (suc (suc (suc zero))) least near small = omega arith
seven-fits low high (suc (suc (suc (suc zero)))) least near small = omega arith
seven-fits low high (suc (suc (suc (suc (suc zero))))) least near small = omega arith
seven-fits low high (suc (suc (suc (suc (suc (suc zero)))))) least near small = omega arith
seven-fits low high (suc (suc (suc (suc (suc (suc (suc zero))))))) least near small = omega arith
seven-fits low high (suc (suc (suc (suc (suc (suc (suc (suc c)))))))) least near small = absurd (omega arith)

-- the lowest bits of a byte, by a mask
pub masked : (n count : ℕ) → 1 ≤ count → count ≤ 8 → bit_and n (255 / 2 ^ (8 - count)) ≡ n % 2 ^ count
masked n count some near =
    let left : 8 - (8 - count) ≡ count = omega arith in
    let mask : 255 / 2 ^ (8 - count) ≡ 2 ^ count - 1 = ones_shr 8 (8 - count) (omega arith) ∙ ap (λ k. 2 ^ k - 1) left in
    ap (bit_and n) mask ∙ and_mask n count

pub masked-below : (n count : ℕ) → 1 ≤ count → count ≤ 8 → bit_and n (255 / 2 ^ (8 - count)) < 2 ^ count
masked-below n count some near = rw (masked n count some near) (mod-lt n (pow_pos count))
