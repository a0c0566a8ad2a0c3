-- A byte as the sum of its bits, and as two runs of bits.
use Rattle.std.proofs.Common.{◌≡◌, ℕ, ◌+◌, ◌*◌, arith}

pub joined-1 : (x0 x1 x2 x3 x4 x5 x6 x7 low high : ℕ) → low ≡ x0 → high ≡ x1 + x2 * 2 + x3 * 4 + x4 * 8 + x5 * 16 + x6 * 32 + x7 * 64
    → x0 + x1 * 2 + x2 * 4 + x3 * 8 + x4 * 16 + x5 * 32 + x6 * 64 + x7 * 128 ≡ low + high * 2
joined-1 x0 x1 x2 x3 x4 x5 x6 x7 low high below above = omega arith

pub joined-2 : (x0 x1 x2 x3 x4 x5 x6 x7 low high : ℕ) → low ≡ x0 + x1 * 2 → high ≡ x2 + x3 * 2 + x4 * 4 + x5 * 8 + x6 * 16 + x7 * 32
    → x0 + x1 * 2 + x2 * 4 + x3 * 8 + x4 * 16 + x5 * 32 + x6 * 64 + x7 * 128 ≡ low + high * 4
joined-2 x0 x1 x2 x3 x4 x5 x6 x7 low high below above = omega arith

pub joined-3 : (x0 x1 x2 x3 x4 x5 x6 x7 low high : ℕ) → low ≡ x0 + x1 * 2 + x2 * 4 → high ≡ x3 + x4 * 2 + x5 * 4 + x6 * 8 + x7 * 16
    → x0 + x1 * 2 + x2 * 4 + x3 * 8 + x4 * 16 + x5 * 32 + x6 * 64 + x7 * 128 ≡ low + high * 8
joined-3 x0 x1 x2 x3 x4 x5 x6 x7 low high below above = omega arith

pub joined-4 : (x0 x1 x2 x3 x4 x5 x6 x7 low high : ℕ) → low ≡ x0 + x1 * 2 + x2 * 4 + x3 * 8 → high ≡ x4 + x5 * 2 + x6 * 4 + x7 * 8
    → x0 + x1 * 2 + x2 * 4 + x3 * 8 + x4 * 16 + x5 * 32 + x6 * 64 + x7 * 128 ≡ low + high * 16
joined-4 x0 x1 x2 x3 x4 x5 x6 x7 low high below above = omega arith

pub checked-4 : (x0 x1 x2 x3 x4 x5 x6 x7 low high : ℕ) → low ≡ x0 + x1 * 2 + x2 * 4 + x3 * 8 → high ≡ x4 + x5 * 2 + x6 * 4
    → x0 + x1 * 2 + x2 * 4 + x3 * 8 + x4 * 16 + x5 * 32 + x6 * 64 + x7 * 128 ≡ low + high * 16 + x7 * 128
checked-4 x0 x1 x2 x3 x4 x5 x6 x7 low high below above = omega arith

pub joined-5 : (x0 x1 x2 x3 x4 x5 x6 x7 low high : ℕ) → low ≡ x0 + x1 * 2 + x2 * 4 + x3 * 8 + x4 * 16 → high ≡ x5 + x6 * 2 + x7 * 4
    → x0 + x1 * 2 + x2 * 4 + x3 * 8 + x4 * 16 + x5 * 32 + x6 * 64 + x7 * 128 ≡ low + high * 32
joined-5 x0 x1 x2 x3 x4 x5 x6 x7 low high below above = omega arith

pub checked-5 : (x0 x1 x2 x3 x4 x5 x6 x7 low high : ℕ) → low ≡ x0 + x1 * 2 + x2 * 4 + x3 * 8 + x4 * 16 → high ≡ x5 + x6 * 2
    → x0 + x1 * 2 + x2 * 4 + x3 * 8 + x4 * 16 + x5 * 32 + x6 * 64 + x7 * 128 ≡ low + high * 32 + x7 * 128
checked-5 x0 x1 x2 x3 x4 x5 x6 x7 low high below above = omega arith

pub joined-6 : (x0 x1 x2 x3 x4 x5 x6 x7 low high : ℕ) → low ≡ x0 + x1 * 2 + x2 * 4 + x3 * 8 + x4 * 16 + x5 * 32 → high ≡ x6 + x7 * 2
    → x0 + x1 * 2 + x2 * 4 + x3 * 8 + x4 * 16 + x5 * 32 + x6 * 64 + x7 * 128 ≡ low + high * 64
joined-6 x0 x1 x2 x3 x4 x5 x6 x7 low high below above = omega arith

pub checked-6 : (x0 x1 x2 x3 x4 x5 x6 x7 low high : ℕ) → low ≡ x0 + x1 * 2 + x2 * 4 + x3 * 8 + x4 * 16 + x5 * 32 → high ≡ x6
    → x0 + x1 * 2 + x2 * 4 + x3 * 8 + x4 * 16 + x5 * 32 + x6 * 64 + x7 * 128 ≡ low + high * 64 + x7 * 128
checked-6 x0 x1 x2 x3 x4 x5 x6 x7 low high below above = omega arith

pub joined-7 : (x0 x1 x2 x3 x4 x5 x6 x7 low high : ℕ) → low ≡ x0 + x1 * 2 + x2 * 4 + x3 * 8 + x4 * 16 + x5 * 32 + x6 * 64 → high ≡ x7
    → x0 + x1 * 2 + x2 * 4 + x3 * 8 + x4 * 16 + x5 * 32 + x6 * 64 + x7 * 128 ≡ low + high * 128
joined-7 x0 x1 x2 x3 x4 x5 x6 x7 low high below above = omega arith
