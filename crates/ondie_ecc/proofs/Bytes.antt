-- What a byte adds to a syndrome.
use Rattle.std.proofs.Common.{◌≡◌, ℕ, zero, suc, ◌+◌, ◌*◌, ◌/◌, ◌%◌, ◌^◌, ◌<◌, ◌==◌, true, List, slice_index, bit_and, refl, arith}
use Rattle.std.proofs.lemmas.Bool.{eqb-true}
use Rattle.std.specs.Int.Bits.{bit_xor, xor_assoc}
use Rattle.ondie_ecc.specs.Bits.{bit_of}
use Rattle.ondie_ecc.specs.Codeword.{byte_syndrome_of, syndrome_below}
use Rattle.ondie_ecc.proofs.Below.{below, at_below}

-- the bytes of the table, added at byte 1, tell what the byte adds at any byte
abbrev pub moved : ℕ → ℕ → ℕ
moved p i = bit_xor (bit_xor (bit_and p 7) (bit_and (p / 8) 1 * i * 8)) (p / 16 * (i + 1) * 8)

all_moved : below 17 (λ i. below 256 (λ b. moved (byte_syndrome_of 1 b) i == byte_syndrome_of i b)) ≡ true
all_moved = refl

pub moved-byte : (i b : ℕ) → i < 17 → b < 256 → moved (byte_syndrome_of 1 b) i ≡ byte_syndrome_of i b
moved-byte i b near small =
    eqb-true (moved (byte_syndrome_of 1 b) i) (byte_syndrome_of i b)
    (at_below 256 (λ b. moved (byte_syndrome_of 1 b) i == byte_syndrome_of i b)
    (at_below 17 (λ i. below 256 (λ b. moved (byte_syndrome_of 1 b) i == byte_syndrome_of i b)) all_moved i near) b small)

pub top_fits : (t i : ℕ) → t < 2 → i < 17 → t * (i + 1) * 8 < 256
top_fits zero i h near = omega arith
top_fits (suc zero) i h near = omega arith
top_fits (suc (suc t)) i h near = absurd (omega arith)

-- bit t of byte i
pub bit_in : (bytes : List ℕ) (k i t : ℕ) → k ≡ 8 * i + t → t < 8 → bit_of bytes k ≡ slice_index bytes i / 2 ^ t % 2
bit_in bytes k i t at small =
    let byte : k / 8 ≡ i = omega arith in
    let place : k % 8 ≡ t = omega arith in
    rw (byte, place)

eight : (a t0 t1 t2 t3 t4 t5 t6 t7 : ℕ)
    → bit_xor (bit_xor (bit_xor (bit_xor (bit_xor (bit_xor (bit_xor (bit_xor a t0) t1) t2) t3) t4) t5) t6) t7
    ≡ bit_xor a (bit_xor (bit_xor (bit_xor (bit_xor (bit_xor (bit_xor (bit_xor t0 t1) t2) t3) t4) t5) t6) t7)
eight a t0 t1 t2 t3 t4 t5 t6 t7 = simp xor_assoc

term : (bytes : List ℕ) (k i t : ℕ) → k ≡ 8 * i + t → t < 8 → bit_of bytes k * suc k ≡ slice_index bytes i / 2 ^ t % 2 * (8 * i + suc t)
term bytes k i t at small =
    let place : suc k ≡ 8 * i + suc t = omega arith in
    rw (bit_in bytes k i t at small, place)

-- one byte more
pub syndrome_byte : (bytes : List ℕ) (i : ℕ)
    → syndrome_below bytes (8 * (i + 1)) ≡ bit_xor (syndrome_below bytes (8 * i)) (byte_syndrome_of i (slice_index bytes i))
unfolding syndrome_below
syndrome_byte bytes i =
    let n : ℕ = 8 * i in
    let wide : 8 * (i + 1) ≡ suc (suc (suc (suc (suc (suc (suc (suc n))))))) = omega arith in
    rw (
      wide,
      term bytes n i 0 (omega arith) (omega arith),
      term bytes (suc n) i 1 (omega arith) (omega arith),
      term bytes (suc (suc n)) i 2 (omega arith) (omega arith),
      term bytes (suc (suc (suc n))) i 3 (omega arith) (omega arith),
      term bytes (suc (suc (suc (suc n)))) i 4 (omega arith) (omega arith),
      term bytes (suc (suc (suc (suc (suc n))))) i 5 (omega arith) (omega arith),
      term bytes (suc (suc (suc (suc (suc (suc n)))))) i 6 (omega arith) (omega arith),
      term bytes (suc (suc (suc (suc (suc (suc (suc n))))))) i 7 (omega arith) (omega arith),
    )
    (eight (syndrome_below bytes n) _ _ _ _ _ _ _ _)
