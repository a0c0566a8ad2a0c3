-- Runs of bits of a byte, each equal to the sum of its bits, by computing at all 256 bytes.
use Rattle.std.proofs.Common.{◌≡◌, ℕ, ◌+◌, ◌*◌, ◌/◌, ◌%◌, ◌<◌, ◌==◌, true, refl}
use Rattle.std.proofs.lemmas.Bool.{eqb-true}
use Rattle.ondie_ecc.proofs.Below.{below, at_below}

at_byte : (f g : ℕ → ℕ) → below 256 (λ b. f b == g b) ≡ true → (b : ℕ) → b < 256 → f b ≡ g b
at_byte f g h b small = eqb-true (f b) (g b) (at_below 256 (λ b. f b == g b) h b small)

pub run-4_3 : (b : ℕ) → b < 256 → b / 16 % 8 ≡ b / 16 % 2 + b / 32 % 2 * 2 + b / 64 % 2 * 4
run-4_3 = at_byte (λ b. b / 16 % 8) (λ b. b / 16 % 2 + b / 32 % 2 * 2 + b / 64 % 2 * 4) refl

pub run-5_3 : (b : ℕ) → b < 256 → b / 32 % 8 ≡ b / 32 % 2 + b / 64 % 2 * 2 + b / 128 % 2 * 4
run-5_3 = at_byte (λ b. b / 32 % 8) (λ b. b / 32 % 2 + b / 64 % 2 * 2 + b / 128 % 2 * 4) refl

pub run-5_2 : (b : ℕ) → b < 256 → b / 32 % 4 ≡ b / 32 % 2 + b / 64 % 2 * 2
run-5_2 = at_byte (λ b. b / 32 % 4) (λ b. b / 32 % 2 + b / 64 % 2 * 2) refl

pub run-6_2 : (b : ℕ) → b < 256 → b / 64 % 4 ≡ b / 64 % 2 + b / 128 % 2 * 2
run-6_2 = at_byte (λ b. b / 64 % 4) (λ b. b / 64 % 2 + b / 128 % 2 * 2) refl

pub run-6_1 : (b : ℕ) → b < 256 → b / 64 % 2 ≡ b / 64 % 2
run-6_1 = at_byte (λ b. b / 64 % 2) (λ b. b / 64 % 2) refl

pub run-7_1 : (b : ℕ) → b < 256 → b / 128 % 2 ≡ b / 128 % 2
run-7_1 = at_byte (λ b. b / 128 % 2) (λ b. b / 128 % 2) refl

pub run-0_4 : (b : ℕ) → b < 256 → b / 1 % 16 ≡ b / 1 % 2 + b / 2 % 2 * 2 + b / 4 % 2 * 4 + b / 8 % 2 * 8
run-0_4 = at_byte (λ b. b / 1 % 16) (λ b. b / 1 % 2 + b / 2 % 2 * 2 + b / 4 % 2 * 4 + b / 8 % 2 * 8) refl

pub run-0_5 : (b : ℕ) → b < 256 → b % 32 ≡ b / 1 % 2 + b / 2 % 2 * 2 + b / 4 % 2 * 4 + b / 8 % 2 * 8 + b / 16 % 2 * 16
run-0_5 = at_byte (λ b. b % 32) (λ b. b / 1 % 2 + b / 2 % 2 * 2 + b / 4 % 2 * 4 + b / 8 % 2 * 8 + b / 16 % 2 * 16) refl

pub run-0_6 : (b : ℕ) → b < 256 → b % 64 ≡ b / 1 % 2 + b / 2 % 2 * 2 + b / 4 % 2 * 4 + b / 8 % 2 * 8 + b / 16 % 2 * 16 + b / 32 % 2 * 32
run-0_6 = at_byte (λ b. b % 64) (λ b. b / 1 % 2 + b / 2 % 2 * 2 + b / 4 % 2 * 4 + b / 8 % 2 * 8 + b / 16 % 2 * 16 + b / 32 % 2 * 32) refl

pub run-0_7 : (b : ℕ) → b < 256 → b % 128 ≡ b / 1 % 2 + b / 2 % 2 * 2 + b / 4 % 2 * 4 + b / 8 % 2 * 8 + b / 16 % 2 * 16 + b / 32 % 2 * 32 + b / 64 % 2 * 64
run-0_7 = at_byte (λ b. b % 128) (λ b. b / 1 % 2 + b / 2 % 2 * 2 + b / 4 % 2 * 4 + b / 8 % 2 * 8 + b / 16 % 2 * 16 + b / 32 % 2 * 32 + b / 64 % 2 * 64) refl

pub run-0_8 : (b : ℕ) → b < 256 → b ≡ b / 1 % 2 + b / 2 % 2 * 2 + b / 4 % 2 * 4 + b / 8 % 2 * 8 + b / 16 % 2 * 16 + b / 32 % 2 * 32 + b / 64 % 2 * 64 + b / 128 % 2 * 128
run-0_8 = at_byte (λ b. b) (λ b. b / 1 % 2 + b / 2 % 2 * 2 + b / 4 % 2 * 4 + b / 8 % 2 * 8 + b / 16 % 2 * 16 + b / 32 % 2 * 32 + b / 64 % 2 * 64 + b / 128 % 2 * 128) refl

pub run-4_4 : (b : ℕ) → b < 256 → b / 16 % 16 ≡ b / 16 % 2 + b / 32 % 2 * 2 + b / 64 % 2 * 4 + b / 128 % 2 * 8
run-4_4 = at_byte (λ b. b / 16 % 16) (λ b. b / 16 % 2 + b / 32 % 2 * 2 + b / 64 % 2 * 4 + b / 128 % 2 * 8) refl

pub run-3_5 : (b : ℕ) → b < 256 → b / 8 % 32 ≡ b / 8 % 2 + b / 16 % 2 * 2 + b / 32 % 2 * 4 + b / 64 % 2 * 8 + b / 128 % 2 * 16
run-3_5 = at_byte (λ b. b / 8 % 32) (λ b. b / 8 % 2 + b / 16 % 2 * 2 + b / 32 % 2 * 4 + b / 64 % 2 * 8 + b / 128 % 2 * 16) refl

pub run-2_6 : (b : ℕ) → b < 256 → b / 4 % 64 ≡ b / 4 % 2 + b / 8 % 2 * 2 + b / 16 % 2 * 4 + b / 32 % 2 * 8 + b / 64 % 2 * 16 + b / 128 % 2 * 32
run-2_6 = at_byte (λ b. b / 4 % 64) (λ b. b / 4 % 2 + b / 8 % 2 * 2 + b / 16 % 2 * 4 + b / 32 % 2 * 8 + b / 64 % 2 * 16 + b / 128 % 2 * 32) refl

pub run-1_7 : (b : ℕ) → b < 256 → b / 2 % 128 ≡ b / 2 % 2 + b / 4 % 2 * 2 + b / 8 % 2 * 4 + b / 16 % 2 * 8 + b / 32 % 2 * 16 + b / 64 % 2 * 32 + b / 128 % 2 * 64
run-1_7 = at_byte (λ b. b / 2 % 128) (λ b. b / 2 % 2 + b / 4 % 2 * 2 + b / 8 % 2 * 4 + b / 16 % 2 * 8 + b / 32 % 2 * 16 + b / 64 % 2 * 32 + b / 128 % 2 * 64) refl

pub run-0_3 : (b : ℕ) → b < 256 → b % 8 ≡ b / 1 % 2 + b / 2 % 2 * 2 + b / 4 % 2 * 4
run-0_3 = at_byte (λ b. b % 8) (λ b. b / 1 % 2 + b / 2 % 2 * 2 + b / 4 % 2 * 4) refl

pub run-0_2 : (b : ℕ) → b < 256 → b % 4 ≡ b / 1 % 2 + b / 2 % 2 * 2
run-0_2 = at_byte (λ b. b % 4) (λ b. b / 1 % 2 + b / 2 % 2 * 2) refl

pub run-0_1 : (b : ℕ) → b < 256 → b % 2 ≡ b / 1 % 2
run-0_1 = at_byte (λ b. b % 2) (λ b. b / 1 % 2) refl

pub run-1_3 : (b : ℕ) → b < 256 → b / 2 % 8 ≡ b / 2 % 2 + b / 4 % 2 * 2 + b / 8 % 2 * 4
run-1_3 = at_byte (λ b. b / 2 % 8) (λ b. b / 2 % 2 + b / 4 % 2 * 2 + b / 8 % 2 * 4) refl
