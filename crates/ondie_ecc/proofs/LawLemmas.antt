-- Repair of a codeword, and of one with a turned bit.
use Rattle.std.proofs.Common.{◌≡◌, ℕ, suc, ◌+◌, ◌-◌, ◌<◌, ◌≤◌, ◌==◌, ◌∙◌, true, false, nat_le, List, length, ap, arith}
use Rattle.std.specs.Int.Bits.{bit_xor, xor_zero_l}
use Rattle.ondie_ecc.specs.Bits.{turned, IsBytes}
use Rattle.ondie_ecc.specs.Codeword.{codeword_of, data_of, syndrome_of}
use Rattle.ondie_ecc.specs.Repaired.{mended, repaired_of}
use Rattle.ondie_ecc.specs.declared.codeword.Repaired.TheVariants.{Clean, Fixed, Lost}
use Rattle.ondie_ecc.proofs.Checks.{data_of-codeword, length-codeword, syndrome_of-codeword}
use Rattle.ondie_ecc.proofs.Turns.{syndrome_of-turned, turned-turned}

pub mended-codeword : (bytes : List ℕ) → mended (codeword_of bytes) ≡ codeword_of bytes
unfolding mended
mended-codeword bytes = rw (syndrome_of-codeword bytes)

pub repaired_of-codeword : (bytes : List ℕ) → IsBytes 16 bytes → repaired_of (codeword_of bytes) ≡ Clean bytes
unfolding repaired_of
repaired_of-codeword bytes is = rw (syndrome_of-codeword bytes) (ap Clean (data_of-codeword bytes is))

turned_syndrome : (bytes : List ℕ) (bit : ℕ) → bit < 136 → syndrome_of (turned (codeword_of bytes) bit) ≡ suc bit
turned_syndrome bytes bit near =
    syndrome_of-turned (codeword_of bytes) bit (length-codeword bytes) near
    ∙ ap (λ (s : ℕ). bit_xor s (suc bit)) (syndrome_of-codeword bytes)
    ∙ xor_zero_l (suc bit)

within : (bit : ℕ) → bit < 136 → nat_le (suc bit) 136 ≡ true
within bit near = grind arith

above : (bit : ℕ) → (suc bit == 0) ≡ false
above bit = grind arith

before : (bit : ℕ) → suc bit - 1 ≡ bit
before bit = omega arith

after : (bit : ℕ) → suc bit ≡ bit + 1
after bit = omega arith

pub mended-turned : (bytes : List ℕ) (bit : ℕ) → bit < 136 → mended (turned (codeword_of bytes) bit) ≡ codeword_of bytes
unfolding mended
mended-turned bytes bit near =
    rw (turned_syndrome bytes bit near, above bit, within bit near, before bit)
    (turned-turned (codeword_of bytes) bit (let counted : length (codeword_of bytes) ≡ 17 = length-codeword bytes in omega arith))

pub repaired_of-turned : (bytes : List ℕ) (bit : ℕ) → IsBytes 16 bytes → bit < 136
    → repaired_of (turned (codeword_of bytes) bit) ≡ Fixed bytes (bit + 1)
unfolding repaired_of
repaired_of-turned bytes bit is near =
    rw (mended-turned bytes bit near, turned_syndrome bytes bit near, above bit, within bit near, data_of-codeword bytes is)
    (ap (Fixed bytes) (after bit))

pub repaired_of-clean : (word : List ℕ) → syndrome_of word ≡ 0 → repaired_of word ≡ Clean (data_of word)
unfolding repaired_of
repaired_of-clean word none = rw none

positive : (k : ℕ) → 1 ≤ k → (k == 0) ≡ false
positive k least = grind arith

at_most : (k : ℕ) → k ≤ 136 → nat_le k 136 ≡ true
at_most k near = grind arith

beyond : (k : ℕ) → 136 < k → nat_le k 136 ≡ false
beyond k far = grind arith

pub repaired_of-fixed : (word : List ℕ) (k : ℕ) → syndrome_of word ≡ k → 1 ≤ k → k ≤ 136
    → repaired_of word ≡ Fixed (data_of (turned word (k - 1))) k
unfolding repaired_of mended
repaired_of-fixed word k is least near = rw (is, positive k least, at_most k near)

pub repaired_of-lost : (word : List ℕ) (k : ℕ) → syndrome_of word ≡ k → 136 < k → repaired_of word ≡ Lost (data_of word) k
unfolding repaired_of
repaired_of-lost word k is far = rw (is, positive k (omega arith), beyond k far)

pub mended-clean : (word : List ℕ) → syndrome_of word ≡ 0 → mended word ≡ word
unfolding mended
mended-clean word none = rw none

pub mended-fixed : (word : List ℕ) (k : ℕ) → syndrome_of word ≡ k → 1 ≤ k → k ≤ 136 → mended word ≡ turned word (k - 1)
unfolding mended
mended-fixed word k is least near = rw (is, positive k least, at_most k near)

pub mended-lost : (word : List ℕ) (k : ℕ) → syndrome_of word ≡ k → 136 < k → mended word ≡ word
unfolding mended
mended-lost word k is far = rw (is, positive k (omega arith), beyond k far)
