-- A codeword of 136 bits: where its check bits and its data bits stand, and its syndrome.
use Rattle.std.specs.Prelude.{ℕ, zero, suc, ◌+◌, ◌*◌, ◌/◌, ◌%◌, Bool, not, ◌==◌, List, [], ◌∷◌, length, slice_index, filter, if◌then◌else◌, bit_xor}
use Rattle.std.specs.List.{range_with_len, list_any}
use Rattle.ondie_ecc.specs.Bits.{bit_of, packed}

-- the positions of the check bits
abbrev pub check_positions : List ℕ
check_positions = 1 ∷ 2 ∷ 4 ∷ 8 ∷ 16 ∷ 32 ∷ 64 ∷ 128 ∷ []

-- bit k, which stands for position k + 1, is a check bit
unfoldable pub is_check : ℕ → Bool
is_check k = list_any (λ position. position == k + 1) check_positions

-- the data bits below bit k, in rising order
unfoldable pub data_bits_below : ℕ → List ℕ
data_bits_below k = filter (λ bit. not (is_check bit)) (range_with_len 0 k)

-- the bytes of the data bits: data bit j is the j-th bit of the word that is no check bit
unfoldable pub data_of : List ℕ → List ℕ
data_of word = packed 16 (λ j. bit_of word (slice_index (data_bits_below 136) j))

-- the exclusive-or of the positions of the set bits below bit k
unfoldable pub syndrome_below : List ℕ → ℕ → ℕ
syndrome_below word zero = 0
syndrome_below word (suc k) = bit_xor (syndrome_below word k) (bit_of word k * suc k)

-- the exclusive-or of the positions of all set bits
unfoldable pub syndrome_of : List ℕ → ℕ
syndrome_of word = syndrome_below word 136

-- the word with these data bits, whose check bit at each position is the bit of `check` of that worth
unfoldable pub laid : List ℕ → ℕ → List ℕ
laid bytes check =
    packed 17 (λ k. if is_check k then check / suc k % 2 else bit_of bytes (length (data_bits_below k)))

-- the codeword of 16 bytes: its check bits make the syndrome 0
unfoldable pub codeword_of : List ℕ → List ℕ
codeword_of bytes = laid bytes (syndrome_of (laid bytes 0))

-- what byte i adds to a syndrome: the exclusive-or of the positions of its set bits
abbrev pub byte_syndrome_of : ℕ → ℕ → ℕ
byte_syndrome_of i byte =
    bit_xor (bit_xor (bit_xor (bit_xor (bit_xor (bit_xor (bit_xor
    (byte / 1 % 2 * (8 * i + 1))
    (byte / 2 % 2 * (8 * i + 2)))
    (byte / 4 % 2 * (8 * i + 3)))
    (byte / 8 % 2 * (8 * i + 4)))
    (byte / 16 % 2 * (8 * i + 5)))
    (byte / 32 % 2 * (8 * i + 6)))
    (byte / 64 % 2 * (8 * i + 7)))
    (byte / 128 % 2 * (8 * i + 8))
