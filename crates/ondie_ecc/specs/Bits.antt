-- The bits of some bytes, numbered from the least bit of the first byte.
use Rattle.std.specs.Prelude.{ℕ, ◌≡◌, ◌<◌, ◌+◌, ◌*◌, ◌/◌, ◌%◌, ◌^◌, List, length, map, slice_index, slice_set, bit_xor}
use Rattle.std.specs.List.{range_with_len}

-- bit k: bit k % 8 of byte k / 8
abbrev pub bit_of : List ℕ → ℕ → ℕ
bit_of bytes k = slice_index bytes (k / 8) / 2 ^ (k % 8) % 2

-- byte i of the bytes that have these bits
abbrev pub byte_of : (ℕ → ℕ) → ℕ → ℕ
byte_of bit i =
    bit (8 * i) + bit (8 * i + 1) * 2 + bit (8 * i + 2) * 4 + bit (8 * i + 3) * 8 + bit (8 * i + 4) * 16
    + bit (8 * i + 5) * 32 + bit (8 * i + 6) * 64 + bit (8 * i + 7) * 128

-- so many bytes, which have these bits
unfoldable pub packed : ℕ → (ℕ → ℕ) → List ℕ
packed count bit = map (byte_of bit) (range_with_len 0 count)

-- the bytes with bit k turned
unfoldable pub turned : List ℕ → ℕ → List ℕ
turned bytes k = slice_set bytes (k / 8) (bit_xor (slice_index bytes (k / 8)) (2 ^ (k % 8)))

-- so many bytes
pub record IsBytes (count : ℕ) (bytes : List ℕ) : Type 0 where
  pub counted : length bytes ≡ count
  pub small : (i : ℕ) → slice_index bytes i < 256
