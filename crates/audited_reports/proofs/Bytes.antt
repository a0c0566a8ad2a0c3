-- What a reading finds is 64 bytes.
use Rattle.std.proofs.Common.{◌≡◌, ℕ, zero, suc, ◌+◌, ◌*◌, ◌<◌, List, [], ◌∷◌, ◌++◌, map, length, refl, arith, length-append}
use Rattle.std.specs.Prelude.{slice_index}
use Rattle.std.specs.List.{range_with_len}
use Rattle.ondie_ecc.specs.Bits.{bit_of, byte_of, packed}
use Rattle.ondie_ecc.specs.Codeword.{data_of, data_bits_below}
use Rattle.ondie_ecc.specs.Repaired.{mended}
use Rattle.error_scrub.specs.Changes.{Change, word_after}
use Rattle.error_scrub.specs.Reading.{data_read}
use Rattle.device_core.specs.Stored.{reading}

-- so many bytes
pub record AreBytes (count : ℕ) (bytes : List ℕ) : Type 0 where
  pub counted : length bytes ≡ count
  pub small : (i : ℕ) → slice_index bytes i < 256

abbrev IsSmall : List ℕ → Type 0
IsSmall xs = (i : ℕ) → slice_index xs i < 256

small-append : (xs ys : List ℕ) → IsSmall xs → IsSmall ys → IsSmall (xs ++ ys)
small-append [] ys f g i = g i
small-append (x ∷ xs) ys f g zero = f 0
small-append (x ∷ xs) ys f g (suc i) = small-append xs ys (λ j. f (suc j)) g i

join : (m n : ℕ) (xs ys : List ℕ) → AreBytes m xs → AreBytes n ys → AreBytes (m + n) (xs ++ ys)
join m n xs ys f g = record {
  counted = omega (arith, length-append xs ys, f.counted, g.counted);
  small = small-append xs ys f.small g.small;
}

-- ---- Packed bits

byte-small : (bit : ℕ → ℕ) → ((k : ℕ) → bit k < 2) → (n : ℕ) → byte_of bit n < 256
byte-small bit low n = omega (
  arith,
  low (8 * n),
  low (8 * n + 1),
  low (8 * n + 2),
  low (8 * n + 3),
  low (8 * n + 4),
  low (8 * n + 5),
  low (8 * n + 6),
  low (8 * n + 7),
)

packed-small : (bit : ℕ → ℕ) → ((k : ℕ) → bit k < 2) → (ns : List ℕ) → IsSmall (map (byte_of bit) ns)
packed-small bit low [] i = omega arith
packed-small bit low (n ∷ ns) zero = byte-small bit low n
packed-small bit low (n ∷ ns) (suc i) = packed-small bit low ns i

sixteen : (bit : ℕ → ℕ) → ((k : ℕ) → bit k < 2) → AreBytes 16 (packed 16 bit)
unfolding packed
sixteen bit low = record { counted = refl; small = packed-small bit low (range_with_len 0 16) }

bit-low : (word : List ℕ) (k : ℕ) → bit_of word k < 2
bit-low word k = omega arith

data-bytes : (word : List ℕ) → AreBytes 16 (data_of word)
unfolding data_of
data-bytes word = sixteen (λ j. bit_of word (slice_index (data_bits_below 136) j)) (λ k. bit-low word (slice_index (data_bits_below 136) k))

read-bytes : (word : List ℕ) → AreBytes 16 (data_read word)
unfolding data_read
read-bytes word = data-bytes (mended word)

pub reading-bytes : (changes : List Change) (line : ℕ) → AreBytes 64 (reading changes line).bytes
unfolding reading
reading-bytes changes line =
    let a = word_after changes line 0 in
    let b = word_after changes line 1 in
    let d = word_after changes line 2 in
    let e = word_after changes line 3 in
    join 48 16 (data_read a ++ data_read b ++ data_read d) (data_read e)
    (join 32 16 (data_read a ++ data_read b) (data_read d) (join 16 16 (data_read a) (data_read b) (read-bytes a) (read-bytes b)) (read-bytes d))
    (read-bytes e)
