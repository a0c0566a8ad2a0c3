-- Bytes made of bits have these bits.
use Rattle.std.proofs.Common.{◌≡◌, ℕ, zero, suc, ◌+◌, ◌*◌, ◌/◌, ◌%◌, ◌^◌, ◌<◌, ◌≤◌, ◌∙◌, List, map, slice_index, get_or, refl, sym, ap, arith, add-zero}
use Rattle.std.specs.List.{range_with_len}
use Rattle.std.proofs.lemmas.List.FromFn.{get_or-map-range_with_len, fill_by_all}
use Rattle.ondie_ecc.specs.Bits.{bit_of, byte_of, packed, IsBytes}
use Rattle.ondie_ecc.proofs.Bytes.{bit_in}
use Rattle.ondie_ecc.proofs.Runs.{run-0_8}

sum_bit-0 : (x0 x1 x2 x3 x4 x5 x6 x7 : ℕ) → x0 < 2 → x1 < 2 → x2 < 2 → x3 < 2 → x4 < 2 → x5 < 2 → x6 < 2 → x7 < 2
    → (x0 + x1 * 2 + x2 * 4 + x3 * 8 + x4 * 16 + x5 * 32 + x6 * 64 + x7 * 128) / 1 % 2 ≡ x0
sum_bit-0 x0 x1 x2 x3 x4 x5 x6 x7 h0 h1 h2 h3 h4 h5 h6 h7 = omega arith

sum_bit-1 : (x0 x1 x2 x3 x4 x5 x6 x7 : ℕ) → x0 < 2 → x1 < 2 → x2 < 2 → x3 < 2 → x4 < 2 → x5 < 2 → x6 < 2 → x7 < 2
    → (x0 + x1 * 2 + x2 * 4 + x3 * 8 + x4 * 16 + x5 * 32 + x6 * 64 + x7 * 128) / 2 % 2 ≡ x1
sum_bit-1 x0 x1 x2 x3 x4 x5 x6 x7 h0 h1 h2 h3 h4 h5 h6 h7 = omega arith

sum_bit-2 : (x0 x1 x2 x3 x4 x5 x6 x7 : ℕ) → x0 < 2 → x1 < 2 → x2 < 2 → x3 < 2 → x4 < 2 → x5 < 2 → x6 < 2 → x7 < 2
    → (x0 + x1 * 2 + x2 * 4 + x3 * 8 + x4 * 16 + x5 * 32 + x6 * 64 + x7 * 128) / 4 % 2 ≡ x2
sum_bit-2 x0 x1 x2 x3 x4 x5 x6 x7 h0 h1 h2 h3 h4 h5 h6 h7 = omega arith

sum_bit-3 : (x0 x1 x2 x3 x4 x5 x6 x7 : ℕ) → x0 < 2 → x1 < 2 → x2 < 2 → x3 < 2 → x4 < 2 → x5 < 2 → x6 < 2 → x7 < 2
    → (x0 + x1 * 2 + x2 * 4 + x3 * 8 + x4 * 16 + x5 * 32 + x6 * 64 + x7 * 128) / 8 % 2 ≡ x3
sum_bit-3 x0 x1 x2 x3 x4 x5 x6 x7 h0 h1 h2 h3 h4 h5 h6 h7 = omega arith

sum_bit-4 : (x0 x1 x2 x3 x4 x5 x6 x7 : ℕ) → x0 < 2 → x1 < 2 → x2 < 2 → x3 < 2 → x4 < 2 → x5 < 2 → x6 < 2 → x7 < 2
    → (x0 + x1 * 2 + x2 * 4 + x3 * 8 + x4 * 16 + x5 * 32 + x6 * 64 + x7 * 128) / 16 % 2 ≡ x4
sum_bit-4 x0 x1 x2 x3 x4 x5 x6 x7 h0 h1 h2 h3 h4 h5 h6 h7 = omega arith

sum_bit-5 : (x0 x1 x2 x3 x4 x5 x6 x7 : ℕ) → x0 < 2 → x1 < 2 → x2 < 2 → x3 < 2 → x4 < 2 → x5 < 2 → x6 < 2 → x7 < 2
    → (x0 + x1 * 2 + x2 * 4 + x3 * 8 + x4 * 16 + x5 * 32 + x6 * 64 + x7 * 128) / 32 % 2 ≡ x5
sum_bit-5 x0 x1 x2 x3 x4 x5 x6 x7 h0 h1 h2 h3 h4 h5 h6 h7 = omega arith

sum_bit-6 : (x0 x1 x2 x3 x4 x5 x6 x7 : ℕ) → x0 < 2 → x1 < 2 → x2 < 2 → x3 < 2 → x4 < 2 → x5 < 2 → x6 < 2 → x7 < 2
    → (x0 + x1 * 2 + x2 * 4 + x3 * 8 + x4 * 16 + x5 * 32 + x6 * 64 + x7 * 128) / 64 % 2 ≡ x6
sum_bit-6 x0 x1 x2 x3 x4 x5 x6 x7 h0 h1 h2 h3 h4 h5 h6 h7 = omega arith

sum_bit-7 : (x0 x1 x2 x3 x4 x5 x6 x7 : ℕ) → x0 < 2 → x1 < 2 → x2 < 2 → x3 < 2 → x4 < 2 → x5 < 2 → x6 < 2 → x7 < 2
    → (x0 + x1 * 2 + x2 * 4 + x3 * 8 + x4 * 16 + x5 * 32 + x6 * 64 + x7 * 128) / 128 % 2 ≡ x7
sum_bit-7 x0 x1 x2 x3 x4 x5 x6 x7 h0 h1 h2 h3 h4 h5 h6 h7 = omega arith

-- bit t of byte i
byte_of-bit : (f : ℕ → ℕ) → ((k : ℕ) → f k < 2) → (i t : ℕ) → t < 8 → byte_of f i / 2 ^ t % 2 ≡ f (8 * i + t)
byte_of-bit f bit i zero small = rw add-zero (sum_bit-0 _ _ _ _ _ _ _ _ (bit _) (bit _) (bit _) (bit _) (bit _) (bit _) (bit _) (bit _))
byte_of-bit f bit i (suc zero) small = sum_bit-1 _ _ _ _ _ _ _ _ (bit _) (bit _) (bit _) (bit _) (bit _) (bit _) (bit _) (bit _)
byte_of-bit f bit i (suc (suc zero)) small = sum_bit-2 _ _ _ _ _ _ _ _ (bit _) (bit _) (bit _) (bit _) (bit _) (bit _) (bit _) (bit _)
byte_of-bit f bit i (suc (suc (suc zero))) small = sum_bit-3 _ _ _ _ _ _ _ _ (bit _) (bit _) (bit _) (bit _) (bit _) (bit _) (bit _) (bit _)
byte_of-bit f bit i (suc (suc (suc (suc zero)))) small = sum_bit-4 _ _ _ _ _ _ _ _ (bit _) (bit _) (bit _) (bit _) (bit _) (bit _) (bit _) (bit _)
byte_of-bit f bit i (suc (suc (suc (suc (suc zero))))) small = sum_bit-5 _ _ _ _ _ _ _ _ (bit _) (bit _) (bit _) (bit _) (bit _) (bit _) (bit _) (bit _)
byte_of-bit f bit i (suc (suc (suc (suc (suc (suc zero)))))) small = sum_bit-6 _ _ _ _ _ _ _ _ (bit _) (bit _) (bit _) (bit _) (bit _) (bit _) (bit _) (bit _)
byte_of-bit f bit i (suc (suc (suc (suc (suc (suc (suc zero))))))) small = sum_bit-7 _ _ _ _ _ _ _ _ (bit _) (bit _) (bit _) (bit _) (bit _) (bit _) (bit _) (bit _)
byte_of-bit f bit i (suc (suc (suc (suc (suc (suc (suc (suc t)))))))) small = absurd (omega arith)

pub bit_of-packed : (n : ℕ) (f : ℕ → ℕ) → ((k : ℕ) → f k < 2) → (k : ℕ) → k < 8 * n → bit_of (packed n f) k ≡ f k
unfolding packed
bit_of-packed n f bit k below =
    let byte : get_or (map (byte_of f) (range_with_len 0 n)) (k / 8) 0 ≡ byte_of f (k / 8) =
    get_or-map-range_with_len (byte_of f) 0 n (k / 8) (k / 8) 0 (omega arith) (omega arith) in
    let place : 8 * (k / 8) + k % 8 ≡ k = omega arith in
    rw byte (byte_of-bit f bit (k / 8) (k % 8) (omega arith) ∙ ap f place)

map_same : (f g : ℕ → ℕ) (a n : ℕ) → ((i : ℕ) → a ≤ i → i < a + n → f i ≡ g i) → map f (range_with_len a n) ≡ map g (range_with_len a n)
map_same f g a zero same = refl
map_same f g a (suc n) same =
    let here : f a ≡ g a = same a (omega arith) (omega arith) in
    let there : map f (range_with_len (a + 1) n) ≡ map g (range_with_len (a + 1) n) =
    map_same f g (a + 1) n (λ i from to. same i (omega arith) (omega arith)) in
    cc

byte_same : (f g : ℕ → ℕ) (i : ℕ) → ((k : ℕ) → k < 8 * i + 8 → f k ≡ g k) → byte_of f i ≡ byte_of g i
byte_same f g i same =
    rw (
      same (8 * i) (omega arith),
      same (8 * i + 1) (omega arith),
      same (8 * i + 2) (omega arith),
      same (8 * i + 3) (omega arith),
      same (8 * i + 4) (omega arith),
      same (8 * i + 5) (omega arith),
      same (8 * i + 6) (omega arith),
      same (8 * i + 7) (omega arith),
    )

-- the same bits make the same bytes
pub packed-same : (n : ℕ) (f g : ℕ → ℕ) → ((k : ℕ) → k < 8 * n → f k ≡ g k) → packed n f ≡ packed n g
unfolding packed
packed-same n f g same =
    map_same (byte_of f) (byte_of g) 0 n (λ i from to. byte_same f g i (λ k near. same k (omega arith)))

-- a byte is made of its bits
byte_of-bits : (bytes : List ℕ) (i : ℕ) → slice_index bytes i < 256 → byte_of (bit_of bytes) i ≡ slice_index bytes i
byte_of-bits bytes i small =
    rw (
      bit_in bytes (8 * i) i 0 (omega arith) (omega arith),
      bit_in bytes (8 * i + 1) i 1 (omega arith) (omega arith),
      bit_in bytes (8 * i + 2) i 2 (omega arith) (omega arith),
      bit_in bytes (8 * i + 3) i 3 (omega arith) (omega arith),
      bit_in bytes (8 * i + 4) i 4 (omega arith) (omega arith),
      bit_in bytes (8 * i + 5) i 5 (omega arith) (omega arith),
      bit_in bytes (8 * i + 6) i 6 (omega arith) (omega arith),
      bit_in bytes (8 * i + 7) i 7 (omega arith) (omega arith),
    )
    (sym (run-0_8 (slice_index bytes i) small))

pub packed-bits : (n : ℕ) (bytes : List ℕ) → IsBytes n bytes → packed n (bit_of bytes) ≡ bytes
unfolding packed
packed-bits n bytes is =
    sym (fill_by_all (byte_of (bit_of bytes)) bytes n 0 is.counted (λ k below. sym (byte_of-bits bytes k (is.small k))))
