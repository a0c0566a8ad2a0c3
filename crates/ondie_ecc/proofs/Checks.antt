-- A word that is laid out has its data bits, and its check bits add to the syndrome.
use Rattle.std.proofs.Common.{◌≡◌, ℕ, zero, suc, ◌*◌, ◌/◌, ◌%◌, ◌^◌, ◌<◌, ◌≤◌, ◌∙◌, ◌==◌, ◌&&◌, Bool, true, false, not, nat_lt, if◌then◌else◌, List, length, slice_index, refl, sym, ap, arith}
use Rattle.std.specs.Int.Bits.{bit_xor, xor_assoc, xor_self, xor_zero_r}
use Rattle.std.proofs.Math.Nat.{zero-div}
use Rattle.std.proofs.lemmas.Bool.{eqb-true, ltb-true}
use Rattle.std.proofs.lemmas.Nat.{xor_comm, xor_lt}
use Rattle.ondie_ecc.specs.Bits.{bit_of, packed, IsBytes}
use Rattle.ondie_ecc.specs.Codeword.{is_check, data_bits_below, data_of, syndrome_below, syndrome_of, laid, codeword_of}
use Rattle.ondie_ecc.proofs.Below.{below, at_below, and_left, and_right}
use Rattle.ondie_ecc.proofs.Packed.{bit_of-packed, packed-same, packed-bits}

abbrev laid_bit : List ℕ → ℕ → ℕ → ℕ
laid_bit bytes s k = if is_check k then s / suc k % 2 else bit_of bytes (length (data_bits_below k))

one_of : (b : Bool) (x y : ℕ) → x < 2 → y < 2 → (if b then x else y) < 2
one_of true x y hx hy = hx
one_of false x y hx hy = hy

bit_small : (n : ℕ) → n % 2 < 2
bit_small n = omega arith

laid_bit-small : (bytes : List ℕ) (s k : ℕ) → laid_bit bytes s k < 2
laid_bit-small bytes s k =
    one_of (is_check k) (s / suc k % 2) (bit_of bytes (length (data_bits_below k))) (bit_small (s / suc k)) (bit_small _)

pub bit_of-laid : (bytes : List ℕ) (s k : ℕ) → k < 136 → bit_of (laid bytes s) k ≡ laid_bit bytes s k
unfolding laid
bit_of-laid bytes s k near = bit_of-packed 17 (laid_bit bytes s) (laid_bit-small bytes s) k near

-- the data bits, each at its place
abbrev place : ℕ → ℕ
place j = slice_index (data_bits_below 136) j

abbrev stands : ℕ → Bool
stands j = not (is_check (place j)) && ((length (data_bits_below (place j)) == j) && nat_lt (place j) 136)

all_stand : below 128 stands ≡ true
unfolding is_check data_bits_below
all_stand = refl

not_true : (b : Bool) → not b ≡ true → b ≡ false
not_true true h = sym h
not_true false h = refl

data_bit : (bytes : List ℕ) (s j : ℕ) → j < 128 → bit_of (laid bytes s) (place j) ≡ bit_of bytes j
data_bit bytes s j near =
    let all : stands j ≡ true = at_below 128 stands all_stand j near in
    let free : is_check (place j) ≡ false = not_true _ (and_left (not (is_check (place j))) ((length (data_bits_below (place j)) == j) && nat_lt (place j) 136) all) in
    let rest = and_right (not (is_check (place j))) ((length (data_bits_below (place j)) == j) && nat_lt (place j) 136) all in
    let number : length (data_bits_below (place j)) ≡ j =
    eqb-true _ _ (and_left (length (data_bits_below (place j)) == j) (nat_lt (place j) 136) rest) in
    let inside : place j < 136 =
    ltb-true _ _ (and_right (length (data_bits_below (place j)) == j) (nat_lt (place j) 136) rest) in
    bit_of-laid bytes s (place j) inside
    ∙ ap (λ (b : Bool). if b then s / suc (place j) % 2 else bit_of bytes (length (data_bits_below (place j)))) free
    ∙ ap (bit_of bytes) number

pub data_of-laid : (bytes : List ℕ) (s : ℕ) → IsBytes 16 bytes → data_of (laid bytes s) ≡ bytes
unfolding data_of
data_of-laid bytes s is =
    packed-same 16 (λ j. bit_of (laid bytes s) (place j)) (bit_of bytes) (λ j near. data_bit bytes s j near)
    ∙ packed-bits 16 bytes is

-- what the check bits below bit k add
unfoldable checks_below : ℕ → ℕ → ℕ
checks_below s zero = 0
checks_below s (suc k) = bit_xor (checks_below s k) (if is_check k then s / suc k % 2 * suc k else 0)

all_checks : below 256 (λ s. checks_below s 136 == s) ≡ true
unfolding checks_below is_check
all_checks = refl

checks-whole : (s : ℕ) → s < 256 → checks_below s 136 ≡ s
checks-whole s small = eqb-true _ _ (at_below 256 (λ s. checks_below s 136 == s) all_checks s small)

more : (t : Bool) (a c x y p : ℕ)
    → bit_xor (bit_xor a c) ((if t then x else y) * p)
    ≡ bit_xor (bit_xor a ((if t then 0 else y) * p)) (bit_xor c (if t then x * p else 0))
more true a c x y p =
    let none : 0 * p ≡ 0 = omega arith in
    rw (none, xor_zero_r a) (xor_assoc a c (x * p))
more false a c x y p =
    rw (xor_zero_r c) (xor_assoc a c (y * p) ∙ ap (bit_xor a) (xor_comm c (y * p)) ∙ sym (xor_assoc a (y * p) c))

none_of : (bytes : List ℕ) (k : ℕ) → laid_bit bytes 0 k ≡ (if is_check k then 0 else bit_of bytes (length (data_bits_below k)))
none_of bytes k =
    let none : 0 / suc k % 2 ≡ 0 = ap (λ n. n % 2) (zero-div (suc k)) in
    ap (λ (n : ℕ). if is_check k then n else bit_of bytes (length (data_bits_below k))) none

syndrome_below-laid : (bytes : List ℕ) (s n : ℕ) → n ≤ 136
    → syndrome_below (laid bytes s) n ≡ bit_xor (syndrome_below (laid bytes 0) n) (checks_below s n)
unfolding syndrome_below checks_below
syndrome_below-laid bytes s zero near = refl
syndrome_below-laid bytes s (suc n) near =
    let before : syndrome_below (laid bytes s) n ≡ bit_xor (syndrome_below (laid bytes 0) n) (checks_below s n) =
    syndrome_below-laid bytes s n (omega arith) in
    let here : bit_of (laid bytes s) n ≡ laid_bit bytes s n = bit_of-laid bytes s n (omega arith) in
    let base : bit_of (laid bytes 0) n ≡ (if is_check n then 0 else bit_of bytes (length (data_bits_below n))) =
    bit_of-laid bytes 0 n (omega arith) ∙ none_of bytes n in
    rw (before, here, base)
    (more (is_check n) (syndrome_below (laid bytes 0) n) (checks_below s n) (s / suc n % 2) (bit_of bytes (length (data_bits_below n))) (suc n))

term_small : (b k : ℕ) → b < 2 → k < 255 → b * suc k < 2 ^ 8
term_small zero k bit near = omega arith
term_small (suc zero) k bit near = omega arith
term_small (suc (suc b)) k bit near = absurd (omega arith)

syndrome_below-small : (word : List ℕ) (n : ℕ) → n < 256 → syndrome_below word n < 2 ^ 8
unfolding syndrome_below
syndrome_below-small word zero near = omega arith
syndrome_below-small word (suc n) near =
    xor_lt 8 (syndrome_below word n) (bit_of word n * suc n) (syndrome_below-small word n (omega arith))
    (term_small (bit_of word n) n (bit_small _) (omega arith))

pub syndrome_of-small : (word : List ℕ) → syndrome_of word < 256
unfolding syndrome_of
syndrome_of-small word = syndrome_below-small word 136 (omega arith)

syndrome_of-laid : (bytes : List ℕ) (s : ℕ) → s < 256 → syndrome_of (laid bytes s) ≡ bit_xor (syndrome_of (laid bytes 0)) s
unfolding syndrome_of
syndrome_of-laid bytes s small =
    syndrome_below-laid bytes s 136 (omega arith) ∙ ap (bit_xor (syndrome_below (laid bytes 0) 136)) (checks-whole s small)

pub syndrome_of-codeword : (bytes : List ℕ) → syndrome_of (codeword_of bytes) ≡ 0
unfolding codeword_of
syndrome_of-codeword bytes =
    syndrome_of-laid bytes (syndrome_of (laid bytes 0)) (syndrome_of-small (laid bytes 0)) ∙ xor_self (syndrome_of (laid bytes 0))

pub data_of-codeword : (bytes : List ℕ) → IsBytes 16 bytes → data_of (codeword_of bytes) ≡ bytes
unfolding codeword_of
data_of-codeword bytes is = data_of-laid bytes (syndrome_of (laid bytes 0)) is

pub length-laid : (bytes : List ℕ) (s : ℕ) → length (laid bytes s) ≡ 17
unfolding laid packed
length-laid bytes s = refl

pub length-codeword : (bytes : List ℕ) → length (codeword_of bytes) ≡ 17
unfolding codeword_of
length-codeword bytes = length-laid bytes (syndrome_of (laid bytes 0))
