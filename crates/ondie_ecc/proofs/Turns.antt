-- A turned bit: what it changes, and what it does to the syndrome.
use Rattle.std.proofs.Common.{◌≡◌, ◌≢◌, ℕ, zero, suc, ◌+◌, ◌*◌, ◌/◌, ◌%◌, ◌^◌, ◌<◌, ◌⊎◌, inl, inr, ◌∙◌, List, length, get_or, set, slice_index, refl, sym, ap, subst, arith}
use Rattle.std.specs.Int.Bits.{bit_xor, xor_assoc, xor_self, xor_zero_r}
use Rattle.std.proofs.lemmas.Bool.{cases_eq}
use Rattle.std.proofs.lemmas.List.{get_or-set_same, get_or-set_other, set-get_or, set-set}
use Rattle.std.proofs.lemmas.Nat.{xor_comm}
use Rattle.std.proofs.lemmas.Nat.Bits.{bit_at_xor, bit_at-pow_same, bit_at-pow_other, bit_at-lt}
use Rattle.ondie_ecc.specs.Bits.{bit_of, turned}
use Rattle.ondie_ecc.specs.Codeword.{syndrome_below, syndrome_of}

pub bit_of-turned_same : (bytes : List ℕ) (k : ℕ) → k / 8 < length bytes → bit_of (turned bytes k) k ≡ (bit_of bytes k + 1) % 2
unfolding turned
bit_of-turned_same bytes k within =
    let b : ℕ = get_or bytes (k / 8) 0 in
    let byte : get_or (set bytes (k / 8) (bit_xor b (2 ^ (k % 8)))) (k / 8) 0 ≡ bit_xor b (2 ^ (k % 8)) =
    get_or-set_same bytes (k / 8) (bit_xor b (2 ^ (k % 8))) 0 within in
    let one : 2 ^ (k % 8) / 2 ^ (k % 8) % 2 ≡ 1 = bit_at-pow_same (k % 8) in
    ap (λ n. n / 2 ^ (k % 8) % 2) byte ∙ bit_at_xor b (2 ^ (k % 8)) (k % 8) ∙ ap (λ n. (b / 2 ^ (k % 8) % 2 + n) % 2) one

other_bit : (b k i : ℕ) → i ≢ k → bit_xor b (2 ^ k) / 2 ^ i % 2 ≡ b / 2 ^ i % 2
other_bit b k i apart =
    let none : 2 ^ k / 2 ^ i % 2 ≡ 0 = bit_at-pow_other k i apart in
    let small : b / 2 ^ i % 2 < 2 = bit_at-lt b i in
    let x : ℕ = b / 2 ^ i % 2 in
    let stays : (x + 0) % 2 ≡ x = omega arith in
    bit_at_xor b (2 ^ k) i ∙ ap (λ n. (b / 2 ^ i % 2 + n) % 2) none ∙ stays

pub bit_of-turned_other : (bytes : List ℕ) (k j : ℕ) → k / 8 < length bytes → j ≢ k → bit_of (turned bytes k) j ≡ bit_of bytes j
unfolding turned
bit_of-turned_other bytes k j within apart =
    elim (cases_eq (j / 8) (k / 8)) [
      | inl same ↦
          let b : ℕ = get_or bytes (k / 8) 0 in
          let bits : j % 8 ≢ k % 8 = λ e. apart (omega arith) in
          let byte : get_or (set bytes (k / 8) (bit_xor b (2 ^ (k % 8)))) (j / 8) 0 ≡ bit_xor b (2 ^ (k % 8)) =
          ap (λ i. get_or (set bytes (k / 8) (bit_xor b (2 ^ (k % 8)))) i 0) same
          ∙ get_or-set_same bytes (k / 8) (bit_xor b (2 ^ (k % 8))) 0 within in
          ap (λ n. n / 2 ^ (j % 8) % 2) byte ∙ other_bit b (k % 8) (j % 8) bits
          ∙ ap (λ i. get_or bytes i 0 / 2 ^ (j % 8) % 2) (sym same)
      | inr other ↦
          ap (λ n. n / 2 ^ (j % 8) % 2) (get_or-set_other bytes (k / 8) (j / 8) (bit_xor (get_or bytes (k / 8) 0) (2 ^ (k % 8))) 0 other)
    ]

-- turned twice, a bit is as it was
pub turned-turned : (bytes : List ℕ) (k : ℕ) → k / 8 < length bytes → turned (turned bytes k) k ≡ bytes
unfolding turned
turned-turned bytes k within =
    let i : ℕ = k / 8 in
    let p : ℕ = 2 ^ (k % 8) in
    let b : ℕ = get_or bytes i 0 in
    let byte : get_or (set bytes i (bit_xor b p)) i 0 ≡ bit_xor b p = get_or-set_same bytes i (bit_xor b p) 0 within in
    let back : bit_xor (bit_xor b p) p ≡ b = xor_assoc b p p ∙ ap (bit_xor b) (xor_self p) ∙ xor_zero_r b in
    ap (λ n. set (set bytes i (bit_xor b p)) i (bit_xor n p)) byte
    ∙ ap (set (set bytes i (bit_xor b p)) i) back
    ∙ set-set bytes i (bit_xor b p) b
    ∙ set-get_or bytes i 0

-- the same bits have the same syndrome
pub syndrome-same : (v w : List ℕ) (n : ℕ) → ((k : ℕ) → k < n → bit_of v k ≡ bit_of w k) → syndrome_below v n ≡ syndrome_below w n
unfolding syndrome_below
syndrome-same v w zero same = refl
syndrome-same v w (suc n) same =
    let here : bit_of v n ≡ bit_of w n = same n (omega arith) in
    let below : syndrome_below v n ≡ syndrome_below w n = syndrome-same v w n (λ k less. same k (omega arith)) in
    rw (below, here)

flipped : (s b p : ℕ) → b < 2 → bit_xor s ((b + 1) % 2 * p) ≡ bit_xor (bit_xor s (b * p)) p
flipped s zero p bit =
    let one : (0 + 1) % 2 * p ≡ p = omega arith in
    let none : 0 * p ≡ 0 = omega arith in
    rw (one, none, xor_zero_r s)
flipped s (suc zero) p bit =
    let none : (1 + 1) % 2 * p ≡ 0 = omega arith in
    let one : 1 * p ≡ p = omega arith in
    rw (none, one, xor_assoc s p p, xor_self p)
flipped s (suc (suc b)) p bit = absurd (omega arith)

swapped : (s t p : ℕ) → bit_xor (bit_xor s p) t ≡ bit_xor (bit_xor s t) p
swapped s t p = xor_assoc s p t ∙ ap (bit_xor s) (xor_comm p t) ∙ sym (xor_assoc s t p)

last_or_below : (k n : ℕ) → k < suc n → (k ≡ n) ⊎ (k < n)
last_or_below k n h = grind arith

-- a turned bit adds its position
pub syndrome_below-turned : (bytes : List ℕ) (k n : ℕ) → k / 8 < length bytes → k < n
    → syndrome_below (turned bytes k) n ≡ bit_xor (syndrome_below bytes n) (suc k)
unfolding syndrome_below
syndrome_below-turned bytes k zero within less = absurd (omega arith)
syndrome_below-turned bytes k (suc n) within less =
    elim (last_or_below k n less) [
      | inl last ↦
          let below : syndrome_below (turned bytes k) n ≡ syndrome_below bytes n =
          syndrome-same (turned bytes k) bytes n (λ j near. bit_of-turned_other bytes k j within (λ e. omega arith)) in
          let here : bit_of (turned bytes k) n ≡ (bit_of bytes n + 1) % 2 =
          subst (λ (m : ℕ). bit_of (turned bytes k) m ≡ (bit_of bytes m + 1) % 2) last (bit_of-turned_same bytes k within) in
          let whole : bit_xor (syndrome_below (turned bytes k) n) (bit_of (turned bytes k) n * suc n)
          ≡ bit_xor (bit_xor (syndrome_below bytes n) (bit_of bytes n * suc n)) (suc n) =
          rw (below, here) (flipped (syndrome_below bytes n) (bit_of bytes n) (suc n) (bit_at-lt (slice_index bytes (n / 8)) (n % 8))) in
          whole ∙ ap (λ (m : ℕ). bit_xor (bit_xor (syndrome_below bytes n) (bit_of bytes n * suc n)) (suc m)) (sym last)
      | inr before ↦
          let below : syndrome_below (turned bytes k) n ≡ bit_xor (syndrome_below bytes n) (suc k) =
          syndrome_below-turned bytes k n within before in
          let here : bit_of (turned bytes k) n ≡ bit_of bytes n = bit_of-turned_other bytes k n within (λ e. omega arith) in
          rw (below, here) (swapped (syndrome_below bytes n) (bit_of bytes n * suc n) (suc k))
    ]

pub syndrome_of-turned : (bytes : List ℕ) (k : ℕ) → length bytes ≡ 17 → k < 136
    → syndrome_of (turned bytes k) ≡ bit_xor (syndrome_of bytes) (suc k)
unfolding syndrome_of
syndrome_of-turned bytes k counted less = syndrome_below-turned bytes k 136 (omega arith) less
