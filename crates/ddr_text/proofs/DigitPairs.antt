-- Bytes as pairs of digits, as a loop writes them.
use Rattle.std.proofs.Common.{◌≡◌, ◌≢◌, ◌∙◌, ◌⊎◌, inl, inr, ℕ, suc, ◌+◌, ◌*◌, ◌/◌, ◌%◌, ◌<◌, ◌≤◌, List, [], ◌∷◌, length, slice_index, set, refl, sym, ap, subst, arith}
use Rattle.std.proofs.lemmas.Bool.{cases_eq}
use Rattle.std.proofs.lemmas.List.{get_or-set_same, get_or-set_other, length-set}
use Rattle.hex.specs.Hex.{encode_with, encode_lower, lower_digits}

abbrev pub AreDigits : List ℕ → List ℕ → ℕ → Type 0
AreDigits bytes out n = (j : ℕ) → j < n → (slice_index out (2 * j) ≡ slice_index lower_digits (slice_index bytes j / 16)) × (slice_index out (2 * j + 1) ≡ slice_index lower_digits (slice_index bytes j % 16))

pub spelled : (t bytes out : List ℕ) → length out ≡ 2 * length bytes
    → ((j : ℕ) → j < length bytes → (slice_index out (2 * j) ≡ slice_index t (slice_index bytes j / 16)) × (slice_index out (2 * j + 1) ≡ slice_index t (slice_index bytes j % 16)))
    → out ≡ encode_with t bytes
unfolding encode_with
spelled t [] [] e d = refl
spelled t [] (x ∷ out) e d = absurd (omega (arith, e))
spelled t (b ∷ bytes) [] e d = absurd (omega (arith, e))
spelled t (b ∷ bytes) (x ∷ []) e d = absurd (odd (length bytes) e)
  where
    odd : (n : ℕ) → 1 ≡ 2 * suc n → ⊥
    odd n e = omega (arith, e)
spelled t (b ∷ bytes) (x ∷ y ∷ out) e d =
    ap (λ n. n ∷ y ∷ out) (d 0 (omega arith)).0
    ∙ ap (λ n. slice_index t (b / 16) ∷ n ∷ out) (d 0 (omega arith)).1
    ∙ ap (λ ns. slice_index t (b / 16) ∷ slice_index t (b % 16) ∷ ns) (spelled t bytes out (omega (arith, e)) (λ j low. next j (d (suc j) (omega (arith, low)))))
  where
    even_is : (j : ℕ) → 2 * suc j ≡ suc (suc (2 * j))
    even_is j = omega arith

    odd_is : (j : ℕ) → 2 * suc j + 1 ≡ suc (suc (2 * j + 1))
    odd_is j = omega arith

    next : (j : ℕ) → (slice_index (x ∷ y ∷ out) (2 * suc j) ≡ slice_index t (slice_index bytes j / 16)) × (slice_index (x ∷ y ∷ out) (2 * suc j + 1) ≡ slice_index t (slice_index bytes j % 16))
        → (slice_index out (2 * j) ≡ slice_index t (slice_index bytes j / 16)) × (slice_index out (2 * j + 1) ≡ slice_index t (slice_index bytes j % 16))
    next j h = (ap (λ n. slice_index (x ∷ y ∷ out) n) (sym (even_is j)) ∙ h.0, ap (λ n. slice_index (x ∷ y ∷ out) n) (sym (odd_is j)) ∙ h.1)

pub digits_put : (bytes out : List ℕ) (k high low : ℕ) → length out ≡ 128 → k < 64 → AreDigits bytes out k
    → high ≡ slice_index lower_digits (slice_index bytes k / 16) → low ≡ slice_index lower_digits (slice_index bytes k % 16)
    → AreDigits bytes (set (set out (2 * k) high) (2 * k + 1) low) (k + 1)
digits_put bytes out k high low e small before h l = λ j near. go j near (cases_eq j k)
  where
    below : (j k : ℕ) → j < k + 1 → j ≢ k → j < k
    below j k h n = grind arith

    apart_1 : (j k : ℕ) → 2 * j ≢ 2 * k + 1
    apart_1 j k e = omega (arith, e)

    apart_2 : (j k : ℕ) → j < k → 2 * j ≢ 2 * k
    apart_2 j k low e = omega (arith, low, e)

    apart_3 : (j k : ℕ) → j < k → 2 * j + 1 ≢ 2 * k + 1
    apart_3 j k low e = omega (arith, low, e)

    apart_4 : (j k : ℕ) → 2 * j + 1 ≢ 2 * k
    apart_4 j k e = omega (arith, e)

    go : (j : ℕ) → j < k + 1 → (j ≡ k) ⊎ (j ≢ k)
        → (slice_index (set (set out (2 * k) high) (2 * k + 1) low) (2 * j) ≡ slice_index lower_digits (slice_index bytes j / 16)) × (slice_index (set (set out (2 * k) high) (2 * k + 1) low) (2 * j + 1) ≡ slice_index lower_digits (slice_index bytes j % 16))
    go j near (inl is) =
        subst (λ i. (slice_index (set (set out (2 * k) high) (2 * k + 1) low) (2 * i) ≡ slice_index lower_digits (slice_index bytes i / 16)) × (slice_index (set (set out (2 * k) high) (2 * k + 1) low) (2 * i + 1) ≡ slice_index lower_digits (slice_index bytes i % 16))) (sym is) (
          get_or-set_other (set out (2 * k) high) (2 * k + 1) (2 * k) low 0 (apart_1 k k) ∙ get_or-set_same out (2 * k) high 0 (omega (arith, e, small)) ∙ h,
          get_or-set_same (set out (2 * k) high) (2 * k + 1) low 0 (let m = length-set out (2 * k) high in omega (arith, e, small, m)) ∙ l,
        )
    go j near (inr other) =
        let b = below j k near other in (
          get_or-set_other (set out (2 * k) high) (2 * k + 1) (2 * j) low 0 (apart_1 j k) ∙ get_or-set_other out (2 * k) (2 * j) high 0 (apart_2 j k b) ∙ (before j b).0,
          get_or-set_other (set out (2 * k) high) (2 * k + 1) (2 * j + 1) low 0 (apart_3 j k b) ∙ get_or-set_other out (2 * k) (2 * j + 1) high 0 (apart_4 j k) ∙ (before j b).1,
        )

pub spelled_all : (bytes out : List ℕ) (k : ℕ) → length bytes ≡ 64 → length out ≡ 128 → 64 ≤ k → AreDigits bytes out k → out ≡ encode_lower bytes
spelled_all bytes out k e f g d = spelled lower_digits bytes out (omega (arith, e, f)) (λ j low. d j (omega (arith, e, g, low)))
