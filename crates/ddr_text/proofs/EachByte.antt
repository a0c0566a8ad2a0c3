-- Whether a byte is a digit, and its value, by arithmetic on bytes: tests that compute for each of the 256.
use Rattle.std.proofs.Common.{◌≡◌, ℕ, ◌+◌, ◌%◌, ◌<◌, ◌≤◌, ◌==◌, Bool, true, false, not, ◌||◌, nat_lt, Option, Some, None, refl, ap, arith}
use Rattle.std.specs.Prelude.{bit_or}
use Rattle.std.proofs.lemmas.Bool.{eqb-true}
use Rattle.hex.specs.Hex.{hex_digit_value, is_hex_digit}
use Rattle.ddr_text.proofs.LowerHex.{each-at}

abbrev same : Bool → Bool → Bool
same true other = other
same false other = not other

same-true : (one other : Bool) → same one other ≡ true → one ≡ other
same-true true true h = refl
same-true true false h = absurd cc
same-true false true h = absurd cc
same-true false false h = refl

abbrev digit-test : ℕ → Bool
digit-test c = nat_lt ((c + 208) % 256) 10 || nat_lt ((bit_or c 32 + 159) % 256) 6

pub digit-is : (c : ℕ) → c < 256 → digit-test c ≡ is_hex_digit c
digit-is c h = same-true (digit-test c) (is_hex_digit c) (each-at (λ k. same (digit-test k) (is_hex_digit k)) 256 c refl h)

abbrev has-value : Option ℕ → ℕ → Bool
has-value None value = false
has-value (Some found) value = found == value

some-value : (found : Option ℕ) (value : ℕ) → has-value found value ≡ true → found ≡ Some value
some-value None value h = absurd cc
some-value (Some found) value h = ap Some (eqb-true found value h)

picked : (below digit value : Bool) → (below || (not digit || value)) ≡ true → below ≡ false → digit ≡ true → value ≡ true
picked true digit value h far is = absurd cc
picked false true value h far is = h
picked false false value h far is = absurd cc

abbrev letter-test : ℕ → Bool
letter-test c = nat_lt ((c + 208) % 256) 10 || (not (is_hex_digit c) || has-value (hex_digit_value c) ((bit_or c 32 + 169) % 256))

beyond : (n : ℕ) → 10 ≤ n → nat_lt n 10 ≡ false
beyond n far = grind arith

pub letter-is : (c : ℕ) → c < 256 → 10 ≤ (c + 208) % 256 → is_hex_digit c ≡ true → hex_digit_value c ≡ Some ((bit_or c 32 + 169) % 256)
letter-is c h far digit =
    some-value (hex_digit_value c) ((bit_or c 32 + 169) % 256)
    (picked (nat_lt ((c + 208) % 256) 10) (is_hex_digit c) _ (each-at letter-test 256 c refl h) (beyond ((c + 208) % 256) far) digit)
