-- One digit more.
use Rattle.std.proofs.Common.{◌≡◌, ℕ, ◌+◌, ◌-◌, ◌*◌, ◌^◌, ◌<◌, ◌≤◌, Bool, true, false, cond, ◌&&◌, ltb, List, [], ◌∷◌, Some, None, refl, ap, ◌∙◌, arith}
use Rattle.std.proofs.lemmas.Bool.{ltb-false, le-ltb, lt-ltb, and_parts}
use Rattle.std.proofs.lemmas.Option.{cond_some}
use Rattle.std.specs.Char.{digit_value, is_ascii_digit}
use Rattle.std.specs.Str.{all_ascii_digits}
use Rattle.std.specs.Str.Parse.{digits_value_after}
use Rattle.ddr_text.specs.Fields.{value_from, with_digit}

none-test : (b : Bool) (n : ℕ) → cond b (Some n) None ≡ None → b ≡ false
none-test true n h = cc h
none-test false n h = refl

-- a digit's value
digit-is : (digit : ℕ) → is_ascii_digit digit ≡ true → digit_value digit ≡ digit - 48
digit-is digit h = grind arith

-- more digits never make less
after-ge : (value : ℕ) (digits : List ℕ) → value ≤ digits_value_after 10 value digits
after-ge value [] = omega arith
after-ge value (digit ∷ digits) = let more : value * 10 + digit_value digit ≤ digits_value_after 10 (value * 10 + digit_value digit) digits = after-ge (value * 10 + digit_value digit) digits in omega arith

-- a digit is taken up
pub value_more : (value digit : ℕ) (digits : List ℕ) → is_ascii_digit digit ≡ true → value_from value (digit ∷ digits) ≡ value_from (value * 10 + (digit - 48)) digits
value_more value digit digits h =
    ap (λ b. cond (b && all_ascii_digits digits && ltb (digits_value_after 10 (value * 10 + digit_value digit) digits) (2 ^ 64)) (Some (digits_value_after 10 (value * 10 + digit_value digit) digits)) None) h
    ∙ ap (λ d. value_from (value * 10 + d) digits) (digit-is digit h)

-- another byte ends it
pub value_stops : (value digit : ℕ) (digits : List ℕ) → is_ascii_digit digit ≡ false → value_from value (digit ∷ digits) ≡ None
value_stops value digit digits h =
    ap (λ b. cond (b && all_ascii_digits digits && ltb (digits_value_after 10 (value * 10 + digit_value digit) digits) (2 ^ 64)) (Some (digits_value_after 10 (value * 10 + digit_value digit) digits)) None) h

and-false : (b : Bool) (n : ℕ) → cond (b && false) (Some n) None ≡ None
and-false true n = refl
and-false false n = refl

-- too large a value stays so
pub value_large : (value : ℕ) (digits : List ℕ) → 2 ^ 64 ≤ value → value_from value digits ≡ None
value_large value digits h =
    let large : 2 ^ 64 ≤ digits_value_after 10 value digits = omega (arith, after-ge value digits) in
    ap (λ b. cond (all_ascii_digits digits && b) (Some (digits_value_after 10 value digits)) None) (le-ltb _ _ large)
    ∙ and-false (all_ascii_digits digits) (digits_value_after 10 value digits)

digit-cases : (value digit : ℕ) (digits : List ℕ) (b : Bool) → is_ascii_digit digit ≡ b → cond (b && ltb (value * 10 + (digit - 48)) (2 ^ 64)) (Some (value * 10 + (digit - 48))) None ≡ None → value_from value (digit ∷ digits) ≡ None
digit-cases value digit digits false e h = value_stops value digit digits e
digit-cases value digit digits true e h = value_more value digit digits e ∙ value_large (value * 10 + (digit - 48)) digits (ltb-false _ _ (none-test (ltb (value * 10 + (digit - 48)) (2 ^ 64)) _ h))

-- no more digit is taken up, so there is no value
pub value_ends : (value digit : ℕ) (digits : List ℕ) → with_digit value digit ≡ None → value_from value (digit ∷ digits) ≡ None
value_ends value digit digits h = digit-cases value digit digits (is_ascii_digit digit) refl h

-- one more digit is taken up
pub value_goes : (value digit more : ℕ) (digits : List ℕ) → with_digit value digit ≡ Some more → value_from value (digit ∷ digits) ≡ value_from more digits
value_goes value digit more digits h =
    let found = cond_some (is_ascii_digit digit && ltb (value * 10 + (digit - 48)) (2 ^ 64)) _ more h in
    let parts = and_parts (is_ascii_digit digit) _ found.0 in
    value_more value digit digits parts.0 ∙ ap (λ v. value_from v digits) found.1

-- a value below 2^64 with no more digits is the value
pub value_whole : (value : ℕ) → value < 2 ^ 64 → value_from value [] ≡ Some value
value_whole value h = ap (λ b. cond b (Some value) None) (lt-ltb value (2 ^ 64) h)
