-- Lower-case digits and the bytes that they spell.
use Rattle.std.proofs.Common.{◌≡◌, ℕ, zero, suc, ◌+◌, ◌*◌, ◌/◌, ◌%◌, ◌<◌, Bool, true, false, cond, not, ◌&&◌, ◌||◌, eqb, List, [], ◌∷◌, length, slice_index, Option, Some, None, Result, Ok, Err, refl, sym, ap, ◌∙◌, inl, inr, arith}
use Rattle.std.specs.List.{list_all}
use Rattle.std.proofs.lemmas.Bool.{and_parts, and_from, cases_lt, eqb-true, cond-true}
use Rattle.hex.specs.Hex.{IsBytes, ◌>>=◌, decode_pairs, decode_sized, digit_or_error, encode_lower, encode_with, hex_digit_value, lower_digits, pair_value, value_at}
use Rattle.hex.specs.declared.error.FromHexError.{FromHexError}
use Rattle.hex.proofs.HexLemmas.{decode_of-ok, decode_sized-encode_lower, decode_sized-ok, decode_sized-twice, decode_of-even}
use Rattle.ddr_text.specs.declared.lines.LineFault.{LineFault}
use Rattle.ddr_text.specs.declared.lines.LineFault.TheVariants.{Hex}
use Rattle.ddr_text.specs.Grammar.{or_hex}
use Rattle.ddr_text.specs.ReportGrammar.{is_lower_digit, lower_bytes_of}
use Rattle.ddr_text.proofs.Steps.{or-hex-Ok}

-- a test of each number below a bound, which computes
abbrev pub each-below : (ℕ → Bool) → ℕ → Bool
each-below test zero = true
each-below test (suc n) = test n && each-below test n

pub each-at : (test : ℕ → Bool) (n k : ℕ) → each-below test n ≡ true → k < n → test k ≡ true
each-at test zero k h l = absurd (omega arith)
each-at test (suc n) k h l =
    let parts = and_parts (test n) (each-below test n) h in
    elim (cases_lt k n) [
      | inl below ↦ each-at test n k parts.1 below
      | inr top ↦
          let e : k ≡ n = omega arith in
          rw e parts.0
    ]

-- each digit that is written is a lower-case one
written-lower : (d : ℕ) → d < 16 → is_lower_digit (slice_index lower_digits d) ≡ true
written-lower d h = each-at (λ k. is_lower_digit (slice_index lower_digits k)) 16 d refl h

pub all-lower : (bytes : List ℕ) → IsBytes bytes → list_all is_lower_digit (encode_lower bytes) ≡ true
unfolding encode_with
all-lower [] h = refl
all-lower (b ∷ rest) h =
    let fits : b < 256 = h 0 in
    and_from _ _ (written-lower (b / 16) (omega arith)) (and_from _ _ (written-lower (b % 16) (omega arith)) (all-lower rest (λ k. h (suc k))))

abbrev is_digit_of : Option ℕ → ℕ → Bool
is_digit_of None c = false
is_digit_of (Some v) c = eqb (slice_index lower_digits v) c

-- a lower-case digit is the one that is written for its value
abbrev reads-own : ℕ → Bool
reads-own c = not (is_lower_digit c) || is_digit_of (hex_digit_value c) c

lower-below : (c : ℕ) → is_lower_digit c ≡ true → c < 103
lower-below c h = grind arith

own-or : (a b : Bool) → (not a || b) ≡ true → a ≡ true → b ≡ true
own-or true b h e = h
own-or false b h e = cc e

own-from : (o : Option ℕ) (c v : ℕ) → is_digit_of o c ≡ true → o ≡ Some v → slice_index lower_digits v ≡ c
own-from None c v h e = cc h
own-from (Some w) c v h e = let same : w ≡ v = cc in ap (slice_index lower_digits) (sym same) ∙ eqb-true _ _ h

lower-own : (c v : ℕ) → is_lower_digit c ≡ true → hex_digit_value c ≡ Some v → slice_index lower_digits v ≡ c
lower-own c v h e = own-from (hex_digit_value c) c v (own-or (is_lower_digit c) _ (each-at reads-own 103 c refl (lower-below c h)) h) e

bind-ok : {A B : Type 0} (r : Result A FromHexError) (f : A → Result B FromHexError) (y : B) → (r >>= f) ≡ Ok y → (x : A) × (r ≡ Ok x) × (f x ≡ Ok y)
bind-ok (Ok x) f y h = (x, refl, h)
bind-ok (Err e) f y h = cc h

digit-read : (c i v : ℕ) (o : Option ℕ) → digit_or_error c i o ≡ Ok v → o ≡ Some v
digit-read c i v (Some w) h = cc h
digit-read c i v None h = cc h

same-ok : {A : Type 0} (a b : A) → ◌≡◌ {A = Result A FromHexError} (Ok a) (Ok b) → a ≡ b
same-ok a b h = cc h

value-small : (c v : ℕ) → hex_digit_value c ≡ Some v → v < 16
value-small c v h = grind arith

-- lower-case digits are those that are written for the bytes that they spell
lower-pairs : (i : ℕ) (field bytes : List ℕ) → list_all is_lower_digit field ≡ true → decode_pairs i field ≡ Ok bytes → field ≡ encode_lower bytes
unfolding decode_pairs encode_with
lower-pairs i [] bytes l h = ap encode_lower (same-ok [] bytes h)
lower-pairs i (a ∷ []) bytes l h = cc h
lower-pairs i (a ∷ b ∷ rest) bytes l h =
    let pair = bind-ok (pair_value a b i) _ bytes h in
    let high = bind-ok (value_at a i) _ pair.0 pair.1 in
    let low = bind-ok (value_at b (i + 1)) _ pair.0 high.2 in
    let more = bind-ok (decode_pairs (i + 2) rest) _ bytes pair.2 in
    let first = and_parts (is_lower_digit a) _ l in
    let second = and_parts (is_lower_digit b) _ first.1 in
    let va = digit-read a i high.0 (hex_digit_value a) high.1 in
    let vb = digit-read b (i + 1) low.0 (hex_digit_value b) low.1 in
    let whole : high.0 * 16 + low.0 ≡ pair.0 = same-ok _ _ low.2 in
    let sa : high.0 < 16 = value-small a high.0 va in
    let sb : low.0 < 16 = value-small b low.0 vb in
    let ea : pair.0 / 16 ≡ high.0 = omega arith in
    let eb : pair.0 % 16 ≡ low.0 = omega arith in
    let da : slice_index lower_digits (pair.0 / 16) ≡ a = ap (slice_index lower_digits) ea ∙ lower-own a high.0 first.0 va in
    let db : slice_index lower_digits (pair.0 % 16) ≡ b = ap (slice_index lower_digits) eb ∙ lower-own b low.0 second.0 vb in
    let ih = lower-pairs (i + 2) rest more.0 second.1 more.1 in
    ap (λ x. x ∷ b ∷ rest) (sym da) ∙ ap (λ x. slice_index lower_digits (pair.0 / 16) ∷ x ∷ rest) (sym db)
    ∙ ap (λ l. slice_index lower_digits (pair.0 / 16) ∷ slice_index lower_digits (pair.0 % 16) ∷ l) ih
    ∙ ap encode_lower (same-ok _ _ more.2)

pub record Lower (count : ℕ) (field bytes : List ℕ) : Type 0 where
  pub digits : field ≡ encode_lower bytes
  pub long : length bytes ≡ count
  pub in_range : IsBytes bytes

lower-sized : (count : ℕ) (field bytes : List ℕ) → list_all is_lower_digit field ≡ true → decode_sized field count ≡ Ok bytes → Lower count field bytes
lower-sized n field bytes l h =
    let long = decode_sized-ok field n bytes h in
    let whole = sym (decode_sized-twice field n long) ∙ h in
    let parts = decode_of-ok field bytes whole in
    let twice : length field ≡ 2 * length bytes = parts.2 in
    record {
      digits = lower-pairs 0 field bytes l (sym (decode_of-even field parts.0) ∙ whole);
      long = omega arith;
      in_range = parts.3;
    }

chosen : (b : Bool) (r : Result (List ℕ) LineFault) (bytes : List ℕ) → cond b r (Err Hex) ≡ Ok bytes → (b ≡ true) × (r ≡ Ok bytes)
chosen true r bytes h = (refl, h)
chosen false r bytes h = cc h

-- what is read is what is written for it
pub lower-Ok : (count : ℕ) (field bytes : List ℕ) → lower_bytes_of count field ≡ Ok bytes → Lower count field bytes
unfolding lower_bytes_of
lower-Ok n field bytes h =
    let found = chosen (list_all is_lower_digit field) (or_hex (decode_sized field n)) bytes h in
    lower-sized n field bytes found.0 (or-hex-Ok (decode_sized field n) bytes found.1)

-- what is written is read
pub lower-in : (count : ℕ) (bytes : List ℕ) → length bytes ≡ count → IsBytes bytes → lower_bytes_of count (encode_lower bytes) ≡ Ok bytes
unfolding lower_bytes_of
lower-in n bytes l h =
    cond-true (list_all is_lower_digit (encode_lower bytes)) _ _ (all-lower bytes h) ∙ ap or_hex (decode_sized-encode_lower bytes n l h)
