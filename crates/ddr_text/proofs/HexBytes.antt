-- A field that is read as 64 bytes gives 64 numbers below 256.
use Rattle.std.proofs.Common.{◌≡◌, ℕ, zero, suc, ◌+◌, ◌-◌, ◌*◌, ◌/◌, ◌%◌, ◌<◌, ◌≤◌, ◌==◌, ◌&&◌, Bool, true, false, cond, Option, Some, None, List, [], ◌∷◌, length, refl, sym, ap, ◌∙◌, subst, arith}
use Rattle.std.specs.Prelude.{Result, Ok, Err, slice_index, nat_le}
use Rattle.std.specs.List.{list_all}
use Rattle.std.proofs.lemmas.Bool.{leb-true, eqb-true}
use Rattle.std.proofs.Math.Nat.{mul-div_cancel_left}
use Rattle.hex.specs.Hex.{◌>>=◌, hex_digit_value, digit_or_error, pair_value, decode_pairs, decode_sized}
use Rattle.hex.specs.declared.error.FromHexError.{FromHexError}
use Rattle.hex.specs.declared.error.FromHexError.TheVariants.{OddLength, InvalidStringLength}
use Rattle.ondie_ecc.specs.Bits.{IsBytes}
use Rattle.ddr_text.specs.Grammar.{or_hex}
use Rattle.ddr_text.specs.ReportGrammar.{is_lower_digit, lower_bytes_of}
use Rattle.ddr_text.specs.declared.lines.LineFault.TheVariants.{Hex}

-- ---- Digits

and-right : (a b : Bool) → (a && b) ≡ true → b ≡ true
and-right true b e = e
and-right false b e = cc

digit-case : (c v : ℕ) (t1 t2 t3 : Bool) → (nat_le 65 c && nat_le c 70) ≡ t1 → (nat_le 97 c && nat_le c 102) ≡ t2 → (nat_le 48 c && nat_le c 57) ≡ t3
    → cond t1 (Some (c - 55)) (cond t2 (Some (c - 87)) (cond t3 (Some (c - 48)) None)) ≡ Some v → v < 16
digit-case c v true t2 t3 a b d e = let k : c ≤ 70 = leb-true c 70 (and-right (nat_le 65 c) (nat_le c 70) a) in let f : c - 55 ≡ v = cc in omega (arith, k, f)
digit-case c v false true t3 a b d e = let k : c ≤ 102 = leb-true c 102 (and-right (nat_le 97 c) (nat_le c 102) b) in let f : c - 87 ≡ v = cc in omega (arith, k, f)
digit-case c v false false true a b d e = let k : c ≤ 57 = leb-true c 57 (and-right (nat_le 48 c) (nat_le c 57) d) in let f : c - 48 ≡ v = cc in omega (arith, k, f)
digit-case c v false false false a b d e = cc

digit-small : (c v : ℕ) → hex_digit_value c ≡ Some v → v < 16
digit-small c v e = digit-case c v (nat_le 65 c && nat_le c 70) (nat_le 97 c && nat_le c 102) (nat_le 48 c && nat_le c 57) refl refl refl e

-- the byte of two digits' values
abbrev pair_of : ℕ → ℕ → ℕ → Option ℕ → Option ℕ → Result ℕ FromHexError
pair_of high low i a b = digit_or_error high i a >>= (λ h. digit_or_error low (i + 1) b >>= (λ l. Ok (h * 16 + l)))

pair-small : (high low i byte : ℕ) (a b : Option ℕ) → ((v : ℕ) → a ≡ Some v → v < 16) → ((v : ℕ) → b ≡ Some v → v < 16) → pair_of high low i a b ≡ Ok byte → byte < 256
pair-small high low i byte (Some x) (Some y) f g e =
    let same : x * 16 + y ≡ byte = cc in
    omega (arith, f x refl, g y refl, same)
pair-small high low i byte (Some x) None f g e = cc
pair-small high low i byte None b f g e = cc

byte-small : (high low i byte : ℕ) → pair_value high low i ≡ Ok byte → byte < 256
byte-small high low i byte e = pair-small high low i byte (hex_digit_value high) (hex_digit_value low) (digit-small high) (digit-small low) e

-- ---- Bytes

record AreBytes (text bytes : List ℕ) : Type 0 where
  pairs : 2 * length bytes ≡ length text
  small : (i : ℕ) → slice_index bytes i < 256

small-cons : (byte : ℕ) (bytes : List ℕ) → byte < 256 → ((i : ℕ) → slice_index bytes i < 256) → (i : ℕ) → slice_index (byte ∷ bytes) i < 256
small-cons byte bytes h k zero = h
small-cons byte bytes h k (suc i) = k i

more-bytes : (high low : ℕ) (rest bytes : List ℕ) (p : Result ℕ FromHexError) (q : Result (List ℕ) FromHexError) → ((byte : ℕ) → p ≡ Ok byte → byte < 256) → ((bs : List ℕ) → q ≡ Ok bs → AreBytes rest bs)
    → (p >>= (λ byte. q >>= (λ bs. Ok (byte ∷ bs)))) ≡ Ok bytes → AreBytes (high ∷ low ∷ rest) bytes
more-bytes high low rest bytes (Ok byte) (Ok bs) f g e =
    let same : byte ∷ bs ≡ bytes = cc in
    let k = g bs refl in
    subst (AreBytes (high ∷ low ∷ rest)) same (record { pairs = omega (arith, k.pairs); small = small-cons byte bs (f byte refl) k.small })
more-bytes high low rest bytes (Ok byte) (Err fault) f g e = cc
more-bytes high low rest bytes (Err fault) q f g e = cc

pairs-bytes : (i : ℕ) (text bytes : List ℕ) → decode_pairs i text ≡ Ok bytes → AreBytes text bytes
unfolding decode_pairs
pairs-bytes i [] bytes e = let same : [] ≡ bytes = cc in subst (AreBytes []) same (record { pairs = refl; small = λ j. omega arith })
pairs-bytes i (digit ∷ []) bytes e = cc
pairs-bytes i (high ∷ low ∷ rest) bytes e =
    more-bytes high low rest bytes (pair_value high low i) (decode_pairs (i + 2) rest) (λ byte k. byte-small high low i byte k) (λ bs k. pairs-bytes (i + 2) rest bs k) e

sized-case : (s t : Bool) (text bytes : List ℕ) → (length text / 2 == 64) ≡ t → cond s (Err OddLength) (cond t (decode_pairs 0 text) (Err InvalidStringLength)) ≡ Ok bytes → IsBytes 64 bytes
sized-case true t text bytes half e = cc
sized-case false false text bytes half e = cc
sized-case false true text bytes half e =
    let k = pairs-bytes 0 text bytes e in
    let long : length text / 2 ≡ 64 = eqb-true (length text / 2) 64 half in
    let double : length bytes ≡ 2 * length bytes / 2 = sym (mul-div_cancel_left (length bytes) {n = 2} (omega arith)) in
    let same : 2 * length bytes / 2 ≡ length text / 2 = ap (λ n. n / 2) k.pairs in
    record { counted = double ∙ same ∙ long; small = k.small }

pub sized-bytes : (text bytes : List ℕ) → decode_sized text 64 ≡ Ok bytes → IsBytes 64 bytes
sized-bytes text bytes e = sized-case (length text % 2 == 1) (length text / 2 == 64) text bytes refl e

-- ---- Lower case

lower-case : (field bytes : List ℕ) (lower : Bool) (read : Result (List ℕ) FromHexError) → decode_sized field 64 ≡ read → cond lower (or_hex read) (Err Hex) ≡ Ok bytes → IsBytes 64 bytes
lower-case field bytes true (Ok found) e is = let same : found ≡ bytes = cc in sized-bytes field bytes (e ∙ ap Ok same)
lower-case field bytes true (Err fault) e is = cc
lower-case field bytes false read e is = cc

pub lower-bytes : (field bytes : List ℕ) → lower_bytes_of 64 field ≡ Ok bytes → IsBytes 64 bytes
unfolding lower_bytes_of
lower-bytes field bytes e = lower-case field bytes (list_all is_lower_digit field) (decode_sized field 64) refl e
