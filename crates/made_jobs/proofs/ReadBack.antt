-- A drawn line is read as the request that was drawn.
use Rattle.std.proofs.Common.{◌≡◌, ◌≢◌, ℕ, zero, suc, ◌*◌, ◌/◌, ◌%◌, ◌^◌, ◌<◌, ◌≤◌, Bool, true, false, cond, eqb, ltb, List, [], ◌∷◌, ◌++◌, length, get_or, refl, ap, arith, length-append}
use Rattle.std.specs.List.{All}
use Rattle.std.specs.Prelude.{codes}
use Rattle.std.specs.Fmt.{decimal}
use Rattle.std.specs.Int.{IsInRange, w32, to_le_bytes}
use Rattle.std.specs.Str.Parse.{digits_value}
use Rattle.std.proofs.lemmas.List.Elements.{All-append, All-cons, All-nil, All-from_get_or}
use Rattle.std.proofs.lemmas.List.{take_all}
use Rattle.std.proofs.lemmas.Str.Parse.{IsNumeralModel, numerals_by_value, tells_by_index}
use Rattle.std.proofs.lemmas.Fmt.{digits_decimal, length-decimal-le}
use Rattle.hex.specs.Hex.{IsBytes, encode_lower, is_hex_digit, lower_digits}
use Rattle.hex.proofs.HexLemmas.{IsOk-decode_sized, decode_sized-encode_lower, length-encode_with}
use Rattle.rand_core.specs.Steps.{word_bytes, fill_via_u32}
use Rattle.rand_pcg.specs.Lcg.{Lcg}
use Rattle.rand_pcg.specs.Pcg.{pcg32}
use Rattle.ddr_io.specs.Line.{HasNoFeed, line_feed}
use Rattle.ddr_text.specs.Accepted.{TraceGrammar}
use Rattle.ddr_text.specs.declared.lines.TraceLine.{TraceLine}
use Rattle.ddr_text.specs.declared.lines.TraceLine.TheVariants.{Read, Write}
use Rattle.ddr_text.specs.Spelling.{spaced}
use Rattle.made_jobs.specs.Made.{Drawing, line_count, chosen_line, drawn_bytes, request_of, drawn, drawn_trace, made_trace, start}
use Rattle.made_jobs.specs.Replayed.{IsReadBack, IsShortText, made_shape}
use Rattle.made_jobs.specs.TraceText.{trace_text}

-- ---- No line feed

abbrev IsUnfed : ℕ → Type 0
IsUnfed byte = byte ≢ line_feed

unfed-from : (text : List ℕ) → ((i : ℕ) → i < length text → line_feed < get_or text i 0) → HasNoFeed text
unfed-from text h =
    All-from_get_or IsUnfed text 0 (λ i l e. let high : line_feed < get_or text i 0 = h i l in absurd (omega arith))

one-unfed : (byte : ℕ) → IsUnfed byte → HasNoFeed (byte ∷ [])
one-unfed byte h = All-cons IsUnfed byte [] h (All-nil IsUnfed)

own : IsNumeralModel (λ ds. (i : ℕ) → i < length ds → IsInRange 48 57 (get_or ds i 0)) (digits_value 10)
own = numerals_by_value _ tells_by_index

unfed-spaced : (n : ℕ) → n < 2 ^ 64 → HasNoFeed (spaced n)
unfed-spaced n h =
    All-append IsUnfed (codes " ") (decimal n) (one-unfed 32 (λ e. absurd (omega arith)))
    (unfed-from (decimal n) (λ i l. let r = digits_decimal own n h i l in omega arith))

digit-high : (byte : ℕ) → is_hex_digit byte ≡ true → line_feed < byte
digit-high byte h = grind arith

unfed-hex : (bytes : List ℕ) → IsBytes bytes → HasNoFeed (encode_lower bytes)
unfed-hex bytes h =
    let digits = (IsOk-decode_sized (encode_lower bytes) (length bytes)).0 (rw (decode_sized-encode_lower bytes (length bytes) refl h) refl) in
    unfed-from (encode_lower bytes) (λ i l. digit-high (get_or (encode_lower bytes) i 0) (digits.1 i 0 l))

-- ---- The two kinds of lines

number-short : (n : ℕ) → n < line_count → length (decimal n) ≤ 9
number-short n h = length-decimal-le 9 n (omega arith) (omega arith) (omega arith)

short-read : (line : ℕ) → line < line_count → IsShortText (trace_text (Read line))
unfolding trace_text
short-read line h =
    (omega (arith, number-short line h), All-append IsUnfed (codes "R") (spaced line) (one-unfed 82 (λ e. absurd (omega arith))) (unfed-spaced line (omega arith)))

short-write : (line : ℕ) (bytes : List ℕ) → line < line_count → length bytes ≡ 64 → IsBytes bytes → IsShortText (trace_text (Write line bytes))
unfolding trace_text
short-write line bytes h long in_range =
    let digits = length-encode_with lower_digits bytes in
    let parts = length-append (spaced line) (codes " " ++ encode_lower bytes) in (
      omega (arith, number-short line h, digits, parts, long),
      All-append IsUnfed (codes "W") (spaced line ++ (codes " " ++ encode_lower bytes)) (one-unfed 87 (λ e. absurd (omega arith)))
          (All-append IsUnfed (spaced line) (codes " " ++ encode_lower bytes) (unfed-spaced line (omega arith))
          (All-append IsUnfed (codes " ") (encode_lower bytes) (one-unfed 32 (λ e. absurd (omega arith))) (unfed-hex bytes in_range))),
    )

read-back : TraceGrammar → (line : ℕ) → line < line_count → IsReadBack (Read line)
unfolding trace_text
read-back grammar line h = record {
  request = tt;
  text = short-read line h;
  reads = grammar.reads made_shape _ (Read line) (omega arith) h refl;
}

write-back : TraceGrammar → (line : ℕ) (bytes : List ℕ) → line < line_count → length bytes ≡ 64 → IsBytes bytes → IsReadBack (Write line bytes)
unfolding trace_text
write-back grammar line bytes h long in_range = record {
  request = tt;
  text = short-write line bytes h long in_range;
  reads = grammar.reads made_shape _ (Write line bytes) (omega arith) h (encode_lower bytes, refl, decode_sized-encode_lower bytes 64 long in_range);
}

-- ---- The drawn bytes

bytes-append : (xs ys : List ℕ) → IsBytes xs → IsBytes ys → IsBytes (xs ++ ys)
bytes-append [] ys hx hy i = hy i
bytes-append (x ∷ xs) ys hx hy zero = hx zero
bytes-append (x ∷ xs) ys hx hy (suc i) = bytes-append xs ys (λ k. hx (suc k)) hy i

word-in : (w : ℕ) → IsBytes (to_le_bytes w32 w)
word-in w zero = omega arith
word-in w (suc zero) = omega arith
word-in w (suc (suc zero)) = omega arith
word-in w (suc (suc (suc zero))) = omega arith
word-in w (suc (suc (suc (suc i)))) = omega arith

words-long : (n : ℕ) (g : Lcg) → length (word_bytes (to_le_bytes w32) pcg32 n g).0 ≡ 4 * n
unfolding word_bytes
words-long zero g = refl
words-long (suc n) g =
    let before = word_bytes (to_le_bytes w32) pcg32 n g in
    let rest = words-long n g in
    omega (arith, rest, length-append before.0 (to_le_bytes w32 (pcg32 before.1).0))

words-in : (n : ℕ) (g : Lcg) → IsBytes (word_bytes (to_le_bytes w32) pcg32 n g).0
unfolding word_bytes
words-in zero g = λ i. omega arith
words-in (suc n) g =
    let before = word_bytes (to_le_bytes w32) pcg32 n g in
    bytes-append before.0 (to_le_bytes w32 (pcg32 before.1).0) (words-in n g) (word-in (pcg32 before.1).0)

-- the generator's own call fills 64 bytes so
pub fills : (g : Lcg) → fill_via_u32 pcg32 64 g ≡ drawn_bytes g
unfolding drawn_bytes
fills g = ap (λ (xs : List ℕ). (xs, (word_bytes (to_le_bytes w32) pcg32 16 g).1)) (take_all 64 (word_bytes (to_le_bytes w32) pcg32 16 g).0 (omega (arith, words-long 16 g)))

pub bytes-long : (g : Lcg) → length (drawn_bytes g).0 ≡ 64
unfolding drawn_bytes
bytes-long g = words-long 16 g

bytes-in : (g : Lcg) → IsBytes (drawn_bytes g).0
unfolding drawn_bytes
bytes-in g = words-in 16 g

-- ---- The drawn lines

either-below : (b : Bool) (x y : ℕ × Lcg) → x.0 < line_count → y.0 < line_count → (cond b x y).0 < line_count
either-below true x y hx hy = hx
either-below false x y hx hy = hy

pub chosen-in : (w : ℕ) (d : Drawing) → (chosen_line w d).0 < line_count
unfolding chosen_line
chosen-in w d =
    either-below (ltb (w / 4 % 16) 4) _ _ (omega arith) (either-below (ltb (w / 4 % 16) 12) _ _ (omega arith) (omega arith))

either-back : (b : Bool) (x y : TraceLine × Drawing) → IsReadBack x.0 → IsReadBack y.0 → IsReadBack (cond b x y).0
either-back true x y hx hy = hx
either-back false x y hx hy = hy

request-back : TraceGrammar → (w : ℕ) (p : ℕ × Lcg) → p.0 < line_count → IsReadBack (request_of w p).0
unfolding request_of
request-back grammar w (line, words) h =
    either-back (eqb (w % 4) 0) _ _ (write-back grammar line (drawn_bytes words).0 h (bytes-long words) (bytes-in words)) (read-back grammar line h)

drawn-back : TraceGrammar → (d : Drawing) → IsReadBack (drawn d).0
unfolding drawn
drawn-back grammar d = request-back grammar (pcg32 d.words).0 _ (chosen-in (pcg32 d.words).0 _)

trace-back : TraceGrammar → (n : ℕ) (d : Drawing) → All IsReadBack (drawn_trace n d)
unfolding drawn_trace
trace-back grammar zero d = All-nil IsReadBack
trace-back grammar (suc n) d = All-cons IsReadBack (drawn d).0 (drawn_trace n (drawn d).1) (drawn-back grammar d) (trace-back grammar n (drawn d).1)

trace-long : (n : ℕ) (d : Drawing) → length (drawn_trace n d) ≡ n
unfolding drawn_trace
trace-long zero d = refl
trace-long (suc n) d = ap suc (trace-long n (drawn d).1)

pub made-back : TraceGrammar → (seed requests : ℕ) → All IsReadBack (made_trace seed requests)
unfolding made_trace
made-back grammar seed requests = trace-back grammar requests (start seed)

pub made-long : (seed requests : ℕ) → length (made_trace seed requests) ≡ requests
unfolding made_trace
made-long seed requests = trace-long requests (start seed)
