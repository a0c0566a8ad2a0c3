-- Words in hexadecimal digits, read and written.
use Rattle.std.proofs.Common.{◌≡◌, ℕ, ◌+◌, ◌*◌, ◌/◌, ◌%◌, ◌<◌, List, [], ◌∷◌, length, Option, Some, None, Ok, option_map, refl, ap, ◌∙◌, arith}
use Rattle.std.specs.Int.{w16, from_be_bytes}
use Rattle.hex.specs.Hex.{IsBytes, encode_lower}
use Rattle.command_words.specs.declared.words.Words.{Words}
use Rattle.ddr_text.specs.ReportGrammar.{lower_bytes_of, optional_word, word_of, words_in}
use Rattle.ddr_text.proofs.Decoded.{Narrow}
use Rattle.ddr_text.proofs.LowerHex.{lower-in, lower-Ok}
use Rattle.ddr_text.proofs.Parts.{two-bytes}
use Rattle.ddr_text.proofs.Steps.{same-Ok, bind-Ok}

-- four digits of a word
abbrev pub digits_of : ℕ → List ℕ
digits_of word = encode_lower (word / 256 ∷ word % 256 ∷ [])

pub word-in : (word : ℕ) → word < 65536 → word_of (digits_of word) ≡ Ok word
unfolding word_of
word-in word h =
    let whole : word / 256 * 256 + word % 256 ≡ word = omega arith in
    rw (lower-in 2 (word / 256 ∷ word % 256 ∷ []) refl (two-bytes (word / 256) (word % 256) (omega arith) (omega arith))) (ap Ok (omega arith))

of-two : (bytes : List ℕ) (word : ℕ) → length bytes ≡ 2 → IsBytes bytes → from_be_bytes w16 bytes ≡ word → (bytes ≡ word / 256 ∷ word % 256 ∷ []) × (word < 65536)
of-two [] word l h e = absurd (omega arith)
of-two (a ∷ []) word l h e = absurd (omega arith)
of-two (a ∷ b ∷ d ∷ more) word l h e = absurd (omega arith)
of-two (a ∷ b ∷ []) word l h e =
    let x : a < 256 = h 0 in
    let y : b < 256 = h 1 in
    let value : a * 256 + b ≡ word = omega (arith, e) in
    let high : a ≡ word / 256 = omega arith in
    let low : b ≡ word % 256 = omega arith in
    (ap (λ n. n ∷ b ∷ []) high ∙ ap (λ n. word / 256 ∷ n ∷ []) low, omega arith)

pub word-Ok : (field : List ℕ) (word : ℕ) → word_of field ≡ Ok word → (field ≡ digits_of word) × (word < 65536)
unfolding word_of
word-Ok field word h =
    let step = bind-Ok (lower_bytes_of 2 field) _ word h in
    let found = lower-Ok 2 field step.0 step.1 in
    let parts = of-two step.0 word found.long found.in_range (same-Ok _ _ step.2) in
    (found.digits ∙ ap encode_lower parts.0, parts.1)

pub words-in : (first : ℕ) (second : Option ℕ) → first < 65536 → Narrow second → words_in (digits_of first) (option_map digits_of second) ≡ Ok (record { first = first; second = second })
unfolding words_in
words-in first None h n = rw (word-in first h) refl
words-in first (Some next) h n = rw (word-in first h, word-in next n) refl

optional-Ok : (field : Option (List ℕ)) (next : Option ℕ) → optional_word field ≡ Ok next → field ≡ option_map digits_of next
optional-Ok None next h = let same : None ≡ next = same-Ok _ _ h in ap (option_map digits_of) same
optional-Ok (Some field) next h =
    let step = bind-Ok (word_of field) _ next h in
    let same : Some step.0 ≡ next = same-Ok _ _ step.2 in
    ap Some (word-Ok field step.0 step.1).0 ∙ ap (option_map digits_of) same

pub words-Ok : (first : List ℕ) (second : Option (List ℕ)) (words : Words) → words_in first second ≡ Ok words → (first ≡ digits_of words.first) × (second ≡ option_map digits_of words.second)
unfolding words_in
words-Ok first second words h =
    let a = bind-Ok (word_of first) _ words h in
    let b = bind-Ok (optional_word second) _ words a.2 in
    let same : record { first = a.0; second = b.0 } ≡ words = same-Ok _ _ b.2 in (
      (word-Ok first a.0 a.1).0 ∙ ap (λ (w : Words). digits_of w.first) same,
      optional-Ok second b.0 b.1 ∙ ap (λ (w : Words). option_map digits_of w.second) same,
    )
