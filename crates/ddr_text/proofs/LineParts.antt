-- The next line of some bytes is their first part.
use Rattle.std.proofs.Common.{◌≡◌, ◌≢◌, ℕ, ◌<◌, ◌≤◌, true, false, List, [], ◌∷◌, ◌++◌, length, take, drop, get_or, sym, ap, ◌∙◌, arith, length-append, length-take-le, take-append-drop, Option, Some}
use Rattle.std.specs.List.{All, slice_split, onto_first}
use Rattle.std.proofs.lemmas.Bool.{ne_eqb, le-ltb, lt-ltb}
use Rattle.std.proofs.lemmas.List.Splits.{slice_split_none, slice_split-cons_no}
use Rattle.std.proofs.lemmas.List.Elements.{All-head, All-tail}
use Rattle.ddr_io.specs.Line.{HasNoFeed, IsNextLine}
use Rattle.ddr_io.specs.declared.line_reader.Line.TheVariants.{Text, End, TooLong, Unended}
use Rattle.ddr_text.specs.Opening.{is_feed, is_long, parts_of, with_feed}
use Rattle.ddr_text.specs.Parts.{LinesAreParts}
use Rattle.ddr_text.proofs.CleanParts.{first-part, line-part}

not_feed : (x : ℕ) → x ≢ 10 → is_feed x ≡ false
not_feed x other = ne_eqb x 10 other

pub no_feeds : (xs : List ℕ) → HasNoFeed xs → All (λ x. is_feed x ≡ false) xs
no_feeds xs clean = λ i d low. not_feed (get_or xs i d) (clean i d low)

-- bytes without a line feed begin the first part
pub long_part : (front xs : List ℕ) → HasNoFeed front → (first : List ℕ) × (rest : List (List ℕ)) × (slice_split is_feed (front ++ xs) ≡ (front ++ first) ∷ rest)
long_part [] xs clean = first-part xs
long_part (x ∷ front) xs clean =
    let more = long_part front xs (All-tail (λ b. b ≢ 10) x front clean) in
    (more.0, more.1, slice_split-cons_no is_feed x (front ++ xs) (not_feed x (All-head (λ b. b ≢ 10) x front clean)) ∙ ap (onto_first x) more.2)

pub short : (line : List ℕ) → length line < 512 → is_long line ≡ false
short line few = le-ltb 511 (length line) (omega (arith, few))

pub long : (line : List ℕ) → 512 ≤ length line → is_long line ≡ true
long line many = lt-ltb 511 (length line) (omega (arith, many))

-- behind a line stands another part
pub line_part : (line rest : List ℕ) → HasNoFeed line
    → (next : List ℕ) × (more : List (List ℕ)) × (slice_split is_feed (with_feed line ++ rest) ≡ line ∷ next ∷ more) × (slice_split is_feed rest ≡ next ∷ more)
line_part line rest clean =
    let next = first-part rest in
    (next.0, next.1, line-part line rest (no_feeds line clean) ∙ ap (λ l. line ∷ l) next.2, next.2)

first_line : (bytes rest text : List ℕ) → IsNextLine (Some bytes) (Some rest) text Text
    → (next : List ℕ) × (more : List (List ℕ)) × (parts_of bytes ≡ text ∷ next ∷ more) × (parts_of rest ≡ next ∷ more) × (is_long text ≡ false)
unfolding parts_of
first_line bytes rest text found =
    let split = line_part text rest found.1 in
    (split.0, split.1, ap (slice_split is_feed) found.2 ∙ split.2, split.3, short text found.0)

first_long : (bytes text : List ℕ) (left : Option (List ℕ)) → IsNextLine (Some bytes) left text TooLong
    → (part : List ℕ) × (more : List (List ℕ)) × (parts_of bytes ≡ part ∷ more) × (is_long part ≡ true)
unfolding parts_of
first_long bytes text left found =
    let more = long_part (take 512 bytes) (drop 512 bytes) found.0.1 in
    let front : length (take 512 bytes) ≡ 512 = length-take-le 512 bytes found.0.0 in (
      take 512 bytes ++ more.0,
      more.1,
      ap (slice_split is_feed) (sym (take-append-drop 512 bytes)) ∙ more.2,
      long (take 512 bytes ++ more.0) (omega (arith, front, length-append (take 512 bytes) more.0)),
    )

no_line : (bytes text : List ℕ) (left : Option (List ℕ)) → IsNextLine (Some bytes) left text Unended → (parts_of bytes ≡ bytes ∷ []) × (1 ≤ length bytes) × (is_long bytes ≡ false)
unfolding parts_of
no_line bytes text left found = (slice_split_none is_feed bytes (no_feeds bytes found.0.2), found.0.0, short bytes found.0.1)

no_byte : (bytes text : List ℕ) (left : Option (List ℕ)) → IsNextLine (Some bytes) left text End → parts_of bytes ≡ [] ∷ []
unfolding parts_of
no_byte bytes text left found = ap (slice_split is_feed) found.0

pub lines_are_parts : LinesAreParts
lines_are_parts = record { line = first_line; too_long = first_long; unended = no_line; at_end = no_byte }
