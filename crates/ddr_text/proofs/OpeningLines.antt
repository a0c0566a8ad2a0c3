-- The header of a job, line by line.
use Rattle.std.proofs.Common.{◌≡◌, ◌≢◌, ℕ, ◌<◌, ◌≤◌, Bool, true, false, if◌then◌else◌, List, [], ◌∷◌, ◌++◌, length, take, drop, refl, sym, ap, ◌∙◌, subst, arith, append_assoc, length-append, length-take-le, take-append-drop, drop_at, Option, Some, None, Result, Ok, Err, OnErr, lit<}
use Rattle.std.specs.List.{slice_split}
use Rattle.std.specs.Io.KnownBytes.{Consumes, Keeps}
use Rattle.std.proofs.KnownBytes.{Consumes-trans}
use Rattle.std.proofs.lemmas.Bool.{ltb-false}
use Rattle.std.proofs.lemmas.List.Splits.{slice_split_none}
use Rattle.std.proofs.lemmas.List.Elements.{All-nil}
use Rattle.ddr_io.specs.Line.{HasNoFeed, IsNextLine, next_bytes}
use Rattle.ddr_io.specs.declared.line_reader.Line.TheVariants.{Text, End, TooLong, Unended}
use Rattle.ddr_text.specs.declared.opening.Front.TheVariants as front
use Rattle.ddr_text.specs.Front.{HeadsAgain, IsFront}
use Rattle.ddr_text.specs.Opening.{Heading, Refuses, IsUnopened, is_feed, parts_of, with_feed, is_long, is_large, after_line, heading_in, with_heading, opening_of}
use Rattle.ddr_text.specs.Reason.{number_of}
use Rattle.ddr_text.specs.declared.reason.Reason.{Reason}
use Rattle.ddr_text.specs.declared.reason.Reason.TheVariants.{FaultySeparator, HeaderTooLong, NoSeparator}
use Rattle.ddr_text.specs.Separator.{Ends, Faulty, Text as TextLine, role_of_line}
use Rattle.speed_bin.specs.Version.{Figures}
use Rattle.ddr_text.proofs.LineParts.{line_part, long, long_part, no_feeds, short}

-- ---- What is left, behind the text so far

-- the text of the whole is that of what is left, behind this much of it
abbrev pub Continues : Option (List ℕ) → List ℕ → Option (List ℕ) → Type 0
Continues None text left = Unit {0}
Continues (Some bytes) text None = ⊥
Continues (Some bytes) text (Some left) = heading_in [] (parts_of bytes) ≡ heading_in text (parts_of left)

pub continues-start : (bytes : Option (List ℕ)) → Continues bytes [] bytes
continues-start None = tt
continues-start (Some bytes) = refl

pub continues-none : (bytes : Option (List ℕ)) (text : List ℕ) → text ≡ [] → Continues bytes text bytes
continues-none bytes text e = subst (λ t. Continues bytes t bytes) (sym e) (continues-start bytes)

pub taken-start : (bytes : Option (List ℕ)) (text : List ℕ) → text ≡ [] → Consumes bytes bytes text
taken-start None text e = tt
taken-start (Some bytes) text e = ap (λ t. t ++ bytes) (sym e)

-- whatever follows this much of a header text is judged behind it
abbrev pub GoesBefore : List ℕ → Type 0
GoesBefore text = (more : List ℕ) → heading_in [] (parts_of (text ++ more)) ≡ heading_in text (parts_of more)

pub before-start : (text : List ℕ) → text ≡ [] → GoesBefore text
before-start text e = subst (λ t. GoesBefore t) (sym e) (λ more. refl)

-- behind a line stands another part
two_parts : (text line rest : List ℕ) → HasNoFeed line → length line < 512
    → heading_in text (parts_of (with_feed line ++ rest)) ≡ after_line text line (role_of_line line) (heading_in (text ++ with_feed line) (parts_of rest))
unfolding parts_of
two_parts text line rest clean few =
    let (next, parts, split, behind_it) = line_part line rest clean in
    rw (split, behind_it, short line few) refl

-- the text goes before with one line more
pub before-line : (text line longer : List ℕ) → longer ≡ text ++ with_feed line → GoesBefore text → HasNoFeed line → length line < 512
    → role_of_line line ≡ TextLine → is_large (text ++ with_feed line) ≡ false → GoesBefore longer
before-line text line longer whole before clean few is small = subst (λ t. GoesBefore t) (sym whole) (λ more.
    ap (λ l. heading_in [] (parts_of l)) (append_assoc text (with_feed line) more)
    ∙ before (with_feed line ++ more) ∙ two_parts text line more clean few
    ∙ ap (λ k. after_line text line k (heading_in (text ++ with_feed line) (parts_of more))) is
    ∙ ap (λ b. if b then Err 17 else heading_in (text ++ with_feed line) (parts_of more)) small)

-- the text and a separator head whatever they begin
pub heads-again : (text line separator : List ℕ) (version : Figures) → separator ≡ with_feed line → GoesBefore text → HasNoFeed line → length line < 512
    → role_of_line line ≡ Ends version → HeadsAgain (front.Text text separator version)
heads-again text line separator version whole before clean few is = (
  line,
  whole,
  λ more.
      ap (λ l. heading_in [] (parts_of l)) (append_assoc text separator more ∙ ap (λ s. text ++ (s ++ more)) whole)
      ∙ before (with_feed line ++ more) ∙ two_parts text line more clean few
      ∙ ap (λ k. after_line text line k (heading_in (text ++ with_feed line) (parts_of more))) is,
)

-- a text with no separator, and then less than a line, opens no job
one_part : (text held : List ℕ) → HasNoFeed held → heading_in text (parts_of held) ≡ (if is_long held then Err 17 else Err 16)
unfolding parts_of
one_part text held clean = ap (heading_in text) (slice_split_none is_feed held (no_feeds held clean))

opens_none : (text held : List ℕ) → GoesBefore text → HasNoFeed held → (reason : ℕ) × (opening_of (text ++ held) ≡ Refuses reason)
opens_none text held before clean = go (is_long held) (before held ∙ one_part text held clean)
  where
    go : (b : Bool) → heading_in [] (parts_of (text ++ held)) ≡ (if b then Err 17 else Err 16) → (reason : ℕ) × (opening_of (text ++ held) ≡ Refuses reason)
    go true e = (17, ap (with_heading (text ++ held)) e)
    go false e = (16, ap (with_heading (text ++ held)) e)

pub unopened : (old now left : Option (List ℕ)) (text held : List ℕ) → Consumes old now text → Keeps now (next_bytes held left) → HasNoFeed held → GoesBefore text → IsUnopened old left
unopened None now left text held taken kept clean before = tt
unopened (Some bytes) None left text held taken kept clean before = absurd taken
unopened (Some bytes) (Some rest) None text held taken kept clean before = absurd kept
unopened (Some bytes) (Some rest) (Some left) text held taken kept clean before =
    let none = opens_none text held before clean in
    (text ++ held, none.0, taken ∙ ap (λ l. text ++ l) (sym kept) ∙ sym (append_assoc text held left), none.1)

-- one line more was read
line_read : (bytes left rest text line : List ℕ) → heading_in [] (parts_of bytes) ≡ heading_in text (parts_of left) → HasNoFeed line → length line < 512
    → left ≡ with_feed line ++ rest → heading_in [] (parts_of bytes) ≡ after_line text line (role_of_line line) (heading_in (text ++ with_feed line) (parts_of rest))
line_read bytes left rest text line continues clean few is =
    continues ∙ ap (λ l. heading_in text (parts_of l)) is ∙ two_parts text line rest clean few

-- the next line is the separator
pub found_separator : (old now new : Option (List ℕ)) (text line separator : List ℕ) (version : Figures) → separator ≡ with_feed line → Consumes old now text → Continues old text now → IsNextLine now new line Text
    → role_of_line line ≡ Ends version → IsFront old new (front.Text text separator version)
found_separator None now new text line separator version whole taken continues next is = tt
found_separator (Some bytes) None new text line separator version whole taken continues next is = absurd taken
found_separator (Some bytes) (Some left) None text line separator version whole taken continues next is = absurd next.2
found_separator (Some bytes) (Some left) (Some rest) text line separator version whole taken continues next is =
    let all : bytes ≡ (text ++ with_feed line) ++ rest = taken ∙ ap (λ l. text ++ l) next.2 ∙ sym (append_assoc text (with_feed line) rest) in (
      line,
      whole,
      line_read bytes left rest text line continues next.1 next.0 next.2 ∙ ap (λ k. after_line text line k (heading_in (text ++ with_feed line) (parts_of rest))) is,
      subst (λ s. Some rest ≡ Some (drop (length (text ++ s)) bytes)) (sym whole)
          (ap Some (sym (ap (drop (length (text ++ with_feed line))) all ∙ drop_at (text ++ with_feed line) rest (length (text ++ with_feed line)) refl))),
    )

-- the next line begins as a separator and is none
pub faulty : (old now new : Option (List ℕ)) (text line : List ℕ) (reason : Reason) → Continues old text now → IsNextLine now new line Text
    → role_of_line line ≡ Faulty → reason ≡ (if is_large (text ++ with_feed line) then HeaderTooLong else FaultySeparator) → IsFront old new (front.Refused reason)
faulty None now new text line reason continues next is why = tt
faulty (Some bytes) None new text line reason continues next is why = absurd continues
faulty (Some bytes) (Some left) None text line reason continues next is why = absurd next.2
faulty (Some bytes) (Some left) (Some rest) text line reason continues next is why =
    line_read bytes left rest text line continues next.1 next.0 next.2
    ∙ ap (λ k. after_line text line k (heading_in (text ++ with_feed line) (parts_of rest))) is
    ∙ told (is_large (text ++ with_feed line)) ∙ ap (λ r. Err (number_of r)) (sym why)
  where
    told : (large : Bool) → ◌≡◌ {A = Result Heading ℕ} (if large then Err 17 else Err 29) (Err (number_of (if large then HeaderTooLong else FaultySeparator)))
    told true = refl
    told false = refl

-- the next line is one too many
pub too_much : (old now new : Option (List ℕ)) (text line : List ℕ) → Continues old text now → IsNextLine now new line Text
    → role_of_line line ≡ TextLine → is_large (text ++ with_feed line) ≡ true → IsFront old new (front.Refused HeaderTooLong)
too_much None now new text line continues next is large = tt
too_much (Some bytes) None new text line continues next is large = absurd continues
too_much (Some bytes) (Some left) None text line continues next is large = absurd next.2
too_much (Some bytes) (Some left) (Some rest) text line continues next is large =
    line_read bytes left rest text line continues next.1 next.0 next.2
    ∙ ap (λ k. after_line text line k (heading_in (text ++ with_feed line) (parts_of rest))) is
    ∙ ap (λ b. if b then Err 17 else heading_in (text ++ with_feed line) (parts_of rest)) large

-- the next line is one of the header
pub continues-line : (old now new : Option (List ℕ)) (text line longer : List ℕ) → longer ≡ text ++ with_feed line → Continues old text now → IsNextLine now new line Text
    → role_of_line line ≡ TextLine → is_large (text ++ with_feed line) ≡ false → Continues old longer new
continues-line None now new text line longer more continues next is large = tt
continues-line (Some bytes) None new text line longer more continues next is large = absurd continues
continues-line (Some bytes) (Some left) None text line longer more continues next is large = absurd next.2
continues-line (Some bytes) (Some left) (Some rest) text line longer more continues next is large =
    line_read bytes left rest text line continues next.1 next.0 next.2
    ∙ ap (λ k. after_line text line k (heading_in (text ++ with_feed line) (parts_of rest))) is
    ∙ ap (λ b. if b then Err 17 else heading_in (text ++ with_feed line) (parts_of rest)) large
    ∙ ap (λ t. heading_in t (parts_of rest)) (sym more)

-- ---- No line more

last_long : (text part : List ℕ) (rest : List (List ℕ)) → is_long part ≡ true → heading_in text (part ∷ rest) ≡ Err 17
last_long text part [] is = rw is refl
last_long text part (next ∷ rest) is = rw is refl

long_left : (text left : List ℕ) → 512 ≤ length left → HasNoFeed (take 512 left) → heading_in text (parts_of left) ≡ Err 17
unfolding parts_of
long_left text left many clean =
    let found = long_part (take 512 left) (drop 512 left) clean in
    let whole = ap (slice_split is_feed) (sym (take-append-drop 512 left)) ∙ found.2 in
    let front : length (take 512 left) ≡ 512 = length-take-le 512 left many in
    ap (heading_in text) whole ∙ last_long text (take 512 left ++ found.0) found.1 (long (take 512 left ++ found.0) (omega (arith, front, length-append (take 512 left) found.0)))

short_left : (text left : List ℕ) → length left < 512 → HasNoFeed left → heading_in text (parts_of left) ≡ Err 16
unfolding parts_of
short_left text left few clean =
    ap (heading_in text) (slice_split_none is_feed left (no_feeds left clean)) ∙ ap (λ b. if b then Err 17 else Err 16) (short left few)

-- the next 512 bytes are no line
pub too_long : (old now new later : Option (List ℕ)) (text line : List ℕ) → Continues old text now → IsNextLine now new line TooLong → IsFront old later (front.Refused HeaderTooLong)
too_long None now new later text line continues next = tt
too_long (Some bytes) None new later text line continues next = absurd continues
too_long (Some bytes) (Some left) new later text line continues next = continues ∙ long_left text left next.0.0 next.0.1

-- the end comes within a line
pub unended : (old now new later : Option (List ℕ)) (text line : List ℕ) → Continues old text now → IsNextLine now new line Unended → IsFront old later (front.Refused NoSeparator)
unended None now new later text line continues next = tt
unended (Some bytes) None new later text line continues next = absurd continues
unended (Some bytes) (Some left) new later text line continues next = continues ∙ short_left text left next.0.1 next.0.2

-- no byte is left
pub at_end : (old now new later : Option (List ℕ)) (text line : List ℕ) → Continues old text now → IsNextLine now new line End → IsFront old later (front.Refused NoSeparator)
at_end None now new later text line continues next = tt
at_end (Some bytes) None new later text line continues next = absurd continues
at_end (Some bytes) (Some left) new later text line continues next =
    continues ∙ ap (λ l. heading_in text (parts_of l)) next.0 ∙ short_left text [] (lit< tt) (All-nil (λ b. b ≢ 10))

pub within : (text : List ℕ) → is_large text ≡ false → length text ≤ 65536
within text small = ltb-false 65536 (length text) small

-- the bytes that were taken before memory was wanting
pub taken-line : {T E : Type 0} (old now new : Option (List ℕ)) (text line : List ℕ) (r : Result T E) → Consumes old now text → IsNextLine now new line Text
    → OnErr r ((bytes : List ℕ) × Consumes old new bytes)
taken-line old now new text line (Ok x) taken next = tt
taken-line old now new text line (Err e) taken next = (text ++ with_feed line, Consumes-trans old now new text (with_feed line) taken next.2)

pub taken-front : {T E : Type 0} (old new : Option (List ℕ)) (text separator : List ℕ) (version : Figures) (r : Result T E) → IsFront old new (front.Text text separator version) → OnErr r ((bytes : List ℕ) × Consumes old new bytes)
taken-front old new text separator version (Ok x) found = tt
taken-front None new text separator version (Err e) found = ([], tt)
taken-front (Some bytes) new text separator version (Err e) found =
    (take (length (text ++ separator)) bytes, subst (λ n. Consumes (Some bytes) n (take (length (text ++ separator)) bytes)) (sym found.3) (sym (take-append-drop (length (text ++ separator)) bytes)))
