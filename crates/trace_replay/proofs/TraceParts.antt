-- The trace of a job, line by line.
use Rattle.std.proofs.Common.{◌≡◌, ℕ, ◌+◌, ◌<◌, ◌≤◌, Bool, true, false, if◌then◌else◌, List, [], ◌∷◌, ◌++◌, length, refl, sym, ap, ◌∙◌, arith, Option, Some, None, IfSome, Result, Ok, Err}
use Rattle.command_words.specs.Geometry.{Shape}
use Rattle.ddr_io.specs.Line.{HasNoFeed, IsNextLine}
use Rattle.ddr_io.specs.declared.line_reader.Line.TheVariants.{Text, End as EndLine, TooLong, Unended}
use Rattle.ddr_text.specs.Accepted.{IsTraceLine}
use Rattle.ddr_text.specs.Grammar.{trace_line_of}
use Rattle.ddr_text.specs.Opening.{parts_of, with_feed, is_long}
use Rattle.ddr_text.specs.Parts.{LinesAreParts}
use Rattle.ddr_text.specs.declared.lines.TraceLine.{TraceLine}
use Rattle.ddr_text.specs.declared.lines.TraceLine.TheVariants.{Read, Write, Flip, Idle}
use Rattle.trace_replay.specs.Job.{MOST, clocks_of, trace_from, with_text, with_part, if_read, is_full, continued, extended, at_end, refused_behind}
use Rattle.trace_replay.specs.Reading.{Continues, Ends, IsMore, HasBytes}
use Rattle.reports.specs.Delivered.{IsInside}
use Rattle.trace_replay.specs.declared.trace_lines.Tally.{Tally}

-- ---- One line

if_short : (g : Shape) (trace : List TraceLine) (line : List ℕ) → is_long line ≡ false → with_part g trace line ≡ with_text g trace line
if_short g trace line is = ap (λ b. if is_full trace then Err 9 else if b then Err 7 else if_read trace (trace_line_of g line)) is

line_step : LinesAreParts → (g : Shape) (trace : List TraceLine) (bytes rest line : List ℕ) → IsNextLine (Some bytes) (Some rest) line Text
    → trace_from g trace (parts_of bytes) ≡ continued trace (with_text g trace line) (λ longer. trace_from g longer (parts_of rest))
line_step law g trace bytes rest line found =
    let (next, more, split, behind, fits) = law.line bytes rest line found in
    ap (trace_from g trace) split
    ∙ ap (λ r. continued trace r (λ longer. trace_from g longer (next ∷ more))) (if_short g trace line fits)
    ∙ ap (λ l. continued trace (with_text g trace line) (λ longer. trace_from g longer l)) (sym behind)

-- the next line is judged so
step : LinesAreParts → (g : Shape) (trace : List TraceLine) (bytes rest line : List ℕ) (answer : Result TraceLine ℕ) → IsNextLine (Some bytes) (Some rest) line Text
    → extended trace answer ≡ with_text g trace line → trace_from g trace (parts_of bytes) ≡ continued trace (extended trace answer) (λ longer. trace_from g longer (parts_of rest))
step law g trace bytes rest line answer next is =
    line_step law g trace bytes rest line next
    ∙ ap (λ r. continued trace r (λ longer. trace_from g longer (parts_of rest))) (sym is)

-- whatever follows the line
step_more : LinesAreParts → (g : Shape) (trace : List TraceLine) (more line : List ℕ) (served : TraceLine) (answer : Result TraceLine ℕ) → HasNoFeed line → length line < 512 → answer ≡ Ok served
    → extended trace answer ≡ with_text g trace line → trace_from g trace (parts_of (with_feed line ++ more)) ≡ trace_from g (trace ++ served ∷ []) (parts_of more)
step_more law g trace more line served answer clean few found is =
    step law g trace (with_feed line ++ more) more line answer (few, clean, refl) is
    ∙ ap (λ a. continued trace (extended trace a) (λ longer. trace_from g longer (parts_of more))) found

pub next_served : LinesAreParts → (g : Shape) (trace : List TraceLine) (old new : Option (List ℕ)) (line : List ℕ) (served : TraceLine) (answer : Result TraceLine ℕ) → IsNextLine old new line Text
    → answer ≡ Ok served → extended trace answer ≡ with_text g trace line → Continues g trace old (trace ++ served ∷ []) new
next_served law g trace None new line served answer next found is = tt
next_served law g trace (Some bytes) None line served answer next found is = absurd next.2
next_served law g trace (Some bytes) (Some rest) line served answer next found is =
    (with_feed line, next.2, λ more. step_more law g trace more line served answer next.1 next.0 found is)

pub next_refused : LinesAreParts → (g : Shape) (trace : List TraceLine) (old new : Option (List ℕ)) (line : List ℕ) (reason : ℕ) (answer : Result TraceLine ℕ) → IsNextLine old new line Text
    → answer ≡ Err reason → extended trace answer ≡ with_text g trace line → IfSome old (λ bytes. trace_from g trace (parts_of bytes) ≡ refused_behind trace reason)
next_refused law g trace None new line reason answer next found is = tt
next_refused law g trace (Some bytes) None line reason answer next found is = absurd next.2
next_refused law g trace (Some bytes) (Some rest) line reason answer next found is =
    step law g trace bytes rest line answer next is ∙ ap (λ a. continued trace (extended trace a) (λ longer. trace_from g longer (parts_of rest))) found

-- ---- No line

-- the reason to refuse what has no line feed
abbrev rest_reason : Bool → Bool → ℕ
rest_reason full large = if full then 9 else if large then 7 else 8

last_part : (trace : List TraceLine) (part : List ℕ) → 1 ≤ length part → at_end trace part ≡ refused_behind trace (rest_reason (is_full trace) (is_long part))
last_part trace [] some = absurd (omega (arith, some))
last_part trace (byte ∷ bytes) some = refl

long_reason : (trace : List TraceLine) (full : Bool) (r : Result (List TraceLine) ℕ) (go_on : List TraceLine → _) → continued trace (if full then Err 9 else Err 7) go_on ≡ refused_behind trace (if full then 9 else 7)
long_reason trace true r go_on = refl
long_reason trace false r go_on = refl

some_long : (g : Shape) (trace : List TraceLine) (part : List ℕ) (rest : List (List ℕ)) → is_long part ≡ true → trace_from g trace (part ∷ rest) ≡ refused_behind trace (if is_full trace then 9 else 7)
some_long g trace [] [] long = absurd cc
some_long g trace (byte ∷ bytes) [] long = ap (λ b. refused_behind trace (rest_reason (is_full trace) b)) long
some_long g trace part (next ∷ rest) long =
    ap (λ b. continued trace (if is_full trace then Err 9 else if b then Err 7 else if_read trace (trace_line_of g part)) (λ longer. trace_from g longer (next ∷ rest))) long
    ∙ long_reason trace (is_full trace) (Err 7) (λ longer. trace_from g longer (next ∷ rest))

pub next_too_long : LinesAreParts → (g : Shape) (trace : List TraceLine) (old new : Option (List ℕ)) (line : List ℕ) (reason : ℕ) → IsNextLine old new line TooLong → reason ≡ (if is_full trace then 9 else 7)
    → IfSome old (λ bytes. trace_from g trace (parts_of bytes) ≡ refused_behind trace reason)
next_too_long law g trace None new line reason next is = tt
next_too_long law g trace (Some bytes) new line reason next is =
    let (part, more, split, long) = law.too_long bytes line new next in
    ap (trace_from g trace) split ∙ some_long g trace part more long ∙ ap (refused_behind trace) (sym is)

pub next_unended : LinesAreParts → (g : Shape) (trace : List TraceLine) (old new : Option (List ℕ)) (line : List ℕ) (reason : ℕ) → IsNextLine old new line Unended → reason ≡ (if is_full trace then 9 else 8)
    → IfSome old (λ bytes. trace_from g trace (parts_of bytes) ≡ refused_behind trace reason)
next_unended law g trace None new line reason next is = tt
next_unended law g trace (Some bytes) new line reason next is =
    let (split, some, fits) = law.unended bytes line new next in
    ap (trace_from g trace) split ∙ last_part trace bytes some
    ∙ ap (λ b. refused_behind trace (rest_reason (is_full trace) b)) fits ∙ ap (refused_behind trace) (sym is)

pub next_end : LinesAreParts → (g : Shape) (trace : List TraceLine) (old new : Option (List ℕ)) (line : List ℕ) → IsNextLine old new line EndLine → Ends g trace old new
next_end law g trace None new line next = tt
next_end law g trace (Some bytes) None line next = absurd next.1
next_end law g trace (Some bytes) (Some rest) line next = (ap (trace_from g trace) (law.at_end bytes line (Some rest) next), ap Some (next.1 ∙ next.0))

-- ---- A line more

pub more-of : (g : Shape) (tally : Tally) (line : TraceLine) → IsTraceLine g line → HasBytes line → tally.lines < MOST → tally.clocks + clocks_of line ≤ 4294967296 → IsMore g tally line
more-of g tally line is bytes few idle = record { inside = inside_of line is bytes; few = few; idle = idle }
  where
    inside_of : (l : TraceLine) → IsTraceLine g l → HasBytes l → IsInside g l
    inside_of (Read line) is bytes = is
    inside_of (Write line brought) is bytes = (is, bytes)
    inside_of (Flip line device bit) is bytes = is
    inside_of (Idle clocks) is bytes = tt
