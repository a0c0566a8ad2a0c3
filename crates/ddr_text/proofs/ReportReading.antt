-- The next line of a report.
use Rattle.std.proofs.Common.{◌≡◌, ◌∙◌, ℕ, suc, ◌+◌, ◌<◌, ◌≤◌, Bool, true, false, if◌then◌else◌, nat_lt, List, [], ◌∷◌, length, refl, sym, ap, subst, arith, Option, Some, None, Result, Ok, Err}
use Rattle.std.proofs.lemmas.Bool.{le-ltb, lt-ltb, ltb-false}
use Rattle.command_words.specs.Geometry.{Shape}
use Rattle.ddr_io.specs.Line.{IsNextLine, next_bytes}
use Rattle.ddr_io.specs.Reading.{Reading as ReaderOfLines}
use Rattle.ddr_io.specs.declared.line_reader.Line.TheVariants.{Text, End, TooLong, Unended}
use Rattle.ddr_text.specs.Opening.{parts_of, is_long}
use Rattle.ddr_text.specs.Parts.{LinesAreParts}
use Rattle.ddr_text.specs.AcceptedReport.{IsReportLine}
use Rattle.ddr_text.specs.ReportGrammar.{report_line_of}
use Rattle.ddr_text.specs.declared.lines.LineFault.{LineFault}
use Rattle.ddr_text.specs.declared.lines.ReportLine.{ReportLine}
use Rattle.ddr_text.specs.ReportReading.{IsStep, Judges, Lines, Place, Placed, StepsOn, behind_line, in_place, placed, stage_after, judged_line, judged_rest, is_whole, lines_in, lines_left, refusal_at, stage_behind, with_line}
use Rattle.ddr_text.specs.declared.report_reader.Next.{Next}
use Rattle.ddr_text.specs.declared.report_reader.Next.TheVariants.{Line as LineNext, End as EndNext, Refused as RefusedNext}
use Rattle.ddr_text.specs.declared.report_reader.Stage.{Stage}
use Rattle.ddr_text.specs.declared.report_reader.TheConstants.{MOST_LINES}

-- ---- The next line of a report

-- the lines that are left begin with the next line
line_left : LinesAreParts → (it : Place) (bytes rest text : List ℕ) → IsNextLine (Some bytes) (Some rest) text Text → lines_left it bytes
    ≡ behind_line it.number (judged_line it.shape it.stage it.number text) (lines_in it.shape (stage_behind it.stage (judged_line it.shape it.stage it.number text)) (suc it.number) (parts_of rest))
line_left law it bytes rest text found =
    let (next, more, split, behind, fits) = law.line bytes rest text found in
    rw (split, behind) refl

number_next : (n : ℕ) → suc n ≡ n + 1
number_next n = omega arith

judged_step : (it old new : Place) (judged : Result Placed ℕ) (bytes rest : List ℕ) (next : Next) → old.shape ≡ it.shape → old.stage ≡ it.stage → old.number ≡ it.number
    → lines_left it bytes ≡ behind_line it.number judged (lines_in it.shape (stage_behind it.stage judged) (suc it.number) (parts_of rest))
    → Judges judged old new next → IsStep it new (Some bytes) (Some rest) next
judged_step it old new (Ok found) bytes rest next same_shape same_stage same_number left judges =
    subst (λ n. IsStep it new (Some bytes) (Some rest) n) (sym judges.0) (
      rest,
      refl,
      left ∙ ap (with_line found.line) (ap (λ n. lines_in it.shape found.stage n (parts_of rest)) (number_next it.number ∙ ap (λ n. n + 1) (sym same_number))
          ∙ ap (λ g. lines_in g found.stage (old.number + 1) (parts_of rest)) (sym same_shape)
          ∙ ap (λ (p : Place). lines_left p rest) (sym judges.1)),
    )
judged_step it old new (Err reason) bytes rest next same_shape same_stage same_number left judges =
    subst (λ n. IsStep it new (Some bytes) (Some rest) n) (sym judges.0) (left ∙ ap (λ n. record { lines = []; refusal = refusal_at n (Some reason) }) (sym same_number))

reader_kept : (judged : Result Placed ℕ) (old new : Place) (next : Next) → Judges judged old new next → old.reader ≡ new.reader
reader_kept (Ok found) old new next judges = ap (λ (p : Place). p.reader) (sym judges.1)
reader_kept (Err reason) old new next judges = ap (λ (p : Place). p.reader) (sym judges.1)

pub step_text : LinesAreParts → (it old new : Place) (before left : Option (List ℕ)) (next : Next) → old.shape ≡ it.shape → old.stage ≡ it.stage → old.number ≡ it.number
    → IsNextLine before (next_bytes old.reader.held left) old.reader.line Text → Judges (judged_line it.shape it.stage it.number old.reader.line) old new next → IsStep it new before (next_bytes new.reader.held left) next
step_text law it old new before left next a b c found judges =
    subst (λ (r : ReaderOfLines). IsStep it new before (next_bytes r.held left) next) (reader_kept (judged_line it.shape it.stage it.number old.reader.line) old new next judges) (go before (next_bytes old.reader.held left) found)
  where
    go : (xs ys : Option (List ℕ)) → IsNextLine xs ys old.reader.line Text → IsStep it new xs ys next
    go None ys found = tt
    go (Some bytes) None found = absurd found.2
    go (Some bytes) (Some rest) found =
        judged_step it old new (judged_line it.shape it.stage it.number old.reader.line) bytes rest next a b c (line_left law it bytes rest old.reader.line found) judges

-- ---- What is known of a line in its place

placed_ok : (line : ReportLine) (o : Option Stage) (found : Placed) → placed line o ≡ Ok found → o ≡ Some found.stage
placed_ok line None found e = absurd cc
placed_ok line (Some stage) found e = let same : record { line = line; stage = stage } ≡ found = cc in ap (λ (p : Placed). Some p.stage) same

pub placed_line : (line : ReportLine) (o : Option Stage) (found : Placed) → placed line o ≡ Ok found → line ≡ found.line
placed_line line None found e = absurd cc
placed_line line (Some stage) found e = let same : record { line = line; stage = stage } ≡ found = cc in ap (λ (p : Placed). p.line) same

in_place_ok : (stage : Stage) (read : Result ReportLine LineFault) (found : Placed) → in_place stage read ≡ Ok found → stage_after stage found.line ≡ Some found.stage
in_place_ok stage (Ok line) found e = ap (stage_after stage) (sym (placed_line line (stage_after stage line) found e)) ∙ placed_ok line (stage_after stage line) found e
in_place_ok stage (Err fault) found e = absurd cc

judged_ok : (g : Shape) (stage : Stage) (number : ℕ) (text : List ℕ) (found : Placed) → judged_line g stage number text ≡ Ok found → (number ≤ MOST_LINES) × (stage_after stage found.line ≡ Some found.stage)
unfolding judged_line
judged_ok g stage number text found e = go (nat_lt MOST_LINES number) refl (is_long text) e
  where
    go : (t : Bool) → nat_lt MOST_LINES number ≡ t → (u : Bool) → (if t then Err 9 else if u then Err 7 else in_place stage (report_line_of g text)) ≡ Ok found → (number ≤ MOST_LINES) × (stage_after stage found.line ≡ Some found.stage)
    go true few u k = absurd cc
    go false few true k = absurd cc
    go false few false k = (ltb-false MOST_LINES number few, in_place_ok stage (report_line_of g text) found k)

pub steps_on : (it old new : Place) (next : Next) (line : ReportLine) → old.shape ≡ it.shape → old.stage ≡ it.stage → old.number ≡ it.number → old.reader.last ≡ Text
    → Judges (judged_line it.shape it.stage it.number old.reader.line) old new next → next ≡ LineNext line → IsReportLine it.shape line → StepsOn it new line
steps_on it old new next line a b c last judges is inside = go (judged_line it.shape it.stage it.number old.reader.line) refl judges
  where
    go : (judged : Result Placed ℕ) → judged_line it.shape it.stage it.number old.reader.line ≡ judged → Judges judged old new next → StepsOn it new line
    go (Err reason) e j = absurd (let same = sym is ∙ j.0 in cc)
    go (Ok found) e j =
        let same : line ≡ found.line = (let both = sym is ∙ j.0 in cc) in
        let ok = judged_ok it.shape it.stage it.number old.reader.line found e in
        record {
          inside = inside;
          stage = ap (stage_after it.stage) same ∙ ok.1 ∙ ap (λ (p : Place). Some p.stage) (sym j.1);
          number = ap (λ (p : Place). p.number) j.1 ∙ ap (λ (n : ℕ). n + 1) c;
          few = ok.0;
          shape = ap (λ (p : Place). p.shape) j.1 ∙ a;
          last = ap (λ (p : Place). p.reader.last) j.1 ∙ last;
        }

-- ---- How a line is judged

pub judges_many : (it : Place) → MOST_LINES < it.number → Judges (judged_line it.shape it.stage it.number it.reader.line) it it (RefusedNext it.number 9)
unfolding judged_line
judges_many it many = let t = lt-ltb MOST_LINES it.number many in rw t (refl, refl)

pub judges_read : (it new : Place) (next : Next) (read : Result ReportLine LineFault) → it.number ≤ MOST_LINES → length it.reader.line < 512 → read ≡ report_line_of it.shape it.reader.line → Judges (in_place it.stage read) it new next → Judges (judged_line it.shape it.stage it.number it.reader.line) it new next
unfolding judged_line
judges_read it new next read few fits is judges =
    let t = le-ltb MOST_LINES it.number few in
    let u : is_long it.reader.line ≡ false = le-ltb 511 (length it.reader.line) (omega (arith, fits)) in
    rw (t, u, ← is) judges

-- ---- No line more

-- a number that is one too many comes first
abbrev many : ℕ → ℕ → ℕ
many number reason = if nat_lt MOST_LINES number then 9 else reason

rest_long : (stage : Stage) (number : ℕ) (part : List ℕ) → is_long part ≡ true → judged_rest stage number part ≡ Some (many number 7)
unfolding judged_rest
rest_long stage number [] is = absurd cc
rest_long stage number (byte ∷ bytes) is = rw is refl

rest_short : (stage : Stage) (number : ℕ) (part : List ℕ) → 1 ≤ length part → is_long part ≡ false → judged_rest stage number part ≡ Some (many number 8)
unfolding judged_rest
rest_short stage number [] some is = absurd (omega arith)
rest_short stage number (byte ∷ bytes) some is = rw is refl

line_long : (g : Shape) (stage : Stage) (number : ℕ) (text : List ℕ) → is_long text ≡ true → judged_line g stage number text ≡ Err (many number 7)
unfolding judged_line
line_long g stage number text is = go (nat_lt MOST_LINES number) refl
  where
    go : (t : Bool) → nat_lt MOST_LINES number ≡ t → judged_line g stage number text ≡ Err (many number 7)
    go true e = rw e refl
    go false e = rw (e, is) refl

long_first : (it : Place) (part : List ℕ) (parts : List (List ℕ)) → is_long part ≡ true → lines_in it.shape it.stage it.number (part ∷ parts) ≡ record { lines = []; refusal = refusal_at it.number (Some (many it.number 7)) }
long_first it part [] is = ap (λ r. record { lines = []; refusal = refusal_at it.number r }) (rest_long it.stage it.number part is)
long_first it part (next ∷ parts) is =
    let judged = line_long it.shape it.stage it.number part is in
    rw judged refl

pub step_long : LinesAreParts → (it new : Place) (before after later : Option (List ℕ)) (text : List ℕ) → IsNextLine before after text TooLong → IsStep it new before later (RefusedNext it.number (many it.number 7))
step_long law it new None after later text found = tt
step_long law it new (Some bytes) after later text found =
    let (part, more, split, is) = law.too_long bytes text after found in
    ap (lines_in it.shape it.stage it.number) split ∙ long_first it part more is

pub step_unended : LinesAreParts → (it new : Place) (before after later : Option (List ℕ)) (text : List ℕ) → IsNextLine before after text Unended → IsStep it new before later (RefusedNext it.number (many it.number 8))
step_unended law it new None after later text found = tt
step_unended law it new (Some bytes) after later text found =
    let (split, some, is) = law.unended bytes text after found in
    ap (lines_in it.shape it.stage it.number) split
    ∙ ap (λ r. record { lines = []; refusal = refusal_at it.number r }) (rest_short it.stage it.number bytes some is)

-- what the end is
abbrev pub end_next : Bool → ℕ → Next
end_next whole number = if whole then EndNext else RefusedNext number 19

at_end : (it new : Place) (whole : Bool) (bytes after : List ℕ) → parts_of bytes ≡ [] ∷ [] → after ≡ [] → is_whole it.stage ≡ whole → IsStep it new (Some bytes) (Some after) (end_next whole it.number)
unfolding judged_rest
at_end it new true bytes after none all e = (ap Some all, rw (none, e) refl)
at_end it new false bytes after none all e = rw (none, e) refl

pub step_end : LinesAreParts → (it new : Place) (before after : Option (List ℕ)) (text : List ℕ) → IsNextLine before after text End → IsStep it new before after (end_next (is_whole it.stage) it.number)
step_end law it new None after text found = tt
step_end law it new (Some bytes) None text found = absurd found.1
step_end law it new (Some bytes) (Some left) text found = at_end it new (is_whole it.stage) bytes left (law.at_end bytes text (Some left) found) (found.1 ∙ found.0) refl
