-- The next line of a trace of two ranks.
use Rattle.std.proofs.Common.{◌≡◌, ◌∙◌, ℕ, suc, ◌+◌, ◌<◌, ◌≤◌, Bool, true, false, if◌then◌else◌, nat_le, nat_lt, List, [], ◌∷◌, length, refl, sym, ap, subst, arith, Option, Some, None, Result, Ok, Err}
use Rattle.std.proofs.lemmas.Bool.{le-leb, le-ltb, leb-false, lt-leb, lt-ltb, ltb-false}
use Rattle.command_words.specs.Geometry.{Shape}
use Rattle.ddr_io.specs.Line.{IsNextLine, next_bytes}
use Rattle.ddr_io.specs.Reading.{Reading as ReaderOfLines}
use Rattle.ddr_io.specs.declared.line_reader.Line.TheVariants.{Text, End, TooLong, Unended}
use Rattle.ddr_text.specs.Opening.{parts_of, is_long}
use Rattle.ddr_text.specs.Parts.{LinesAreParts}
use Rattle.ddr_text.specs.declared.lines.LineFault.{LineFault}
use Rattle.reports.specs.Delivered.{IsInside}
use Rattle.pair_reports.specs.Grammar.{rank_line_of}
use Rattle.pair_reports.specs.declared.rank_line.RankLine.{RankLine}
use Rattle.rank_pair.specs.Job.{Traced, behind_line, clocks_of, judged_line, judged_rest, lines_in, most_clocks, most_lines, with_line, within}
use Rattle.rank_pair.specs.Reading.{IsStep, Judges, Place, StepsOn, lines_left, unless_full}
use Rattle.rank_pair.specs.declared.rank_reader.Next.{Next}
use Rattle.rank_pair.specs.declared.rank_reader.Next.TheVariants.{Line as LineNext, End as EndNext, Refused as RefusedNext}

-- ---- A line

-- the lines that are left begin with the next line
line_left : LinesAreParts → (it : Place) (bytes rest text : List ℕ) → IsNextLine (Some bytes) (Some rest) text Text → lines_left it bytes
    ≡ behind_line (judged_line it.shape it.lines it.clocks text) (λ found. lines_in it.shape (suc it.lines) (it.clocks + clocks_of found.line) (parts_of rest))
line_left law it bytes rest text found =
    let (next, more, split, behind, fits) = law.line bytes rest text found in
    rw (split, behind) refl

number_next : (n : ℕ) → suc n ≡ n + 1
number_next n = omega arith

judged_step : (it old new : Place) (judged : Result RankLine ℕ) (bytes rest : List ℕ) (next : Next) → old.shape ≡ it.shape → old.lines ≡ it.lines → old.clocks ≡ it.clocks
    → lines_left it bytes ≡ behind_line judged (λ found. lines_in it.shape (suc it.lines) (it.clocks + clocks_of found.line) (parts_of rest))
    → Judges judged old new next → IsStep it new (Some bytes) (Some rest) next
judged_step it old new (Ok found) bytes rest next same_shape same_lines same_clocks left judges =
    let k = clocks_of found.line in
    subst (λ n. IsStep it new (Some bytes) (Some rest) n) (sym judges.0) (
      rest,
      refl,
      left ∙ ap (with_line found) (ap (λ n. lines_in it.shape n (it.clocks + k) (parts_of rest)) (number_next it.lines ∙ ap (λ n. n + 1) (sym same_lines))
          ∙ ap (λ n. lines_in it.shape (old.lines + 1) (n + k) (parts_of rest)) (sym same_clocks)
          ∙ ap (λ g. lines_in g (old.lines + 1) (old.clocks + k) (parts_of rest)) (sym same_shape)
          ∙ ap (λ (p : Place). lines_left p rest) (sym judges.1)),
    )
judged_step it old new (Err reason) bytes rest next same_shape same_lines same_clocks left judges =
    subst (λ n. IsStep it new (Some bytes) (Some rest) n) (sym judges.0) left

reader_kept : (judged : Result RankLine ℕ) (old new : Place) (next : Next) → Judges judged old new next → old.reader ≡ new.reader
reader_kept (Ok found) old new next judges = ap (λ (p : Place). p.reader) (sym judges.1)
reader_kept (Err reason) old new next judges = ap (λ (p : Place). p.reader) (sym judges.1)

pub step_text : LinesAreParts → (it old new : Place) (before left : Option (List ℕ)) (next : Next) → old.shape ≡ it.shape → old.lines ≡ it.lines → old.clocks ≡ it.clocks
    → IsNextLine before (next_bytes old.reader.held left) old.reader.line Text → Judges (judged_line it.shape it.lines it.clocks old.reader.line) old new next → IsStep it new before (next_bytes new.reader.held left) next
step_text law it old new before left next a b d found judges =
    subst (λ (r : ReaderOfLines). IsStep it new before (next_bytes r.held left) next) (reader_kept (judged_line it.shape it.lines it.clocks old.reader.line) old new next judges) (go before (next_bytes old.reader.held left) found)
  where
    go : (xs ys : Option (List ℕ)) → IsNextLine xs ys old.reader.line Text → IsStep it new xs ys next
    go None ys found = tt
    go (Some bytes) None found = absurd found.2
    go (Some bytes) (Some rest) found =
        judged_step it old new (judged_line it.shape it.lines it.clocks old.reader.line) bytes rest next a b d (line_left law it bytes rest old.reader.line found) judges

-- ---- What is known of a line in its place

pub record IsWithin (clocks : ℕ) (read : Result RankLine LineFault) (found : RankLine) : Type 0 where
  pub reads : read ≡ Ok found
  pub short : clocks + clocks_of found.line ≤ most_clocks

within_ok : (clocks : ℕ) (read : Result RankLine LineFault) (found : RankLine) → within clocks read ≡ Ok found → IsWithin clocks read found
within_ok clocks (Err fault) found e = absurd cc
within_ok clocks (Ok line) found e = go (nat_lt most_clocks (clocks + clocks_of line.line)) refl e
  where
    go : (t : Bool) → nat_lt most_clocks (clocks + clocks_of line.line) ≡ t → if◌then◌else◌ {A = Result RankLine ℕ} t (Err 10) (Ok line) ≡ Ok found → IsWithin clocks (Ok line) found
    go true many k = absurd cc
    go false few k =
        let same : line ≡ found = cc in
        record {
          reads = ap Ok same;
          short = subst (λ (l : RankLine). clocks + clocks_of l.line ≤ most_clocks) same (ltb-false most_clocks (clocks + clocks_of line.line) few);
        }

pub record IsTaken (g : Shape) (lines clocks : ℕ) (text : List ℕ) (found : RankLine) : Type 0 where
  pub few : lines < most_lines
  pub within : IsWithin clocks (rank_line_of g text) found

pub judged_ok : (g : Shape) (lines clocks : ℕ) (text : List ℕ) (found : RankLine) → judged_line g lines clocks text ≡ Ok found → IsTaken g lines clocks text found
unfolding judged_line
judged_ok g lines clocks text found e = go (nat_le most_lines lines) refl (is_long text) e
  where
    go : (t : Bool) → nat_le most_lines lines ≡ t → (u : Bool) → (if t then Err 9 else if u then Err 7 else within clocks (rank_line_of g text)) ≡ Ok found → IsTaken g lines clocks text found
    go true few u k = absurd cc
    go false few true k = absurd cc
    go false few false k = record { few = leb-false most_lines lines few; within = within_ok clocks (rank_line_of g text) found k }

pub steps_on : (it old new : Place) (next : Next) (line : RankLine) → old.shape ≡ it.shape → old.lines ≡ it.lines → old.clocks ≡ it.clocks → old.reader.last ≡ Text
    → Judges (judged_line it.shape it.lines it.clocks old.reader.line) old new next → next ≡ LineNext line → IsInside it.shape line.line → StepsOn it new line
steps_on it old new next line a b d last judges is inside = go (judged_line it.shape it.lines it.clocks old.reader.line) refl judges
  where
    go : (judged : Result RankLine ℕ) → judged_line it.shape it.lines it.clocks old.reader.line ≡ judged → Judges judged old new next → StepsOn it new line
    go (Err reason) e j = absurd (let same = sym is ∙ j.0 in cc)
    go (Ok found) e j =
        let same : line ≡ found = (let both = sym is ∙ j.0 in cc) in
        let ok = judged_ok it.shape it.lines it.clocks old.reader.line found e in
        record {
          inside = inside;
          shape = ap (λ (p : Place). p.shape) j.1 ∙ a;
          lines = ap (λ (p : Place). p.lines) j.1 ∙ ap (λ (n : ℕ). n + 1) b;
          clocks = ap (λ (p : Place). p.clocks) j.1 ∙ ap (λ (n : ℕ). n + clocks_of found.line) d ∙ ap (λ (l : RankLine). it.clocks + clocks_of l.line) (sym same);
          few = ok.few;
          short = subst (λ (l : RankLine). it.clocks + clocks_of l.line ≤ most_clocks) (sym same) ok.within.short;
          last = ap (λ (p : Place). p.reader.last) j.1 ∙ last;
        }

-- ---- How a line is judged

pub judges_many : (it : Place) → most_lines ≤ it.lines → Judges (judged_line it.shape it.lines it.clocks it.reader.line) it it (RefusedNext 9)
unfolding judged_line
judges_many it many = let t = le-leb most_lines it.lines many in rw t (refl, refl)

pub judges_read : (it new : Place) (next : Next) (read : Result RankLine LineFault) → it.lines < most_lines → length it.reader.line < 512 → read ≡ rank_line_of it.shape it.reader.line
    → Judges (within it.clocks read) it new next → Judges (judged_line it.shape it.lines it.clocks it.reader.line) it new next
unfolding judged_line
judges_read it new next read few fits is judges =
    let t = lt-leb most_lines it.lines few in
    let u : is_long it.reader.line ≡ false = le-ltb 511 (length it.reader.line) (omega (arith, fits)) in
    rw (t, u, ← is) judges

-- a line that lets too many clocks pass, and one that does not
pub judges_within : (old new : Place) (next : Next) (line : RankLine) → old.clocks + clocks_of line.line ≤ most_clocks
    → next ≡ LineNext line → new ≡ record old { lines = old.lines + 1; clocks = old.clocks + clocks_of line.line } → Judges (within old.clocks (Ok line)) old new next
judges_within old new next line short is became = let t = le-ltb most_clocks (old.clocks + clocks_of line.line) short in rw t (is, became)

pub judges_over : (old : Place) (line : RankLine) → most_clocks < old.clocks + clocks_of line.line → Judges (within old.clocks (Ok line)) old old (RefusedNext 10)
judges_over old line many = let t = lt-ltb most_clocks (old.clocks + clocks_of line.line) many in rw t (refl, refl)

-- ---- No line more

rest_long : (lines : ℕ) (part : List ℕ) → is_long part ≡ true → judged_rest lines part ≡ Some (unless_full lines 7)
unfolding judged_rest
rest_long lines [] is = absurd cc
rest_long lines (byte ∷ bytes) is = rw is refl

rest_short : (lines : ℕ) (part : List ℕ) → 1 ≤ length part → is_long part ≡ false → judged_rest lines part ≡ Some (unless_full lines 8)
unfolding judged_rest
rest_short lines [] some is = absurd (omega arith)
rest_short lines (byte ∷ bytes) some is = rw is refl

line_long : (g : Shape) (lines clocks : ℕ) (text : List ℕ) → is_long text ≡ true → judged_line g lines clocks text ≡ Err (unless_full lines 7)
unfolding judged_line
line_long g lines clocks text is = go (nat_le most_lines lines) refl
  where
    go : (t : Bool) → nat_le most_lines lines ≡ t → judged_line g lines clocks text ≡ Err (unless_full lines 7)
    go true e = rw e refl
    go false e = rw (e, is) refl

-- nothing but this refusal is left
abbrev left_with : Option ℕ → Traced
left_with refused = record { lines = []; refused = refused }

long_first : (it : Place) (part : List ℕ) (parts : List (List ℕ)) → is_long part ≡ true → lines_in it.shape it.lines it.clocks (part ∷ parts) ≡ left_with (Some (unless_full it.lines 7))
long_first it part [] is = ap left_with (rest_long it.lines part is)
long_first it part (next ∷ parts) is =
    let judged = line_long it.shape it.lines it.clocks part is in
    rw judged refl

pub step_long : LinesAreParts → (it new : Place) (before after later : Option (List ℕ)) (text : List ℕ) → IsNextLine before after text TooLong → IsStep it new before later (RefusedNext (unless_full it.lines 7))
step_long law it new None after later text found = tt
step_long law it new (Some bytes) after later text found =
    let (part, more, split, is) = law.too_long bytes text after found in
    ap (lines_in it.shape it.lines it.clocks) split ∙ long_first it part more is

pub step_unended : LinesAreParts → (it new : Place) (before after later : Option (List ℕ)) (text : List ℕ) → IsNextLine before after text Unended → IsStep it new before later (RefusedNext (unless_full it.lines 8))
step_unended law it new None after later text found = tt
step_unended law it new (Some bytes) after later text found =
    let (split, some, is) = law.unended bytes text after found in
    ap (lines_in it.shape it.lines it.clocks) split
    ∙ ap left_with (rest_short it.lines bytes some is)

at_end : (it new : Place) (bytes after : List ℕ) → parts_of bytes ≡ [] ∷ [] → after ≡ [] → IsStep it new (Some bytes) (Some after) EndNext
unfolding judged_rest
at_end it new bytes after none all = (ap Some all, rw none refl)

pub step_end : LinesAreParts → (it new : Place) (before after : Option (List ℕ)) (text : List ℕ) → IsNextLine before after text End → IsStep it new before after EndNext
step_end law it new None after text found = tt
step_end law it new (Some bytes) None text found = absurd found.1
step_end law it new (Some bytes) (Some left) text found = at_end it new bytes left (law.at_end bytes text (Some left) found) (found.1 ∙ found.0)
