-- The next line of a script.
use Rattle.std.proofs.Common.{◌≡◌, ◌∙◌, ℕ, suc, ◌+◌, ◌<◌, ◌≤◌, Bool, true, false, if◌then◌else◌, nat_lt, List, [], ◌∷◌, length, refl, sym, ap, subst, arith, Option, Some, None, Result, Ok, Err}
use Rattle.std.proofs.lemmas.Bool.{le-ltb, lt-ltb, ltb-false}
use Rattle.command_words.specs.Geometry.{Shape}
use Rattle.ddr_io.specs.Line.{IsNextLine, next_bytes}
use Rattle.ddr_io.specs.Reading.{Reading as ReaderOfLines}
use Rattle.ddr_io.specs.declared.line_reader.Line.TheVariants.{Text, End, TooLong, Unended}
use Rattle.ddr_text.specs.Opening.{parts_of, is_long}
use Rattle.ddr_text.specs.Parts.{LinesAreParts}
use Rattle.ddr_text.specs.ReportParts.{Refusal}
use Rattle.ddr_text.specs.declared.lines.LineFault.{LineFault}
use Rattle.device_exec.specs.ScriptGrammar.{IsScriptLine, script_line_of}
use Rattle.device_exec.specs.declared.script_line.ScriptLine.{ScriptLine}
use Rattle.device_exec.specs.Reading.{IsStep, Judges, Lines, Place, Placed, StepsOn, behind_line, end_at, end_next, ending_at, in_place, placed, stage_after, judged_line, judged_rest, lines_in, lines_left, stage_behind, with_line}
use Rattle.device_exec.specs.declared.script_reader.Next.{Next}
use Rattle.device_exec.specs.declared.script_reader.Next.TheVariants.{Line as LineNext, End as EndNext, Refused as RefusedNext}
use Rattle.device_exec.specs.declared.script_reader.Stage.{Stage}
use Rattle.device_exec.specs.declared.script_reader.Stage.TheVariants.{Body, Awaits, Ended}
use Rattle.device_exec.specs.declared.script_reader.TheConstants.{MOST_LINES}

-- ---- The next line of a script

-- the lines that are left begin with the next line
line_left : LinesAreParts → (it : Place) (bytes rest text : List ℕ) → IsNextLine (Some bytes) (Some rest) text Text → lines_left it bytes
    ≡ behind_line it.number (judged_line it.shape it.devices it.stage it.number text) (lines_in it.shape it.devices (stage_behind it.stage (judged_line it.shape it.devices it.stage it.number text)) (suc it.number) (parts_of rest))
line_left law it bytes rest text found =
    let (next, more, split, behind, fits) = law.line bytes rest text found in
    rw (split, behind) refl

number_next : (n : ℕ) → suc n ≡ n + 1
number_next n = omega arith

judged_step : (it old new : Place) (judged : Result Placed ℕ) (bytes rest : List ℕ) (next : Next) → old.shape ≡ it.shape → old.devices ≡ it.devices → old.stage ≡ it.stage → old.number ≡ it.number
    → lines_left it bytes ≡ behind_line it.number judged (lines_in it.shape it.devices (stage_behind it.stage judged) (suc it.number) (parts_of rest))
    → Judges judged old new next → IsStep it new (Some bytes) (Some rest) next
judged_step it old new (Ok found) bytes rest next same_shape same_devices same_stage same_number left judges =
    subst (λ n. IsStep it new (Some bytes) (Some rest) n) (sym judges.0) (
      rest,
      refl,
      left ∙ ap (with_line found.line) (ap (λ n. lines_in it.shape it.devices found.stage n (parts_of rest)) (number_next it.number ∙ ap (λ n. n + 1) (sym same_number))
          ∙ ap (λ g. lines_in g it.devices found.stage (old.number + 1) (parts_of rest)) (sym same_shape)
          ∙ ap (λ d. lines_in old.shape d found.stage (old.number + 1) (parts_of rest)) (sym same_devices)
          ∙ ap (λ (p : Place). lines_left p rest) (sym judges.1)),
    )
judged_step it old new (Err reason) bytes rest next same_shape same_devices same_stage same_number left judges =
    subst (λ n. IsStep it new (Some bytes) (Some rest) n) (sym judges.0) (left ∙ ap (λ (n : ℕ). record { lines = []; ending = ending_at n (Err reason) }) (sym same_number))

reader_kept : (judged : Result Placed ℕ) (old new : Place) (next : Next) → Judges judged old new next → old.reader ≡ new.reader
reader_kept (Ok found) old new next judges = ap (λ (p : Place). p.reader) (sym judges.1)
reader_kept (Err reason) old new next judges = ap (λ (p : Place). p.reader) (sym judges.1)

pub step_text : LinesAreParts → (it old new : Place) (before left : Option (List ℕ)) (next : Next) → old.shape ≡ it.shape → old.devices ≡ it.devices → old.stage ≡ it.stage → old.number ≡ it.number
    → IsNextLine before (next_bytes old.reader.held left) old.reader.line Text → Judges (judged_line it.shape it.devices it.stage it.number old.reader.line) old new next → IsStep it new before (next_bytes new.reader.held left) next
step_text law it old new before left next a d b c found judges =
    subst (λ (r : ReaderOfLines). IsStep it new before (next_bytes r.held left) next) (reader_kept (judged_line it.shape it.devices it.stage it.number old.reader.line) old new next judges) (go before (next_bytes old.reader.held left) found)
  where
    go : (xs ys : Option (List ℕ)) → IsNextLine xs ys old.reader.line Text → IsStep it new xs ys next
    go None ys found = tt
    go (Some bytes) None found = absurd found.2
    go (Some bytes) (Some rest) found =
        judged_step it old new (judged_line it.shape it.devices it.stage it.number old.reader.line) bytes rest next a d b c (line_left law it bytes rest old.reader.line found) judges

-- ---- What is known of a line in its place

placed_ok : (line : ScriptLine) (o : Option Stage) (found : Placed) → placed line o ≡ Ok found → o ≡ Some found.stage
placed_ok line None found e = absurd cc
placed_ok line (Some stage) found e = let same : record { line = line; stage = stage } ≡ found = cc in ap (λ (p : Placed). Some p.stage) same

placed_line : (line : ScriptLine) (o : Option Stage) (found : Placed) → placed line o ≡ Ok found → line ≡ found.line
placed_line line None found e = absurd cc
placed_line line (Some stage) found e = let same : record { line = line; stage = stage } ≡ found = cc in ap (λ (p : Placed). p.line) same

in_place_ok : (stage : Stage) (read : Result ScriptLine LineFault) (found : Placed) → in_place stage read ≡ Ok found → stage_after stage found.line ≡ Some found.stage
in_place_ok stage (Ok line) found e = ap (stage_after stage) (sym (placed_line line (stage_after stage line) found e)) ∙ placed_ok line (stage_after stage line) found e
in_place_ok stage (Err fault) found e = absurd cc

-- where a line is taken, its text spells it
in_place_read : (stage : Stage) (read : Result ScriptLine LineFault) (found : Placed) → in_place stage read ≡ Ok found → read ≡ Ok found.line
in_place_read stage (Ok line) found e = ap (λ (l : ScriptLine). Ok l) (placed_line line (stage_after stage line) found e)
in_place_read stage (Err fault) found e = absurd cc

pub record IsTaken (g : Shape) (devices : ℕ) (stage : Stage) (number : ℕ) (text : List ℕ) (found : Placed) : Type 0 where
  pub few : number ≤ MOST_LINES
  pub stage_is : stage_after stage found.line ≡ Some found.stage
  pub reads : script_line_of g devices text ≡ Ok found.line

pub judged_ok : (g : Shape) (devices : ℕ) (stage : Stage) (number : ℕ) (text : List ℕ) (found : Placed) → judged_line g devices stage number text ≡ Ok found → IsTaken g devices stage number text found
unfolding judged_line
judged_ok g devices stage number text found e = go (nat_lt MOST_LINES number) refl (is_long text) e
  where
    go : (t : Bool) → nat_lt MOST_LINES number ≡ t → (u : Bool) → (if t then Err 9 else if u then Err 7 else in_place stage (script_line_of g devices text)) ≡ Ok found → IsTaken g devices stage number text found
    go true few u k = absurd cc
    go false few true k = absurd cc
    go false few false k = record {
      few = ltb-false MOST_LINES number few;
      stage_is = in_place_ok stage (script_line_of g devices text) found k;
      reads = in_place_read stage (script_line_of g devices text) found k;
    }

pub steps_on : (it old new : Place) (next : Next) (line : ScriptLine) → old.shape ≡ it.shape → old.devices ≡ it.devices → old.stage ≡ it.stage → old.number ≡ it.number → old.reader.last ≡ Text
    → Judges (judged_line it.shape it.devices it.stage it.number old.reader.line) old new next → next ≡ LineNext line → IsScriptLine it.shape it.devices line → StepsOn it new line
steps_on it old new next line a d b c last judges is inside = go (judged_line it.shape it.devices it.stage it.number old.reader.line) refl judges
  where
    go : (judged : Result Placed ℕ) → judged_line it.shape it.devices it.stage it.number old.reader.line ≡ judged → Judges judged old new next → StepsOn it new line
    go (Err reason) e j = absurd (let same = sym is ∙ j.0 in cc)
    go (Ok found) e j =
        let same : line ≡ found.line = (let both = sym is ∙ j.0 in cc) in
        let ok = judged_ok it.shape it.devices it.stage it.number old.reader.line found e in
        record {
          inside = inside;
          stage = ap (stage_after it.stage) same ∙ ok.stage_is ∙ ap (λ (p : Place). Some p.stage) (sym j.1);
          number = ap (λ (p : Place). p.number) j.1 ∙ ap (λ (n : ℕ). n + 1) c;
          few = ok.few;
          shape = ap (λ (p : Place). p.shape) j.1 ∙ a;
          devices = ap (λ (p : Place). p.devices) j.1 ∙ d;
          last = ap (λ (p : Place). p.reader.last) j.1 ∙ last;
        }

-- an answer that is judged is not the end
pub no_end : (judged : Result Placed ℕ) (old new : Place) (next : Next) (clock : ℕ) → Judges judged old new next → next ≡ EndNext clock → ⊥
no_end (Ok found) old new next clock judges e = let both = sym e ∙ judges.0 in cc
no_end (Err reason) old new next clock judges e = let both = sym e ∙ judges.0 in cc

-- ---- How a line is judged

pub judges_many : (it : Place) → MOST_LINES < it.number → Judges (judged_line it.shape it.devices it.stage it.number it.reader.line) it it (RefusedNext it.number 9)
unfolding judged_line
judges_many it many = let t = lt-ltb MOST_LINES it.number many in rw t (refl, refl)

pub judges_read : (it new : Place) (next : Next) (read : Result ScriptLine LineFault) → it.number ≤ MOST_LINES → length it.reader.line < 512 → read ≡ script_line_of it.shape it.devices it.reader.line → Judges (in_place it.stage read) it new next → Judges (judged_line it.shape it.devices it.stage it.number it.reader.line) it new next
unfolding judged_line
judges_read it new next read few fits is judges =
    let t = le-ltb MOST_LINES it.number few in
    let u : is_long it.reader.line ≡ false = le-ltb 511 (length it.reader.line) (omega (arith, fits)) in
    rw (t, u, ← is) judges

-- ---- No line more

-- a number that is one too many comes first
abbrev many : ℕ → ℕ → ℕ
many number reason = if nat_lt MOST_LINES number then 9 else reason

rest_long : (stage : Stage) (number : ℕ) (part : List ℕ) → is_long part ≡ true → judged_rest stage number part ≡ Err (many number 7)
unfolding judged_rest
rest_long stage number [] is = absurd cc
rest_long stage number (byte ∷ bytes) is = rw is refl

rest_short : (stage : Stage) (number : ℕ) (part : List ℕ) → 1 ≤ length part → is_long part ≡ false → judged_rest stage number part ≡ Err (many number 8)
unfolding judged_rest
rest_short stage number [] some is = absurd (omega arith)
rest_short stage number (byte ∷ bytes) some is = rw is refl

line_long : (g : Shape) (devices : ℕ) (stage : Stage) (number : ℕ) (text : List ℕ) → is_long text ≡ true → judged_line g devices stage number text ≡ Err (many number 7)
unfolding judged_line
line_long g devices stage number text is = go (nat_lt MOST_LINES number) refl
  where
    go : (t : Bool) → nat_lt MOST_LINES number ≡ t → judged_line g devices stage number text ≡ Err (many number 7)
    go true e = rw e refl
    go false e = rw (e, is) refl

-- nothing but this ending is left
abbrev left_with : ℕ → Result ℕ ℕ → Lines
left_with number judged = record { lines = []; ending = ending_at number judged }

long_first : (it : Place) (part : List ℕ) (parts : List (List ℕ)) → is_long part ≡ true → lines_in it.shape it.devices it.stage it.number (part ∷ parts) ≡ left_with it.number (Err (many it.number 7))
long_first it part [] is = ap (left_with it.number) (rest_long it.stage it.number part is)
long_first it part (next ∷ parts) is =
    let judged = line_long it.shape it.devices it.stage it.number part is in
    rw judged refl

pub step_long : LinesAreParts → (it new : Place) (before after later : Option (List ℕ)) (text : List ℕ) → IsNextLine before after text TooLong → IsStep it new before later (RefusedNext it.number (many it.number 7))
step_long law it new None after later text found = tt
step_long law it new (Some bytes) after later text found =
    let (part, more, split, is) = law.too_long bytes text after found in
    ap (lines_in it.shape it.devices it.stage it.number) split ∙ long_first it part more is

pub step_unended : LinesAreParts → (it new : Place) (before after later : Option (List ℕ)) (text : List ℕ) → IsNextLine before after text Unended → IsStep it new before later (RefusedNext it.number (many it.number 8))
step_unended law it new None after later text found = tt
step_unended law it new (Some bytes) after later text found =
    let (split, some, is) = law.unended bytes text after found in
    ap (lines_in it.shape it.devices it.stage it.number) split
    ∙ ap (left_with it.number) (rest_short it.stage it.number bytes some is)

at_end : (it new : Place) (judged : Result ℕ ℕ) (bytes after : List ℕ) → parts_of bytes ≡ [] ∷ [] → after ≡ [] → end_at it.stage ≡ judged → IsStep it new (Some bytes) (Some after) (end_next it.number judged)
unfolding judged_rest
at_end it new (Ok clock) bytes after none all e = (ap Some all, rw (none, e) refl)
at_end it new (Err reason) bytes after none all e = rw (none, e) refl

pub step_end : LinesAreParts → (it new : Place) (before after : Option (List ℕ)) (text : List ℕ) → IsNextLine before after text End → IsStep it new before after (end_next it.number (end_at it.stage))
step_end law it new None after text found = tt
step_end law it new (Some bytes) None text found = absurd found.1
step_end law it new (Some bytes) (Some left) text found = at_end it new (end_at it.stage) bytes left (law.at_end bytes text (Some left) found) (found.1 ∙ found.0) refl

-- the end is told behind the E line
pub ended_at : (stage : Stage) (number clock : ℕ) (next : Next) → next ≡ end_next number (end_at stage) → next ≡ EndNext clock → stage ≡ Ended clock
ended_at Body number clock next e f = let both = sym f ∙ e in absurd cc
ended_at Awaits number clock next e f = let both = sym f ∙ e in absurd cc
ended_at (Ended own) number clock next e f = let both : EndNext clock ≡ EndNext own = sym f ∙ e in let same : clock ≡ own = cc in ap Ended (sym same)
