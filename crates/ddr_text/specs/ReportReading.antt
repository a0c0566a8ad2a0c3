-- How the lines of a report are read, behind its opening. `docs/FORMATS.md` has the same in words.
use Rattle.std.specs.Prelude.{ℕ, suc, ◌≡◌, ◌+◌, ◌≤◌, ⊤, nat_lt, Bool, true, false, if◌then◌else◌, List, [], ◌∷◌, Some, None, Result, Ok, Err}
use Rattle.std.specs.declared.option.Option.{Option}
use Rattle.command_words.specs.Geometry.{Shape}
use Rattle.ddr_io.specs.Reading.{Reading as ReaderOfLines}
use Rattle.ddr_io.specs.declared.line_reader.Line.TheVariants.{Text as TextAnswer}
use Rattle.ddr_text.specs.AcceptedReport.{IsReportLine}
use Rattle.ddr_text.specs.Opening.{parts_of, is_long}
use Rattle.ddr_text.specs.Reason.{fault_reason, number_of}
use Rattle.ddr_text.specs.ReportGrammar.{report_line_of}
use Rattle.ddr_text.specs.ReportParts.{Refusal}
use Rattle.ddr_text.specs.declared.lines.LineFault.{LineFault}
use Rattle.ddr_text.specs.declared.lines.ReportLine.{ReportLine}
use Rattle.ddr_text.specs.declared.lines.ReportLine.TheVariants.{Issued, Value, Flip, Stat, End, Refused}
use Rattle.ddr_text.specs.declared.reason.Reason.TheVariants.{LineOutOfPlace, LineTooLong, LineUnended, NoEndLine, TooManyLines}
use Rattle.ddr_text.specs.declared.report_reader.Next.{Next}
use Rattle.ddr_text.specs.declared.report_reader.Next.TheVariants.{Line, End as AtEnd, Refused as Refuses, Failed}
use Rattle.ddr_text.specs.declared.report_reader.Stage.{Stage}
use Rattle.ddr_text.specs.declared.report_reader.Stage.TheVariants.{Body, Counts, Ended, Closed}

-- ---- Places

-- the stage behind a line, if the line may stand at this one: C, D and F lines in any order, then S lines, then one E
-- line, then at most one X line
abbrev pub stage_after : Stage → ReportLine → Option Stage
stage_after Body (Issued clock command) = Some Body
stage_after Body (Value number line bytes state) = Some Body
stage_after Body (Flip clock line device bit) = Some Body
stage_after Body (Stat name number) = Some Counts
stage_after Body (End clock) = Some Ended
stage_after Counts (Stat name number) = Some Counts
stage_after Counts (End clock) = Some Ended
stage_after Ended (Refused line reason) = Some Closed
stage_after stage line = None

-- the report may end behind its E line, or behind its X line
abbrev pub is_whole : Stage → Bool
is_whole Body = false
is_whole Counts = false
is_whole Ended = true
is_whole Closed = true

-- ---- Lines

-- a report has at most so many lines behind its opening
abbrev pub most_lines : ℕ
most_lines = 4294967295

-- a line, and the stage behind it
pub record Placed : Type 0 where
  pub line : ReportLine
  pub stage : Stage

-- the line, where it may stand
abbrev pub placed : ReportLine → Option Stage → Result Placed ℕ
placed line None = Err (number_of LineOutOfPlace)
placed line (Some stage) = Ok (record { line = line; stage = stage })

abbrev pub in_place : Stage → Result ReportLine LineFault → Result Placed ℕ
in_place stage (Err fault) = Err (fault_reason fault)
in_place stage (Ok line) = placed line (stage_after stage line)

-- the line with this number that a text spells, or the reason to refuse it: too many lines, a long one, one that is not in
-- the grammar, or one that may not stand there
unfoldable pub judged_line : Shape → Stage → ℕ → List ℕ → Result Placed ℕ
judged_line g stage number text =
    if nat_lt most_lines number then Err (number_of TooManyLines)
    else if is_long text then Err (number_of LineTooLong)
    else in_place stage (report_line_of g text)

-- what is behind the last line feed: nothing, where the report is whole, or the reason to refuse it (too many lines, a long
-- one, a line without its line feed, or no E line)
unfoldable pub judged_rest : Stage → ℕ → List ℕ → Option ℕ
judged_rest stage number [] = if is_whole stage then None else Some (number_of NoEndLine)
judged_rest stage number (byte ∷ bytes) = Some (if nat_lt most_lines number then number_of TooManyLines else if is_long (byte ∷ bytes) then number_of LineTooLong else number_of LineUnended)

-- ---- Reports

-- the lines of a report as far as they are read, and the refusal behind them, where there is one
pub record Lines : Type 0 where
  pub lines : List ReportLine
  pub refusal : Option Refusal

abbrev pub refusal_at : ℕ → Option ℕ → Option Refusal
refusal_at number None = None
refusal_at number (Some reason) = Some (record { line = number; reason = reason })

-- one line more in front
abbrev pub with_line : ReportLine → Lines → Lines
with_line line rest = record { lines = line ∷ rest.lines; refusal = rest.refusal }

abbrev pub behind_line : ℕ → Result Placed ℕ → Lines → Lines
behind_line number (Ok found) rest = with_line found.line rest
behind_line number (Err reason) rest = record { lines = []; refusal = refusal_at number (Some reason) }

abbrev pub stage_behind : Stage → Result Placed ℕ → Stage
stage_behind stage (Ok found) = found.stage
stage_behind stage (Err reason) = stage

-- the lines of a report in its parts, from this stage and line number on
abbrev pub lines_in : Shape → Stage → ℕ → List (List ℕ) → Lines
lines_in g stage number [] = record { lines = []; refusal = None }
lines_in g stage number (rest ∷ []) = record { lines = []; refusal = refusal_at number (judged_rest stage number rest) }
lines_in g stage number (text ∷ next ∷ parts) =
    behind_line number (judged_line g stage number text) (lines_in g (stage_behind stage (judged_line g stage number text)) (suc number) (next ∷ parts))

-- the lines behind an opening
abbrev pub lines_behind : Shape → List ℕ → Lines
lines_behind g bytes = lines_in g Body 1 (parts_of bytes)

-- ---- A reader

-- what a contract sees of a reader of a report: its reader of lines, the shape of the subchannel, and the stage and the
-- number of the next line
pub record Place : Type 0 where
  pub reader : ReaderOfLines
  pub shape : Shape
  pub stage : Stage
  pub number : ℕ

-- the lines that are left in bytes
abbrev pub lines_left : Place → List ℕ → Lines
lines_left it bytes = lines_in it.shape it.stage it.number (parts_of bytes)

-- these lines in front
abbrev pub with_lines : List ReportLine → Lines → Lines
with_lines [] rest = rest
with_lines (line ∷ lines) rest = with_line line (with_lines lines rest)

-- of the lines that bytes at first have, these are read, and then come those that are left
abbrev pub LeftOf : (List ℕ → Lines) → Option (List ℕ) → List ReportLine → Place → Option (List ℕ) → Type 0
LeftOf lines_of None lines it left = ⊤
LeftOf lines_of (Some bytes) lines it None = ⊥
LeftOf lines_of (Some bytes) lines it (Some left) = lines_of bytes ≡ with_lines lines (lines_left it left)

-- behind a line the reader goes on
pub record StepsOn (old new : Place) (line : ReportLine) : Type 0 where
  pub inside : IsReportLine old.shape line
  pub stage : stage_after old.stage line ≡ Some new.stage
  pub number : new.number ≡ old.number + 1
  pub few : old.number ≤ most_lines
  pub shape : new.shape ≡ old.shape
  pub last : new.reader.last ≡ TextAnswer

-- What comes next, by the next bytes before and after it.
abbrev pub IsStep : Place → Place → Option (List ℕ) → Option (List ℕ) → Next → Type 0
IsStep old new None after next = ⊤
IsStep old new (Some bytes) after (Line line) = (rest : List ℕ) × (after ≡ Some rest) × (lines_left old bytes ≡ with_line line (lines_left new rest))
IsStep old new (Some bytes) after AtEnd = (after ≡ Some []) × (lines_left old bytes ≡ record { lines = []; refusal = None })
IsStep old new (Some bytes) after (Refuses number reason) = lines_left old bytes ≡ record { lines = []; refusal = refusal_at number (Some reason) }
IsStep old new (Some bytes) after Failed = ⊤

-- ---- Steps of a reader

-- a line that is judged so: it is taken, or refused
abbrev pub Judges : Result Placed ℕ → Place → Place → Next → Type 0
Judges (Ok found) old new next = (next ≡ Line found.line) × (new ≡ record old { stage = found.stage; number = old.number + 1 })
Judges (Err reason) old new next = (next ≡ Refuses old.number reason) × (new ≡ old)

-- the same, of a line that is read so
abbrev pub JudgesRead : Result ReportLine LineFault → Place → Place → Next → Type 0
JudgesRead read old new next = Judges (in_place old.stage read) old new next
