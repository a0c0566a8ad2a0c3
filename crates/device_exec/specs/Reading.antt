-- How the lines of a script are read, behind its opening. `docs/FORMATS.md` has the same in words.
use Rattle.std.specs.Prelude.{ℕ, suc, ◌≡◌, ◌+◌, ◌≤◌, ⊤, nat_lt, if◌then◌else◌, List, [], ◌∷◌, Some, None, Result, Ok, Err}
use Rattle.std.specs.declared.option.Option.{Option}
use Rattle.command_words.specs.Geometry.{Shape}
use Rattle.command_words.specs.Kinds.{is_wr}
use Rattle.ddr_io.specs.Reading.{Reading as ReaderOfLines}
use Rattle.ddr_io.specs.declared.line_reader.Line.TheVariants.{Text as TextAnswer}
use Rattle.ddr_text.specs.Opening.{parts_of, is_long}
use Rattle.ddr_text.specs.Reason.{fault_reason, number_of}
use Rattle.ddr_text.specs.ReportParts.{Refusal}
use Rattle.ddr_text.specs.declared.lines.LineFault.{LineFault}
use Rattle.ddr_text.specs.declared.reason.Reason.TheVariants.{LineOutOfPlace, LineTooLong, LineUnended, NoEndLine, TooManyLines}
use Rattle.device_exec.specs.ScriptGrammar.{IsScriptLine, script_line_of}
use Rattle.device_exec.specs.declared.script_line.ScriptLine.{ScriptLine}
use Rattle.device_exec.specs.declared.script_line.ScriptLine.TheVariants.{Issued, Bytes, Flip, End}
use Rattle.device_exec.specs.declared.script_reader.Next.{Next}
use Rattle.device_exec.specs.declared.script_reader.Next.TheVariants.{Line, End as AtEnd, Refused as Refuses, Failed}
use Rattle.device_exec.specs.declared.script_reader.Stage.{Stage}
use Rattle.device_exec.specs.declared.script_reader.Stage.TheVariants.{Body, Awaits, Ended}

-- ---- Places

-- the stage behind a line, if the line may stand at this one: a B line stands behind a WR and only there, and nothing behind
-- the E line
abbrev pub stage_after : Stage → ScriptLine → Option Stage
stage_after Body (Issued clock command) = Some (if is_wr command then Awaits else Body)
stage_after Body (Bytes bytes) = None
stage_after Body (Flip line device bit) = Some Body
stage_after Body (End clock) = Some (Ended clock)
stage_after Awaits (Issued clock command) = None
stage_after Awaits (Bytes bytes) = Some Body
stage_after Awaits (Flip line device bit) = None
stage_after Awaits (End clock) = None
stage_after (Ended clock) line = None

-- the clock of the E line, or the reason to refuse a script that ends without one
abbrev pub end_at : Stage → Result ℕ ℕ
end_at Body = Err (number_of NoEndLine)
end_at Awaits = Err (number_of NoEndLine)
end_at (Ended clock) = Ok clock

-- ---- Lines

-- a script has at most so many lines behind its opening
abbrev pub most_lines : ℕ
most_lines = 4294967295

-- a line, and the stage behind it
pub record Placed : Type 0 where
  pub line : ScriptLine
  pub stage : Stage

-- the line, where it may stand
abbrev pub placed : ScriptLine → Option Stage → Result Placed ℕ
placed line None = Err (number_of LineOutOfPlace)
placed line (Some stage) = Ok (record { line = line; stage = stage })

abbrev pub in_place : Stage → Result ScriptLine LineFault → Result Placed ℕ
in_place stage (Err fault) = Err (fault_reason fault)
in_place stage (Ok line) = placed line (stage_after stage line)

-- the line with this number that a text spells, or the reason to refuse it: too many lines, a long one, one that is not in
-- the grammar, or one that may not stand there
unfoldable pub judged_line : Shape → ℕ → Stage → ℕ → List ℕ → Result Placed ℕ
judged_line g devices stage number text =
    if nat_lt most_lines number then Err (number_of TooManyLines)
    else if is_long text then Err (number_of LineTooLong)
    else in_place stage (script_line_of g devices text)

-- What is behind the last line feed. Nothing: the clock of the E line, or the reason that there is none. Some bytes: the
-- reason to refuse them (too many lines, a long one, or a line without its line feed).
unfoldable pub judged_rest : Stage → ℕ → List ℕ → Result ℕ ℕ
judged_rest stage number [] = end_at stage
judged_rest stage number (byte ∷ bytes) =
    Err (if nat_lt most_lines number then number_of TooManyLines else if is_long (byte ∷ bytes) then number_of LineTooLong else number_of LineUnended)

-- ---- Scripts

-- the lines of a script as far as they are read, and how it ends behind them: the clock of its E line, or a refusal
pub record Lines : Type 0 where
  pub lines : List ScriptLine
  pub ending : Result ℕ Refusal

abbrev pub ending_at : ℕ → Result ℕ ℕ → Result ℕ Refusal
ending_at number (Ok clock) = Ok clock
ending_at number (Err reason) = Err (record { line = number; reason = reason })

-- one line more in front
abbrev pub with_line : ScriptLine → Lines → Lines
with_line line rest = record { lines = line ∷ rest.lines; ending = rest.ending }

abbrev pub behind_line : ℕ → Result Placed ℕ → Lines → Lines
behind_line number (Ok found) rest = with_line found.line rest
behind_line number (Err reason) rest = record { lines = []; ending = ending_at number (Err reason) }

abbrev pub stage_behind : Stage → Result Placed ℕ → Stage
stage_behind stage (Ok found) = found.stage
stage_behind stage (Err reason) = stage

-- the lines of a script in its parts, from this stage and line number on
abbrev pub lines_in : Shape → ℕ → Stage → ℕ → List (List ℕ) → Lines
lines_in g devices stage number [] = record { lines = []; ending = ending_at number (end_at stage) }
lines_in g devices stage number (rest ∷ []) = record { lines = []; ending = ending_at number (judged_rest stage number rest) }
lines_in g devices stage number (text ∷ next ∷ parts) =
    behind_line number (judged_line g devices stage number text) (lines_in g devices (stage_behind stage (judged_line g devices stage number text)) (suc number) (next ∷ parts))

-- ---- A reader

-- what a contract sees of a reader of a script: its reader of lines, the shape of the subchannel, how many devices there are,
-- and the stage and the number of the next line
pub record Place : Type 0 where
  pub reader : ReaderOfLines
  pub shape : Shape
  pub devices : ℕ
  pub stage : Stage
  pub number : ℕ

-- the lines that are left in bytes
abbrev pub lines_left : Place → List ℕ → Lines
lines_left it bytes = lines_in it.shape it.devices it.stage it.number (parts_of bytes)

-- behind a line the reader goes on
pub record StepsOn (old new : Place) (line : ScriptLine) : Type 0 where
  pub inside : IsScriptLine old.shape old.devices line
  pub stage : stage_after old.stage line ≡ Some new.stage
  pub number : new.number ≡ old.number + 1
  pub few : old.number ≤ most_lines
  pub shape : new.shape ≡ old.shape
  pub devices : new.devices ≡ old.devices
  pub last : new.reader.last ≡ TextAnswer

-- What comes next, by the next bytes before and after it.
abbrev pub IsStep : Place → Place → Option (List ℕ) → Option (List ℕ) → Next → Type 0
IsStep old new None after next = ⊤
IsStep old new (Some bytes) after (Line line) = (rest : List ℕ) × (after ≡ Some rest) × (lines_left old bytes ≡ with_line line (lines_left new rest))
IsStep old new (Some bytes) after (AtEnd clock) = (after ≡ Some []) × (lines_left old bytes ≡ record { lines = []; ending = Ok clock })
IsStep old new (Some bytes) after (Refuses number reason) = lines_left old bytes ≡ record { lines = []; ending = ending_at number (Err reason) }
IsStep old new (Some bytes) after Failed = ⊤

-- ---- Steps of a reader

-- a line that is judged so: it is taken, or refused
abbrev pub Judges : Result Placed ℕ → Place → Place → Next → Type 0
Judges (Ok found) old new next = (next ≡ Line found.line) × (new ≡ record old { stage = found.stage; number = old.number + 1 })
Judges (Err reason) old new next = (next ≡ Refuses old.number reason) × (new ≡ old)

-- what the end is
abbrev pub end_next : ℕ → Result ℕ ℕ → Next
end_next number (Ok clock) = AtEnd clock
end_next number (Err reason) = Refuses number reason
