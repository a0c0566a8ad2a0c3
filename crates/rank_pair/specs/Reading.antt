-- How the lines of a trace of two ranks are read, one after another.
use Rattle.std.specs.Prelude.{ℕ, ⊤, ◌≡◌, ◌+◌, ◌<◌, ◌≤◌, nat_le, if◌then◌else◌, List, [], Some, None, Result, Ok, Err}
use Rattle.std.specs.declared.option.Option.{Option}
use Rattle.command_words.specs.Geometry.{Shape}
use Rattle.ddr_io.specs.Reading.{Reading as ReaderOfLines}
use Rattle.ddr_io.specs.declared.line_reader.Line.TheVariants.{Text as TextAnswer}
use Rattle.ddr_text.specs.Opening.{parts_of}
use Rattle.ddr_text.specs.Reason.{number_of}
use Rattle.ddr_text.specs.declared.reason.Reason.TheVariants.{TooManyLines}
use Rattle.reports.specs.Delivered.{IsInside}
use Rattle.pair_reports.specs.declared.rank_line.RankLine.{RankLine}
use Rattle.rank_pair.specs.Job.{Traced, clocks_of, in_front, lines_in, most_clocks, most_lines, trace_of, with_line}
use Rattle.rank_pair.specs.declared.rank_reader.Next.{Next}
use Rattle.rank_pair.specs.declared.rank_reader.Next.TheVariants.{Line, End, Refused, Failed}

-- what a contract sees of a reader of a trace: its reader of lines, the shape of the subchannel, how many lines were taken,
-- and how many clocks their I lines let pass
pub record Place : Type 0 where
  pub reader : ReaderOfLines
  pub shape : Shape
  pub lines : ℕ
  pub clocks : ℕ

-- the lines that are left in bytes
abbrev pub lines_left : Place → List ℕ → Traced
lines_left it bytes = lines_in it.shape it.lines it.clocks (parts_of bytes)

-- behind a line the reader goes on
pub record StepsOn (old new : Place) (it : RankLine) : Type 0 where
  pub inside : IsInside old.shape it.line
  pub shape : new.shape ≡ old.shape
  pub lines : new.lines ≡ old.lines + 1
  pub clocks : new.clocks ≡ old.clocks + clocks_of it.line
  pub few : old.lines < most_lines
  pub short : old.clocks + clocks_of it.line ≤ most_clocks
  pub last : new.reader.last ≡ TextAnswer

-- What comes next, by the next bytes before and after it.
abbrev pub IsStep : Place → Place → Option (List ℕ) → Option (List ℕ) → Next → Type 0
IsStep old new None after next = ⊤
IsStep old new (Some bytes) after (Line it) = (rest : List ℕ) × (after ≡ Some rest) × (lines_left old bytes ≡ with_line it (lines_left new rest))
IsStep old new (Some bytes) after End = (after ≡ Some []) × (lines_left old bytes ≡ record { lines = []; refused = None })
IsStep old new (Some bytes) after (Refused reason) = lines_left old bytes ≡ record { lines = []; refused = Some reason }
IsStep old new (Some bytes) after Failed = ⊤

-- ---- Steps of a reader

-- a line that is judged so: it is taken, or refused
abbrev pub Judges : Result RankLine ℕ → Place → Place → Next → Type 0
Judges (Ok it) old new next = (next ≡ Line it) × (new ≡ record old { lines = old.lines + 1; clocks = old.clocks + clocks_of it.line })
Judges (Err reason) old new next = (next ≡ Refused reason) × (new ≡ old)

-- a line too many comes first
abbrev pub unless_full : ℕ → ℕ → ℕ
unless_full lines reason = if nat_le most_lines lines then number_of TooManyLines else reason

-- ---- From the start

-- The trace that the known bytes spell is these lines, and then those that are left.
abbrev pub IsBehind : Option (List ℕ) → List RankLine → Place → Option (List ℕ) → Type 0
IsBehind None trace it left = ⊤
IsBehind (Some bytes) trace it None = ⊥
IsBehind (Some bytes) trace it (Some left) = trace_of it.shape bytes ≡ in_front trace (lines_left it left)
