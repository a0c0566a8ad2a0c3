-- What a job for two ranks says behind its opening: its trace, which is its lines from the first on, and the reason to
-- refuse the line behind them. `docs/FORMATS.md` has the same in words.
use Rattle.std.specs.Prelude.{ℕ, suc, ◌≡◌, ◌≤◌, ◌+◌, ◌⊎◌, nat_le, nat_lt, if◌then◌else◌, List, [], ◌∷◌, ◌++◌, length, sum, Some, None, Result, Ok, Err}
use Rattle.std.specs.declared.option.Option.{Option}
use Rattle.command_words.specs.Geometry.{Shape}
use Rattle.ddr_text.specs.Opening.{Accepts, IsReason, Refuses, States, is_long, opening_of, parts_of}
use Rattle.ddr_text.specs.Reason.{fault_reason, number_of}
use Rattle.ddr_text.specs.declared.lines.LineFault.{LineFault}
use Rattle.ddr_text.specs.declared.lines.TraceLine.{TraceLine}
use Rattle.ddr_text.specs.declared.lines.TraceLine.TheVariants.{Read, Write, Flip, Idle}
use Rattle.ddr_text.specs.declared.reason.Reason.TheVariants.{LineTooLong, LineUnended, TooManyClocks, TooManyLines}
use Rattle.speed_bin.specs.Header.{IsAccepted, shape_of}
use Rattle.speed_bin.specs.declared.header.Header.{Header}
use Rattle.pair_deadlines.specs.Budget.{HasTime}
use Rattle.pair_reports.specs.Grammar.{rank_line_of}
use Rattle.pair_reports.specs.Lines.{lines_of}
use Rattle.pair_reports.specs.declared.rank_line.RankLine.{RankLine}
use Rattle.reports.specs.Barriers.{idle_clocks}
use Rattle.reports.specs.Delivered.{AreInside}

-- a trace has at most so many lines, of both ranks together
abbrev pub most_lines : ℕ
most_lines = 1048576

-- its I lines let at most so many clocks pass
abbrev pub most_clocks : ℕ
most_clocks = 4294967296

-- two ranks have no time for their refreshes: the reason to refuse an opening that says so
abbrev pub no_time : ℕ
no_time = 30

-- ---- One line

-- the clocks that a line lets pass
abbrev pub clocks_of : TraceLine → ℕ
clocks_of (Read line) = 0
clocks_of (Write line bytes) = 0
clocks_of (Flip line device bit) = 0
clocks_of (Idle clocks) = clocks

-- the line that was read, where its clocks may pass too
abbrev pub within : ℕ → Result RankLine LineFault → Result RankLine ℕ
within clocks (Ok it) = if nat_lt most_clocks (clocks + clocks_of it.line) then Err (number_of TooManyClocks) else Ok it
within clocks (Err fault) = Err (fault_reason fault)

-- The line that a text spells behind so many lines, whose I lines let so many clocks pass; or the first reason to refuse it.
unfoldable pub judged_line : Shape → ℕ → ℕ → List ℕ → Result RankLine ℕ
judged_line g lines clocks text =
    if nat_le most_lines lines then Err (number_of TooManyLines)
    else if is_long text then Err (number_of LineTooLong)
    else within clocks (rank_line_of g text)

-- what has no line feed behind it is refused, where it has a byte
unfoldable pub judged_rest : ℕ → List ℕ → Option ℕ
judged_rest lines [] = None
judged_rest lines (byte ∷ bytes) =
    Some (if nat_le most_lines lines then number_of TooManyLines else if is_long (byte ∷ bytes) then number_of LineTooLong else number_of LineUnended)

-- ---- All lines

-- the lines, and the reason to refuse the line behind them, where there is one
pub record Traced : Type 0 where
  pub lines : List RankLine
  pub refused : Option ℕ

-- these lines in front
abbrev pub in_front : List RankLine → Traced → Traced
in_front trace rest = record { lines = trace ++ rest.lines; refused = rest.refused }

abbrev pub with_line : RankLine → Traced → Traced
with_line it rest = record { lines = it ∷ rest.lines; refused = rest.refused }

abbrev pub behind_line : Result RankLine ℕ → (RankLine → Traced) → Traced
behind_line (Ok it) go_on = with_line it (go_on it)
behind_line (Err reason) go_on = record { lines = []; refused = Some reason }

-- the lines in these parts of a text, behind so many lines with so many clocks
abbrev pub lines_in : Shape → ℕ → ℕ → List (List ℕ) → Traced
lines_in g lines clocks [] = record { lines = []; refused = None }
lines_in g lines clocks (rest ∷ []) = record { lines = []; refused = judged_rest lines rest }
lines_in g lines clocks (text ∷ next ∷ parts) =
    behind_line (judged_line g lines clocks text) (λ it. lines_in g (suc lines) (clocks + clocks_of it.line) (next ∷ parts))

-- the trace that bytes spell
abbrev pub trace_of : Shape → List ℕ → Traced
trace_of g bytes = lines_in g 0 0 (parts_of bytes)

-- ---- A whole job

-- The known bytes open a job with this header, with which two ranks have time for their refreshes, and with this text; behind
-- it stand this trace and this refusal.
abbrev pub IsPairJobOf : Option (List ℕ) → Header → List ℕ → List RankLine → Option ℕ → Type 0
IsPairJobOf None h text trace refused = IsAccepted h × HasTime h × States text h
IsPairJobOf (Some bytes) h text trace refused =
    (rest : List ℕ) × (opening_of bytes ≡ Accepts h text rest) × HasTime h
    × (trace_of (shape_of h) rest ≡ record { lines = trace; refused = refused })

-- an opening that is accepted otherwise, with which two ranks have no time
abbrev pub HasNoTime : List ℕ → Type 0
HasNoTime bytes = (h : Header) × (text : List ℕ) × (rest : List ℕ) × (opening_of bytes ≡ Accepts h text rest) × (HasTime h → ⊥)

-- the opening of the known bytes is refused with this reason
abbrev pub IsNoPairJob : Option (List ℕ) → ℕ → Type 0
IsNoPairJob None reason = IsReason reason ⊎ (reason ≡ no_time)
IsNoPairJob (Some bytes) reason = (opening_of bytes ≡ Refuses reason) ⊎ ((reason ≡ no_time) × HasNoTime bytes)

-- a trace within its limits: its lines are of the subchannel, not too many, and the sum of its I lines is not too great
pub record IsPairTrace (g : Shape) (trace : List RankLine) : Type 0 where
  pub inside : AreInside g (lines_of trace)
  pub few : length trace ≤ most_lines
  pub idle : sum (idle_clocks (lines_of trace)) ≤ most_clocks
