-- What a job says behind its opening: its trace, which is its lines from the first on, and the reason to refuse the line
-- behind them. `docs/FORMATS.md` has the same in words.
use Rattle.std.specs.Prelude.{ℕ, ⊤, ◌≡◌, ◌≤◌, ◌+◌, ◌++◌, nat_le, nat_lt, Bool, if◌then◌else◌, List, [], ◌∷◌, length, sum, Some, None, Result, Ok, Err}
use Rattle.std.specs.declared.option.Option.{Option}
use Rattle.command_words.specs.Geometry.{Shape}
use Rattle.ddr_text.specs.Grammar.{trace_line_of}
use Rattle.ddr_text.specs.Reason.{fault_reason, number_of}
use Rattle.ddr_text.specs.Opening.{States, parts_of, is_long, IsReason, Accepts, Refuses, opening_of}
use Rattle.ddr_text.specs.declared.lines.LineFault.{LineFault}
use Rattle.ddr_text.specs.declared.lines.TraceLine.{TraceLine}
use Rattle.ddr_text.specs.declared.lines.TraceLine.TheVariants.{Read, Write, Flip, Idle}
use Rattle.ddr_text.specs.declared.reason.Reason.TheVariants.{LineTooLong, LineUnended, TooManyClocks, TooManyLines}
use Rattle.speed_bin.specs.Header.{IsAccepted, shape_of}
use Rattle.speed_bin.specs.declared.header.Header.{Header}
use Rattle.reports.specs.Barriers.{idle_clocks}
use Rattle.reports.specs.Delivered.{AreInside}

-- a trace has at most so many lines
abbrev pub MOST : ℕ
MOST = 1048576

-- ---- One line

-- the clocks that a line lets pass
abbrev pub clocks_of : TraceLine → ℕ
clocks_of (Read line) = 0
clocks_of (Write line bytes) = 0
clocks_of (Flip line device bit) = 0
clocks_of (Idle clocks) = clocks

-- the trace with this line more, or the reason to refuse it: the sum of the I lines
abbrev pub with_line : List TraceLine → TraceLine → Result (List TraceLine) ℕ
with_line trace line = if nat_lt 4294967296 (sum (idle_clocks trace) + clocks_of line) then Err (number_of TooManyClocks) else Ok (trace ++ line ∷ [])

abbrev pub if_read : List TraceLine → Result TraceLine LineFault → Result (List TraceLine) ℕ
if_read trace (Ok line) = with_line trace line
if_read trace (Err fault) = Err (fault_reason fault)

-- no more lines may follow
abbrev pub is_full : List TraceLine → Bool
is_full trace = nat_le MOST (length trace)

-- the trace with the line more that a text spells, or the first reason to refuse it
abbrev pub with_text : Shape → List TraceLine → List ℕ → Result (List TraceLine) ℕ
with_text g trace text = if is_full trace then Err (number_of TooManyLines) else if_read trace (trace_line_of g text)

-- the same, where the text may be too long
abbrev pub with_part : Shape → List TraceLine → List ℕ → Result (List TraceLine) ℕ
with_part g trace part = if is_full trace then Err (number_of TooManyLines) else if is_long part then Err (number_of LineTooLong) else if_read trace (trace_line_of g part)

-- the trace with the line that was found, or the reason that there is none
abbrev pub extended : List TraceLine → Result TraceLine ℕ → Result (List TraceLine) ℕ
extended trace (Ok line) = Ok (trace ++ line ∷ [])
extended trace (Err reason) = Err reason

-- ---- All lines

-- the lines, and the reason to refuse the line behind them, where there is one
pub record Traced : Type 0 where
  pub lines : List TraceLine
  pub refused : Option ℕ

abbrev pub ended : List TraceLine → Traced
ended trace = record { lines = trace; refused = None }

abbrev pub refused_behind : List TraceLine → ℕ → Traced
refused_behind trace reason = record { lines = trace; refused = Some reason }

-- what has no line feed behind it is refused, where it has a byte
abbrev pub at_end : List TraceLine → List ℕ → Traced
at_end trace [] = ended trace
at_end trace (byte ∷ bytes) = refused_behind trace (if is_full trace then number_of TooManyLines else if is_long (byte ∷ bytes) then number_of LineTooLong else number_of LineUnended)

abbrev pub continued : List TraceLine → Result (List TraceLine) ℕ → (List TraceLine → Traced) → Traced
continued trace (Ok longer) go_on = go_on longer
continued trace (Err reason) go_on = refused_behind trace reason

-- the trace, of which these lines stand before these parts
abbrev pub trace_from : Shape → List TraceLine → List (List ℕ) → Traced
trace_from g trace [] = ended trace
trace_from g trace (last ∷ []) = at_end trace last
trace_from g trace (line ∷ next ∷ parts) = continued trace (with_part g trace line) (λ longer. trace_from g longer (next ∷ parts))

-- the trace that bytes spell
abbrev pub trace_of : Shape → List ℕ → Traced
trace_of g bytes = trace_from g [] (parts_of bytes)

-- ---- A whole job

-- The known bytes open a job with this header and this text, and behind it stand this trace and this refusal.
abbrev pub IsJobOf : Option (List ℕ) → Header → List ℕ → List TraceLine → Option ℕ → Type 0
IsJobOf None header text trace refused = IsAccepted header × States text header
IsJobOf (Some bytes) header text trace refused =
    (rest : List ℕ) × (opening_of bytes ≡ Accepts header text rest)
    × (trace_of (shape_of header) rest ≡ record { lines = trace; refused = refused })

-- the same of the bytes that were taken, where some are left: the trace is the lines that lie whole in them
abbrev pub IsPartOf : Option (List ℕ) → Option (List ℕ) → Header → List ℕ → List TraceLine → Type 0
IsPartOf None left header text trace = IsAccepted header × States text header
IsPartOf (Some bytes) None header text trace = ⊥
IsPartOf (Some bytes) (Some left) header text trace =
    (taken : List ℕ) × (opening_of bytes ≡ Accepts header text (taken ++ left)) × ((trace_of (shape_of header) taken).lines ≡ trace)

-- none of the known bytes is left
abbrev pub IsUsedUp : Option (List ℕ) → Option (List ℕ) → Type 0
IsUsedUp None left = ⊤
IsUsedUp (Some bytes) left = left ≡ Some []

-- the opening of the known bytes is refused with this reason
abbrev pub IsNoJob : Option (List ℕ) → ℕ → Type 0
IsNoJob None reason = IsReason reason
IsNoJob (Some bytes) reason = opening_of bytes ≡ Refuses reason

-- a trace within its limits: its lines are of the subchannel, not too many, and the sum of its I lines is not too great
pub record IsTrace (g : Shape) (trace : List TraceLine) : Type 0 where
  pub inside : AreInside g trace
  pub few : length trace ≤ MOST
  pub idle : sum (idle_clocks trace) ≤ 4294967296
