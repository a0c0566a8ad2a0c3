-- The reasons to refuse an opening or a line, and their numbers in X lines. `docs/FORMATS.md` has the same in words.
use Rattle.std.specs.Prelude.{ℕ, ◌+◌, ◌≤◌, ⊤, Some, None}
use Rattle.std.specs.declared.option.Option.{Option}
use Rattle.command_words.specs.declared.words.WordFault.{WordFault}
use Rattle.command_words.specs.declared.words.WordFault.TheVariants as word
use Rattle.speed_bin.specs.declared.fault.HeaderFault.{HeaderFault}
use Rattle.speed_bin.specs.declared.fault.HeaderFault.TheVariants as header
use Rattle.ddr_text.specs.declared.lines.LineFault.{LineFault}
use Rattle.ddr_text.specs.declared.lines.LineFault.TheVariants.{Empty, Letter, Fields, Number, Range, Hex, Word}
use Rattle.ddr_text.specs.declared.reason.Reason.{Reason}
use Rattle.ddr_text.specs.declared.reason.Reason.TheVariants.{Line, LineTooLong, LineUnended, TooManyLines, TooManyClocks, NotToml, HeaderKey, HeaderKind, HeaderRange, UnknownBin, NoSeparator, HeaderTooLong, LineOutOfPlace, NoEndLine, FailedCheck, FaultySeparator}

-- ---- Numbers

abbrev pub word_reason : WordFault → ℕ
word_reason word.Unknown = 31
word_reason word.SecondMissing = 32
word_reason word.SecondExtra = 33
word_reason word.Reserved = 34
word_reason word.Range = 35

-- the number of a line's fault; no line of a trace has the fault Word
abbrev pub fault_reason : LineFault → ℕ
fault_reason Empty = 1
fault_reason Letter = 2
fault_reason Fields = 3
fault_reason Number = 4
fault_reason Range = 5
fault_reason Hex = 6
fault_reason (Word fault) = word_reason fault

abbrev pub number_of : Reason → ℕ
number_of (Line fault) = fault_reason fault
number_of LineTooLong = 7
number_of LineUnended = 8
number_of TooManyLines = 9
number_of TooManyClocks = 10
number_of NotToml = 11
number_of HeaderKey = 12
number_of HeaderKind = 13
number_of HeaderRange = 14
number_of UnknownBin = 15
number_of NoSeparator = 16
number_of HeaderTooLong = 17
number_of LineOutOfPlace = 18
number_of NoEndLine = 19
number_of (FailedCheck check) = 20 + check
number_of FaultySeparator = 29

-- a reason that there is: a header has eight checks
abbrev pub HasNumber : Reason → Type 0
HasNumber (FailedCheck check) = (1 ≤ check) × (check ≤ 8)
HasNumber (Line fault) = ⊤
HasNumber LineTooLong = ⊤
HasNumber LineUnended = ⊤
HasNumber TooManyLines = ⊤
HasNumber TooManyClocks = ⊤
HasNumber NotToml = ⊤
HasNumber HeaderKey = ⊤
HasNumber HeaderKind = ⊤
HasNumber HeaderRange = ⊤
HasNumber UnknownBin = ⊤
HasNumber NoSeparator = ⊤
HasNumber HeaderTooLong = ⊤
HasNumber LineOutOfPlace = ⊤
HasNumber NoEndLine = ⊤
HasNumber FaultySeparator = ⊤

-- ---- Headers

-- the reason of a header's fault; want of memory is the fault of no text
abbrev pub of_header : HeaderFault → Option Reason
of_header header.NotToml = Some NotToml
of_header header.Key = Some HeaderKey
of_header header.Kind = Some HeaderKind
of_header header.Range = Some HeaderRange
of_header header.NoBin = Some UnknownBin
of_header (header.Check check) = Some (FailedCheck check)
of_header header.OutOfMemory = None
