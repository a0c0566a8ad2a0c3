-- Reasons in words.
use Rattle.std.specs.Prelude.{ℕ, ◌++◌, List, codes}
use Rattle.std.specs.Fmt.{decimal}
use Rattle.command_words.specs.declared.words.WordFault.TheVariants as word
use Rattle.ddr_text.specs.declared.lines.LineFault.{LineFault}
use Rattle.ddr_text.specs.declared.lines.LineFault.TheVariants.{Empty, Letter, Fields, Number, Range, Hex, Word}
use Rattle.ddr_text.specs.declared.reason.Reason.{Reason}
use Rattle.ddr_text.specs.declared.reason.Reason.TheVariants.{Line, LineTooLong, LineUnended, TooManyLines, TooManyClocks, NotToml, HeaderKey, HeaderKind, HeaderRange, UnknownBin, NoSeparator, HeaderTooLong, LineOutOfPlace, NoEndLine, FailedCheck, FaultySeparator}

abbrev pub fault_text : LineFault → List ℕ
fault_text Empty = codes "the line has no bytes"
fault_text Letter = codes "no line of this kind begins with this field"
fault_text Fields = codes "the number of fields is wrong, or a name is none of those listed"
fault_text Number = codes "a field is no number"
fault_text Range = codes "a number, a row or a bank group is outside its range"
fault_text Hex = codes "a field has other than its hexadecimal digits"
fault_text (Word word.Unknown) = codes "the first word is of no kind of command"
fault_text (Word word.SecondMissing) = codes "the second word of the command is missing"
fault_text (Word word.SecondExtra) = codes "the command has no second word"
fault_text (Word word.Reserved) = codes "a fixed bit of the command has another value"
fault_text (Word word.Range) = codes "a word of the command has more than 14 bits"

abbrev pub reason_text : Reason → List ℕ
reason_text (Line fault) = fault_text fault
reason_text LineTooLong = codes "the line has more than 511 bytes"
reason_text LineUnended = codes "the last line has no line feed"
reason_text TooManyLines = codes "there are too many lines"
reason_text TooManyClocks = codes "the I lines let too many clocks pass"
reason_text NotToml = codes "the header is no TOML"
reason_text HeaderKey = codes "a key of the header is unknown or missing"
reason_text HeaderKind = codes "a value of the header has another kind"
reason_text HeaderRange = codes "a value of the header is outside its range"
reason_text UnknownBin = codes "the header names no known bin"
reason_text NoSeparator = codes "there is no line that ends the header"
reason_text HeaderTooLong = codes "the header or a line of it is too long"
reason_text LineOutOfPlace = codes "a line of this kind may not stand here"
reason_text NoEndLine = codes "there is no E line"
reason_text (FailedCheck check) = (codes "check " ++ decimal check) ++ codes " of the header fails"
reason_text FaultySeparator = codes "the line begins as a separator and is none"
