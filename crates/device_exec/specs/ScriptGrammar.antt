-- The grammar of a line of a script: what a text says, or its first fault, and which texts there are. C and E lines are those
-- of a report, and F lines those of a trace, but for so many devices. `docs/FORMATS.md` has the same in words.
use Rattle.std.specs.Prelude.{ℕ, ◌≡◌, ◌≤◌, ◌<◌, ◌^◌, bytes_eq, if◌then◌else◌, List, [], ◌∷◌, ◌++◌, codes, Result, Ok, Err}
use Rattle.hex.specs.Hex.{encode_lower}
use Rattle.command_words.specs.Geometry.{Shape, lines_of}
use Rattle.ondie_ecc.specs.Bits.{IsBytes}
use Rattle.ddr_text.specs.AcceptedReport.{IsReportLine}
use Rattle.ddr_text.specs.Grammar.{◌>>=◌, fields_of, one_field, three_fields, number_of, below}
use Rattle.ddr_text.specs.ReportGrammar.{issued_line_of, end_line_of, lower_bytes_of}
use Rattle.ddr_text.specs.Spelling.{report_text, spaced}
use Rattle.ddr_text.specs.declared.lines.LineFault.{LineFault}
use Rattle.ddr_text.specs.declared.lines.LineFault.TheVariants.{Empty, Letter}
use Rattle.ddr_text.specs.declared.lines.ReportLine.{ReportLine}
use Rattle.ddr_text.specs.declared.lines.ReportLine.TheVariants.{Issued as IssuedLine, Value, Flip as FlipLine, Stat, End as EndLine, Refused}
use Rattle.device_exec.specs.declared.script_line.ScriptLine.{ScriptLine}
use Rattle.device_exec.specs.declared.script_line.ScriptLine.TheVariants.{Issued, Bytes, Flip, End}

-- ---- Reading

-- the C and E lines of a report
abbrev pub of_report : Result ReportLine LineFault → Result ScriptLine LineFault
of_report (Err fault) = Err fault
of_report (Ok (IssuedLine clock command)) = Ok (Issued clock command)
of_report (Ok (EndLine clock)) = Ok (End clock)
of_report (Ok (Value number line bytes state)) = Err Letter
of_report (Ok (FlipLine clock line device bit)) = Err Letter
of_report (Ok (Stat name number)) = Err Letter
of_report (Ok (Refused line reason)) = Err Letter

-- `B hex`, in lower-case digits
unfoldable pub bytes_line_of : List (List ℕ) → Result ScriptLine LineFault
bytes_line_of fields = do
  field ← one_field fields
  bytes ← lower_bytes_of 64 field
  Ok (Bytes bytes)

-- `F addr device bit`
unfoldable pub flip_line_of : Shape → ℕ → List (List ℕ) → Result ScriptLine LineFault
flip_line_of g devices fields = do
  three ← three_fields fields
  number ← number_of three.0
  device ← number_of three.1
  bit ← number_of three.2
  line ← below (lines_of g) number
  device_in ← below devices device
  bit_in ← below 136 bit
  Ok (Flip line device_in bit_in)

-- the line of these fields, by its letter
unfoldable pub script_line_of_fields : Shape → ℕ → List (List ℕ) → Result ScriptLine LineFault
script_line_of_fields g devices [] = Err Letter
script_line_of_fields g devices (letter ∷ fields) =
    if bytes_eq letter (codes "C") then of_report (issued_line_of g fields)
    else if bytes_eq letter (codes "B") then bytes_line_of fields
    else if bytes_eq letter (codes "F") then flip_line_of g devices fields
    else if bytes_eq letter (codes "E") then of_report (end_line_of fields)
    else Err Letter

-- the line of a script that a text spells, or its first fault
unfoldable pub script_line_of : Shape → ℕ → List ℕ → Result ScriptLine LineFault
script_line_of g devices [] = Err Empty
script_line_of g devices (byte ∷ bytes) = script_line_of_fields g devices (fields_of (byte ∷ bytes))

-- ---- Spelling

-- the numbers of a line are within their ranges
abbrev pub IsScriptLine : Shape → ℕ → ScriptLine → Type 0
IsScriptLine g devices (Issued clock command) = IsReportLine g (IssuedLine clock command)
IsScriptLine g devices (Bytes bytes) = IsBytes 64 bytes
IsScriptLine g devices (Flip line device bit) = (line < lines_of g) × (device < devices) × (bit < 136)
IsScriptLine g devices (End clock) = IsReportLine g (EndLine clock)

-- a line of a script, without its line feed
unfoldable pub script_text : ScriptLine → List ℕ
script_text (Issued clock command) = report_text (IssuedLine clock command)
script_text (Bytes bytes) = codes "B" ++ (codes " " ++ encode_lower bytes)
script_text (Flip line device bit) = codes "F" ++ spaced line ++ spaced device ++ spaced bit
script_text (End clock) = report_text (EndLine clock)

-- a text is read as a line exactly where it is the line's text and the line's numbers are within their ranges
pub record ScriptLines : Type 0 where
  pub reads : (g : Shape) (devices : ℕ) (line : ScriptLine) → lines_of g ≤ 2 ^ 64 → devices ≤ 2 ^ 64 → IsScriptLine g devices line → script_line_of g devices (script_text line) ≡ Ok line
  pub only : (g : Shape) (devices : ℕ) (text : List ℕ) (line : ScriptLine) → script_line_of g devices text ≡ Ok line → IsScriptLine g devices line × (text ≡ script_text line)
