-- Which texts are lines of a report: each line within its ranges has one text.
use Rattle.std.specs.Prelude.{ℕ, ◌≡◌, ◌≤◌, ◌<◌, ◌^◌, true, List, length, Ok}
use Rattle.hex.specs.Hex.{IsBytes}
use Rattle.command_words.specs.Command.{IsInRange}
use Rattle.command_words.specs.Geometry.{Shape, lines_of}
use Rattle.ddr_text.specs.declared.lines.ReportLine.{ReportLine}
use Rattle.ddr_text.specs.declared.lines.ReportLine.TheVariants.{Issued, Value, Flip, Stat, End, Refused}
use Rattle.ddr_text.specs.Spelling.{report_text}
use Rattle.ddr_text.specs.ReportGrammar.{has_place, report_line_of}

-- the numbers of a line are within their ranges
abbrev pub IsReportLine : Shape → ReportLine → Type 0
IsReportLine g (Issued clock command) = (clock < 2 ^ 48) × IsInRange command × (has_place g command ≡ true)
IsReportLine g (Value number line bytes state) = (number < 2 ^ 64) × (line < lines_of g) × (length bytes ≡ 64) × IsBytes bytes
IsReportLine g (Flip clock line device bit) = (clock < 2 ^ 48) × (line < lines_of g) × (device < 4) × (bit < 136)
IsReportLine g (Stat name number) = number < 2 ^ 64
IsReportLine g (End clock) = clock < 2 ^ 48
IsReportLine g (Refused line reason) = (line < 2 ^ 64) × (reason < 256)

-- a text is read as a line exactly where it is the line's text and the line's numbers are within their ranges
pub record ReportLines : Type 0 where
  pub reads : (g : Shape) (line : ReportLine) → lines_of g ≤ 2 ^ 64 → IsReportLine g line → report_line_of g (report_text line) ≡ Ok line
  pub only : (g : Shape) (text : List ℕ) (line : ReportLine) → report_line_of g text ≡ Ok line → IsReportLine g line × (text ≡ report_text line)
