-- Parts of a report: how it ends where a line is refused, and the log of its C lines.
use Rattle.std.specs.Prelude.{ℕ, Option, Some, None, List, [], ◌∷◌}
use Rattle.speed_bin.specs.Log.{Issued}
use Rattle.ddr_text.specs.declared.lines.ReportLine.{ReportLine}
use Rattle.ddr_text.specs.declared.lines.ReportLine.TheVariants.{Issued as IssuedLine, Value, Flip, Stat, End, Refused}

-- where a line was refused, its number and the reason
pub record Refusal : Type 0 where
  pub line : ℕ
  pub reason : ℕ

-- the X line that ends the report then
abbrev pub refusal_lines : Option Refusal → List ReportLine
refusal_lines None = []
refusal_lines (Some x) = Refused x.line x.reason ∷ []

-- the commands of the C lines at their clocks, in the order of the lines
abbrev pub places_of : List ReportLine → List Issued
places_of [] = []
places_of (IssuedLine clock command ∷ lines) = record { clock = clock; command = command } ∷ places_of lines
places_of (Value number line bytes state ∷ lines) = places_of lines
places_of (Flip clock line device bit ∷ lines) = places_of lines
places_of (Stat name number ∷ lines) = places_of lines
places_of (End clock ∷ lines) = places_of lines
places_of (Refused line reason ∷ lines) = places_of lines
