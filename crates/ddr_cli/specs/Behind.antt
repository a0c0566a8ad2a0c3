-- What is written of a report line by line.
use Rattle.std.specs.Prelude.{ℕ, ◌≡◌, ⊤, List, ◌++◌, Some, None}
use Rattle.std.specs.List.{flat_map}
use Rattle.std.specs.declared.option.Option.{Option}
use Rattle.std.specs.Io.KnownBytes.{Appends}
use Rattle.ddr_io.specs.declared.line_reader.Line.TheVariants.{Text as TextAnswer}
use Rattle.ddr_text.specs.Outcome.{Outcome, refusal_status, refusal_text}
use Rattle.ddr_text.specs.declared.lines.ReportLine.{ReportLine}
use Rattle.ddr_text.specs.ReportReading.{LeftOf, Lines, Place, lines_left}

-- ---- Lines

-- what is written of the lines, where this is the text of one: the texts, and the X line of the line that is refused
abbrev pub outcome_behind : (ReportLine → List ℕ) → Lines → Outcome
outcome_behind text found = record { text = flat_map text found.lines ++ refusal_text found.refusal; status = refusal_status found.refusal }

-- ---- Behind the opening

-- that is what is written of the lines that are left in these bytes
abbrev pub IsOutcomeBehind : (ReportLine → List ℕ) → Place → Option (List ℕ) → Outcome → Type 0
IsOutcomeBehind text place None it = ⊤
IsOutcomeBehind text place (Some bytes) it = outcome_behind text (lines_left place bytes) ≡ it

-- these lines were read and written
pub record WrittenSoFar (text : ReportLine → List ℕ) (first : Place) (start : Option (List ℕ)) (it : Place) (left : Option (List ℕ)) (before after : Option (List ℕ)) : Type 0 where
  pub lines : List ReportLine
  pub behind : LeftOf (lines_left first) start lines it left
  pub written : Appends before after (flat_map text lines)
  pub last : it.reader.last ≡ TextAnswer
