-- Which bytes are a report of a trace.
use Rattle.std.specs.Prelude.{ℕ, ◌≡◌, ◌≤◌, ◌⊎◌, Option, Some, None, List, [], ◌∷◌, ◌++◌, length, take, codes}
use Rattle.std.specs.List.{flat_map}
use Rattle.speed_bin.specs.declared.header.Header.{Header}
use Rattle.ddr_text.specs.ReportParts.{Refusal, refusal_lines}
use Rattle.ddr_text.specs.declared.lines.TraceLine.{TraceLine}
use Rattle.ddr_text.specs.declared.lines.ReportLine.{ReportLine}
use Rattle.ddr_text.specs.declared.lines.ReportLine.TheVariants.{End as EndLine, Refused as RefusedLine}
use Rattle.reports.specs.Requests.{requests}
use Rattle.reports.specs.Runs.{Run, unserved}
use Rattle.reports.specs.Report.{report}
use Rattle.reports.specs.Stats.{stats}
use Rattle.reports.specs.Sound.{Sound, IsRun}

-- the lines of a report after its separator: those of the run, the S lines, the E line, and the X line where there is a
-- refusal
abbrev pub whole : Header → List TraceLine → Run → ℕ → Option Refusal → List ReportLine
whole h trace run clock refusal = (report h trace run ++ stats h trace run) ++ EndLine clock ∷ refusal_lines refusal

-- These bytes are a report of the trace, under this header whose text with the separator is this, where each line is spelled so.
abbrev pub IsReportOf : (ReportLine → List ℕ) → Header → List ℕ → List TraceLine → Option Refusal → List ℕ → Type 0
IsReportOf spelled h text trace refusal bytes =
    (run : Run) × (clock : ℕ) × IsRun h trace run clock × (bytes ≡ text ++ flat_map spelled (whole h trace run clock refusal))

-- These bytes begin a report of the trace, and end anywhere: in the lines of a run that is sound so far, or behind them.
abbrev pub IsStartOf : (ReportLine → List ℕ) → Header → List ℕ → List TraceLine → Option Refusal → List ℕ → Type 0
IsStartOf spelled h text trace refusal bytes =
    ((run : Run) × (count : ℕ) × Sound h trace run × (bytes ≡ take count (text ++ flat_map spelled (report h trace run))))
    ⊎ ((finished : List ℕ) × (count : ℕ) × IsReportOf spelled h text trace refusal finished × (bytes ≡ take count finished))

-- These bytes are whole lines of a started report without its end, and of the requests of the trace at most so many are
-- not served in it.
abbrev pub IsUnfinishedOf : (ReportLine → List ℕ) → Header → List ℕ → List TraceLine → ℕ → List ℕ → Type 0
IsUnfinishedOf spelled h text trace most bytes =
    (run : Run) × Sound h trace run × (length (unserved (requests trace) run) ≤ most) × (bytes ≡ text ++ flat_map spelled (report h trace run))

-- These bytes are the report of a header that was refused with this reason.
abbrev pub IsRefusedOpening : (ReportLine → List ℕ) → ℕ → List ℕ → Type 0
IsRefusedOpening spelled reason bytes = bytes ≡ spelled (RefusedLine 0 reason)
