-- Which bytes are a report of a trace of two ranks.
use Rattle.std.specs.Prelude.{ℕ, ◌≡◌, ◌⊎◌, Option, None, List, ◌++◌, take}
use Rattle.speed_bin.specs.declared.header.Header.{Header}
use Rattle.ddr_text.specs.ReportParts.{Refusal}
use Rattle.pair_reports.specs.Report.{pair_bytes, pair_report, whole_pair}
use Rattle.pair_reports.specs.Runs.{PairRun}
use Rattle.pair_reports.specs.Sound.{IsBegun, IsPairRun}
use Rattle.pair_reports.specs.declared.rank_line.RankLine.{RankLine}

-- These bytes are a report of the trace, under this header whose text with the separator is this.
abbrev pub IsPairReportOf : Header → List ℕ → List RankLine → Option Refusal → List ℕ → Type 0
IsPairReportOf h text trace refusal bytes =
    (run : PairRun) × (clock : ℕ) × IsPairRun h trace run clock × (bytes ≡ text ++ pair_bytes (whole_pair h trace run clock) refusal)

-- These bytes begin a report of the trace, and end anywhere: in the lines of a run that is right so far, or behind them.
abbrev pub IsPairStartOf : Header → List ℕ → List RankLine → Option Refusal → List ℕ → Type 0
IsPairStartOf h text trace refusal bytes =
    ((run : PairRun) × (count : ℕ) × IsBegun h trace run × (bytes ≡ take count (text ++ pair_bytes (pair_report h trace run) None)))
    ⊎ ((finished : List ℕ) × (count : ℕ) × IsPairReportOf h text trace refusal finished × (bytes ≡ take count finished))
