-- The lines of a report of two ranks, as a function of a trace and a run of it.
use Rattle.std.specs.Prelude.{ℕ, if◌then◌else◌, Option, List, [], ◌∷◌, ◌++◌, map}
use Rattle.std.specs.List.{flat_map}
use Rattle.speed_bin.specs.declared.header.Header.{Header}
use Rattle.ddr_text.specs.Spelling.{spelled}
use Rattle.ddr_text.specs.ReportParts.{Refusal, refusal_lines}
use Rattle.ddr_text.specs.declared.lines.ReportLine.{ReportLine}
use Rattle.ddr_text.specs.declared.lines.ReportLine.TheVariants.{End as EndLine}
use Rattle.rank_bus.specs.Buses.{is_same}
use Rattle.rank_bus.specs.declared.rank.Rank.{Rank}
use Rattle.rank_bus.specs.declared.rank.Rank.TheVariants.{Zero, One}
use Rattle.reports.specs.Report.{latest}
use Rattle.reports.specs.Stats.{stats}
use Rattle.pair_reports.specs.Lines.{only}
use Rattle.pair_reports.specs.Runs.{PairRun, RankStep, run_of}
use Rattle.pair_reports.specs.declared.rank_line.RankLine.{RankLine}
use Rattle.pair_reports.specs.declared.rank_line.RankReportLine.{RankReportLine}

-- these lines, told of this rank
abbrev pub of_rank : Rank → List ReportLine → List RankReportLine
of_rank rank lines = map (λ line. record { rank = rank; line = line }) lines

-- The lines that one more step makes are those that it makes in the report of its rank alone.
abbrev pub latest_of : Header → List RankLine → PairRun → RankStep → List RankReportLine
latest_of h trace run it = of_rank it.rank (latest h (only it.rank trace) (run_of it.rank run) it.step)

-- the C, D and F lines of a run
abbrev pub pair_report : Header → List RankLine → PairRun → List RankReportLine
pair_report h trace [] = []
pair_report h trace (it ∷ run) = pair_report h trace run ++ latest_of h trace run it

-- the S lines and the E line of a rank
abbrev pub end_of : Header → List RankLine → PairRun → ℕ → Rank → List RankReportLine
end_of h trace run clock rank = of_rank rank (stats h (only rank trace) (run_of rank run) ++ EndLine clock ∷ [])

-- all lines with a digit
abbrev pub whole_pair : Header → List RankLine → PairRun → ℕ → List RankReportLine
whole_pair h trace run clock = pair_report h trace run ++ (end_of h trace run clock Zero ++ end_of h trace run clock One)

-- ---- Their text

-- the digit of a rank
abbrev pub digit_of : Rank → ℕ
digit_of Zero = 48
digit_of One = 49

-- the digit, a space, and the line
abbrev pub spelled_for : RankReportLine → List ℕ
spelled_for it = digit_of it.rank ∷ 32 ∷ spelled it.line

-- lines with their digits, and the X line, which has none, where a line was refused
abbrev pub pair_bytes : List RankReportLine → Option Refusal → List ℕ
pair_bytes lines refusal = flat_map spelled_for lines ++ flat_map spelled (refusal_lines refusal)

-- the lines of one rank among these
abbrev pub told_of : Rank → List RankReportLine → List ReportLine
told_of rank [] = []
told_of rank (it ∷ lines) = if is_same rank it.rank then it.line ∷ told_of rank lines else told_of rank lines
