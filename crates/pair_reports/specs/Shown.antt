-- What the lines of a report of two ranks show: the commands of the bus, and the answers to the reads.
use Rattle.std.specs.Prelude.{ℕ, suc, Option, Some, None, List, [], ◌∷◌, ◌++◌, filter}
use Rattle.command_words.specs.Geometry.{Shape}
use Rattle.device_core.specs.Stored.{also}
use Rattle.speed_bin.specs.declared.header.Header.{Header}
use Rattle.ddr_text.specs.declared.lines.ReportLine.{ReportLine}
use Rattle.ddr_text.specs.declared.lines.ReportLine.TheVariants.{Issued as IssuedLine, Value as ValueLine, Flip as FlipLine, Stat as StatLine, End as EndLine, Refused as RefusedLine}
use Rattle.rank_bus.specs.Buses.{BusLog, BusPlace, part}
use Rattle.rank_bus.specs.declared.rank.Rank.{Rank}
use Rattle.reports.specs.Accesses.{Access, access_at, access_of}
use Rattle.reports.specs.Report.{answers, is_value}
use Rattle.reports.specs.Requests.{Request, request_of}
use Rattle.pair_reports.specs.Lines.{only}
use Rattle.pair_reports.specs.Report.{of_rank}
use Rattle.pair_reports.specs.Runs.{PairRun, run_of}
use Rattle.pair_reports.specs.declared.rank_line.RankLine.{RankLine}
use Rattle.pair_reports.specs.declared.rank_line.RankReportLine.{RankReportLine}

-- ---- C lines

-- the place that a line shows, if it is a C line
abbrev pub place_in : Rank → ReportLine → Option BusPlace
place_in rank (IssuedLine clock command) = Some (record { rank = rank; clock = clock; command = command })
place_in rank (ValueLine number line bytes state) = None
place_in rank (FlipLine clock line device bit) = None
place_in rank (StatLine name number) = None
place_in rank (EndLine clock) = None
place_in rank (RefusedLine line reason) = None

-- the commands of the C lines with their ranks, in the order of the lines
abbrev pub shown_places : List RankReportLine → List BusPlace
shown_places [] = []
shown_places (it ∷ lines) = also (place_in it.rank it.line) (shown_places lines)

-- ---- RDs and WRs

-- a line of 64 bytes of a rank, and whether it is read or written
pub record RankAccess : Type 0 where
  pub rank : Rank
  pub access : Access

abbrev pub with_rank : Rank → Option Access → Option RankAccess
with_rank rank None = None
with_rank rank (Some access) = Some (record { rank = rank; access = access })

-- what the commands of both ranks read and write, the newest first
abbrev pub pair_accesses : Shape → BusLog → List RankAccess
pair_accesses g [] = []
pair_accesses g (place ∷ bus) = also (with_rank place.rank (access_at g place.command (part place.rank bus))) (pair_accesses g bus)

abbrev pub asked_of : Rank → List Request → List RankAccess
asked_of rank [] = []
asked_of rank (r ∷ rs) = record { rank = rank; access = access_of r } ∷ asked_of rank rs

-- what these trace lines ask for, numbered from n
abbrev pub asked_from : ℕ → List RankLine → List RankAccess
asked_from n [] = []
asked_from n (it ∷ trace) = asked_of it.rank (request_of n it.line) ++ asked_from (suc n) trace

-- what the R and W lines of a trace ask for, in their order
abbrev pub pair_asked : List RankLine → List RankAccess
pair_asked trace = asked_from 1 trace

-- ---- D lines

-- the D lines among these
abbrev pub pair_values : List RankReportLine → List RankReportLine
pair_values lines = filter (λ it. is_value it.line) lines

-- the answers to the R lines among these, numbered from n, each by what its rank stored
abbrev pub answers_from : Header → List RankLine → PairRun → ℕ → List RankLine → List RankReportLine
answers_from h trace run n [] = []
answers_from h trace run n (it ∷ rest) =
    of_rank it.rank (answers h (only it.rank trace) (run_of it.rank run) (request_of n it.line)) ++ answers_from h trace run (suc n) rest

-- the answers to all R lines of a trace, in their order
abbrev pub pair_answers : Header → List RankLine → PairRun → List RankReportLine
pair_answers h trace run = answers_from h trace run 1 trace
