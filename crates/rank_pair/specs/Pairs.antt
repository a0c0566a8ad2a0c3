-- A bus and the devices of its two ranks, and the run that they stand for.
use Rattle.std.specs.Prelude.{ℕ, ◌≡◌, ◌+◌, ◌<◌, ◌^◌, ⊤, Option, Some, None, List, [], ◌∷◌, length, slice_get}
use Rattle.std.specs.Io.KnownBytes.{Appends}
use Rattle.std.specs.List.{flat_map}
use Rattle.command_words.specs.declared.command.Command.{Command}
use Rattle.ddr_io.specs.Sink.{AppendsPrefix}
use Rattle.ddr_text.specs.declared.lines.ReportLine.{ReportLine}
use Rattle.ddr_text.specs.declared.lines.ReportLine.TheVariants.{Issued as IssuedLine, Value as ValueLine}
use Rattle.ddr_text.specs.declared.lines.TraceLine.{TraceLine}
use Rattle.error_scrub.specs.declared.cells.LineRead.{LineRead}
use Rattle.requests.specs.declared.request.Kind.{Kind}
use Rattle.requests.specs.declared.request.Kind.TheVariants.{Read as Reads, Write as Writes}
use Rattle.reports.specs.Delivered.{bytes_in}
use Rattle.reports.specs.Requests.{Request, request_of}
use Rattle.reports.specs.Runs.{IsThrough, Issues, Run, log_of}
use Rattle.reports.specs.Sound.{IsSoundPlace, Sound}
use Rattle.speed_bin.specs.Header.{IsAccepted, shape_of}
use Rattle.speed_bin.specs.declared.header.Header.{Header}
use Rattle.rank_bus.specs.Buses.{IsEarliest, other, part}
use Rattle.rank_bus.specs.Standing.{IsReady, StandsFor as BusFor, now_of}
use Rattle.rank_bus.specs.declared.rank.Rank.{Rank}
use Rattle.rank_bus.specs.declared.rank.Rank.TheVariants.{Zero, One}
use Rattle.pair_reports.specs.Lines.{only}
use Rattle.pair_reports.specs.Report.{latest_of, of_rank, spelled_for}
use Rattle.pair_reports.specs.Runs.{PairRun, RankStep, bus_of, run_of}
use Rattle.pair_reports.specs.declared.rank_line.RankLine.{RankLine}
use Rattle.pair_reports.specs.declared.rank_line.RankReportLine.{RankReportLine}
use Rattle.rank_pair.specs.RankEnds.{EndStandsFor, served}
use Rattle.rank_pair.specs.declared.pair.LineAccess.{LineAccess}
use Rattle.rank_pair.specs.declared.pair.Pair.{Pair}
use Rattle.rank_pair.specs.declared.rank_end.RankEnd.{RankEnd}

-- the bus stands for the commands of a run, and the end of each rank for the run of that rank
pub record StandsFor (p : Pair) (h : Header) (trace : List RankLine) (run : PairRun) : Type 0 where
  pub bus : BusFor p.bus h (bus_of run)
  pub zero : EndStandsFor p.zero h (only Zero trace) (run_of Zero run)
  pub one : EndStandsFor p.one h (only One trace) (run_of One run)
  pub geometry : p.geometry ≡ shape_of h

-- the end of a rank
abbrev pub end_in : Rank → Pair → RankEnd
end_in Zero p = p.zero
end_in One p = p.one

-- all but the end of this rank is as it was
pub record KeepsRest (rank : Rank) (old new : Pair) : Type 0 where
  pub bus : new.bus ≡ old.bus
  pub rest : end_in (other rank) new ≡ end_in (other rank) old
  pub geometry : new.geometry ≡ old.geometry

-- ---- What an access asks for

-- a write brings bytes
abbrev pub kind_with : Option (List ℕ) → Kind
kind_with None = Reads
kind_with (Some bytes) = Writes

abbrev pub request_for : LineAccess → Request
request_for it = record { number = it.number; line = it.line; kind = kind_with it.bytes }

abbrev pub requested : Option LineAccess → Option Request
requested None = None
requested (Some it) = Some (request_for it)

abbrev pub bytes_with : Option LineAccess → Option (List ℕ)
bytes_with None = None
bytes_with (Some it) = it.bytes

-- the D line of a read that was answered
abbrev pub value_lines : Option LineAccess → Option LineRead → List ReportLine
value_lines (Some it) (Some read) = ValueLine it.number it.line read.bytes read.state ∷ []
value_lines (Some it) None = []
value_lines None read = []

-- a line, as one of a rank is spelled
abbrev pub spelled_by : Rank → ReportLine → List ℕ
spelled_by rank line = spelled_for (record { rank = rank; line = line })

-- ---- A command

-- the step that issues it
abbrev pub issues : Rank → ℕ → Command → Option LineAccess → RankStep
issues rank clock command access = record { rank = rank; step = Issues (served clock command (requested access)) }

-- the lines of a command that found this
abbrev pub lines_for : Rank → ℕ → Command → Option LineAccess → Option LineRead → List RankReportLine
lines_for rank clock command access read = of_rank rank (IssuedLine clock command ∷ value_lines access read)

-- the access is that of the next line of the trace: the run is through the lines before it
pub record IsAskedBy (trace : List TraceLine) (run : Run) (it : LineAccess) : Type 0 where
  pub before : ℕ
  pub line : TraceLine
  pub through : IsThrough trace before run
  pub there : slice_get trace before ≡ Some line
  pub numbered : it.number ≡ before + 1
  pub asks : request_of it.number line ≡ request_for it ∷ []
  pub brings : bytes_in (Some line) ≡ it.bytes

abbrev pub IsAsked : List TraceLine → Run → Option LineAccess → Type 0
IsAsked trace run None = ⊤
IsAsked trace run (Some it) = IsAskedBy trace run it

-- the earliest clock of a command of this rank
abbrev pub IsNextClock : Pair → Header → PairRun → Rank → Command → ℕ → Type 0
IsNextClock p h run rank command clock = IsEarliest h (part rank (bus_of run)) (part (other rank) (bus_of run)) (now_of p.bus) command clock

-- All that has to be known before a command of this rank is issued: whichever clock is its earliest, it is right there.
pub record IsIssuable (p : Pair) (h : Header) (trace : List RankLine) (run : PairRun) (rank : Rank) (command : Command) (access : Option LineAccess) : Type 0 where
  pub accepted : IsAccepted h
  pub stands : StandsFor p h trace run
  pub sound : (r : Rank) → Sound h (only r trace) (run_of r run)
  pub few : length (log_of (run_of rank run)) < 2 ^ 48
  pub ready : IsReady h (part rank (bus_of run)) (part (other rank) (bus_of run)) (now_of p.bus) command
  pub right : (clock : ℕ) → IsNextClock p h run rank command clock → IsSoundPlace h (only rank trace) (run_of rank run) (served clock command (requested access))
  pub asked : IsAsked (only rank trace) (run_of rank run) access

abbrev pub MayIssue : Pair → Rank → Command → Option LineAccess → Type 0
MayIssue p rank command access = (h : Header) × (trace : List RankLine) × (run : PairRun) × IsIssuable p h trace run rank command access

-- It was issued at its earliest clock, given to the device of its rank, and its lines were written.
pub record IsIssued (old new : Pair) (h : Header) (trace : List RankLine) (run : PairRun) (rank : Rank) (command : Command) (access : Option LineAccess) (before after : Option (List ℕ)) : Type 0 where
  pub clock : ℕ
  pub earliest : IsNextClock old h run rank command clock
  pub stands : StandsFor new h trace (issues rank clock command access ∷ run)
  pub now : now_of new.bus ≡ clock + 1
  pub wrote : Appends before after (flat_map spelled_for (latest_of h trace run (issues rank clock command access)))

-- a prefix of its lines was written
pub record IsCutOff (old : Pair) (h : Header) (trace : List RankLine) (run : PairRun) (rank : Rank) (command : Command) (access : Option LineAccess) (before after : Option (List ℕ)) : Type 0 where
  pub clock : ℕ
  pub earliest : IsNextClock old h run rank command clock
  pub wrote : AppendsPrefix before after (flat_map spelled_for (latest_of h trace run (issues rank clock command access)))
