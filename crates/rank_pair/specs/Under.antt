-- A controller of two ranks that keeps its promises: what holds between its commands.
use Rattle.std.specs.Prelude.{ℕ, ⊤, ◌≡◌, ◌+◌, ◌<◌, ◌≤◌, ◌⊎◌, Bool, true, false, Option, None, List, [], ◌∷◌, ◌++◌, drop, length, reverse, sum}
use Rattle.std.specs.Io.KnownBytes.{Appends}
use Rattle.std.specs.List.{flat_map}
use Rattle.command_words.specs.Kinds.{is_act, is_nop}
use Rattle.ddr_io.specs.Sink.{AppendsPrefix}
use Rattle.ddr_text.specs.declared.lines.TraceLine.{TraceLine}
use Rattle.pair_deadlines.specs.Before.{AllBefore}
use Rattle.pair_deadlines.specs.Budget.{HasTime}
use Rattle.pair_deadlines.specs.Keeping.{Keeps, Phase, Serving}
use Rattle.rank_bus.specs.Buses.{AllShare, part}
use Rattle.rank_bus.specs.Service.{IsServedBy}
use Rattle.rank_bus.specs.Standing.{StandsFor as BusFor, now_of}
use Rattle.rank_bus.specs.Held.{Held as Bus}
use Rattle.rank_bus.specs.Buses.{BusLog}
use Rattle.rank_bus.specs.declared.rank.Rank.{Rank}
use Rattle.rank_bus.specs.declared.rank.Rank.TheVariants.{Zero, One}
use Rattle.refresh_plan.specs.Debts.{IsNothingDue}
use Rattle.reports.specs.Barriers.{AreApart, Serving as ServedAt, idle_clocks}
use Rattle.reports.specs.Requests.{requests}
use Rattle.reports.specs.Runs.{IsThrough}
use Rattle.reports.specs.Sound.{Sound}
use Rattle.speed_bin.specs.Counts.{commands}
use Rattle.speed_bin.specs.Header.{IsAccepted, shape_of}
use Rattle.speed_bin.specs.Log.{Log, open_at}
use Rattle.speed_bin.specs.declared.header.Header.{Header}
use Rattle.pair_reports.specs.Lines.{deeds, lines_of, only}
use Rattle.pair_reports.specs.Report.{pair_report, spelled_for}
use Rattle.pair_reports.specs.Runs.{PairRun, bus_of, done, run_of, servings_of}
use Rattle.pair_reports.specs.Sound.{IsBegun}
use Rattle.pair_reports.specs.declared.rank_line.RankLine.{RankLine}
use Rattle.rank_pair.specs.Job.{IsPairTrace}
use Rattle.rank_pair.specs.Pairs.{StandsFor}
use Rattle.rank_pair.specs.declared.pair.Pair.{Pair}

-- ---- The trace and its run

-- Each request that was served is one of the lines of the trace, and since then the clocks of the I lines behind it have
-- passed.
abbrev pub AllPassed : List TraceLine → List ServedAt → ℕ → Type 0
AllPassed trace [] now = ⊤
AllPassed trace (it ∷ rest) now =
    (it.number ≤ length trace) × (it.clock + sum (idle_clocks (drop it.number trace)) < now) × AllPassed trace rest now

-- requests between which I lines stand are apart, and all I lines so far have passed
pub record IsPaced (trace : List TraceLine) (all : List ServedAt) (now : ℕ) : Type 0 where
  pub apart : AreApart trace all
  pub passed : AllPassed trace all now
  pub idled : sum (idle_clocks trace) ≤ now

-- All lines of the trace were done in their order, and each step was right when it was made.
pub record IsDone (h : Header) (trace : List RankLine) (run : PairRun) (now : ℕ) : Type 0 where
  pub sound : (rank : Rank) → Sound h (only rank trace) (run_of rank run)
  pub shares : AllShare (bus_of run)
  pub in_order : reverse (done run) ≡ deeds (lines_of trace)
  pub through : (rank : Rank) → IsThrough (only rank trace) (length trace) (run_of rank run)
  pub paced : IsPaced (lines_of trace) (servings_of run) now

-- ---- The bus

-- the clocks of the I lines of a trace
abbrev pub idle_in : List RankLine → ℕ
idle_in trace = sum (idle_clocks (lines_of trace))

-- how many requests a trace has
abbrev pub asked_in : List RankLine → ℕ
asked_in trace = length (requests (lines_of trace))

-- all banks are closed
abbrev pub AllShut : Log → Type 0
AllShut log = (b : ℕ) → b < 32 → open_at b log ≡ None

-- What is kept of the log of a rank: its register writes were made, it has an ACT for each request of the rank and no NOP, and
-- its clocks are before `now`, at least one for each command.
pub record IsLogged (log : Log) (trace : List TraceLine) (now : ℕ) : Type 0 where
  pub written : 8 ≤ length log
  pub acts : commands is_act log ≡ length (requests trace)
  pub no_nop : commands is_nop log ≡ 0
  pub before : AllBefore now log
  pub few : length log ≤ now

-- The pair stands for a run of this trace, whose requests have all begun, and keeps its deadlines at this phase.
pub record IsOnBus (p : Pair) (h : Header) (trace : List RankLine) (run : PairRun) (until : ℕ) (phase : Phase) : Type 0 where
  pub accepted : IsAccepted h
  pub time : HasTime h
  pub traced : IsPairTrace (shape_of h) trace
  pub stands : StandsFor p h trace run
  pub keeps : Keeps h (bus_of run) (now_of p.bus) until (idle_in trace) (asked_in trace) phase
  pub logged : (rank : Rank) → IsLogged (part rank (bus_of run)) (only rank trace) (now_of p.bus)

-- the lines of a trace that are done, and a clock by which they were
pub record Mark : Type 0 where
  pub front : List RankLine
  pub since : ℕ

-- these lines are the first ones of the trace
abbrev pub IsFrontOf : List RankLine → List RankLine → Type 0
IsFrontOf front trace = (rest : List RankLine) × (trace ≡ front ++ rest)

-- Between two lines, in an I line and in a service: the lines in front were done by a clock that has passed, and all banks are
-- closed.
pub record Under (p : Pair) (h : Header) (trace : List RankLine) (mark : Mark) (run : PairRun) (until : ℕ) (phase : Phase) : Type 0 where
  pub on_bus : IsOnBus p h trace run until phase
  pub all_done : IsDone h mark.front run mark.since
  pub past : mark.since ≤ now_of p.bus
  pub front : IsFrontOf mark.front trace
  pub shut : (rank : Rank) → AllShut (part rank (bus_of run))

-- ---- What was written

-- the report of the run so far was written
abbrev pub Wrote : Header → List RankLine → PairRun → Option (List ℕ) → Option (List ℕ) → Type 0
Wrote h trace run before after = Appends before after (flat_map spelled_for (pair_report h trace run))

-- the lines of the run so far were written
pub record IsUnder (p : Pair) (h : Header) (trace : List RankLine) (mark : Mark) (until : ℕ) (phase : Phase) (before after : Option (List ℕ)) : Type 0 where
  pub run : PairRun
  pub under : Under p h trace mark run until phase
  pub wrote : Wrote h trace run before after

-- that is so of some run, at this phase
abbrev pub IsSomewhere : Pair → Phase → Option (List ℕ) → Type 0
IsSomewhere p phase after =
    (h : Header) × (trace : List RankLine) × (mark : Mark) × (until : ℕ) × (before : Option (List ℕ)) × IsUnder p h trace mark until phase before after

-- a prefix of the lines of a run that is right so far was written
pub record IsCut (h : Header) (trace : List RankLine) (before after : Option (List ℕ)) : Type 0 where
  pub run : PairRun
  pub begun : IsBegun h trace run
  pub wrote : AppendsPrefix before after (flat_map spelled_for (pair_report h trace run))

-- ---- A service

-- no refresh of the rank is due, whatever list the bus stands for
abbrev pub IsIdle : Bus → Rank → Type 0
IsIdle bus rank = (h : Header) (log : BusLog) → BusFor bus h log → IsNothingDue h (now_of bus) (part rank log)

-- the bus is as it was, or time has passed
abbrev pub Moved : Bus → Bus → Type 0
Moved old new = (new ≡ old) ⊎ (now_of old < now_of new)

-- the rank needed nothing and the bus is as it was; or time has passed
pub data Works (old new : Bus) (rank : Rank) : Type 0 where
  Rests : new ≡ old → IsIdle old rank → Works old new rank
  Passes : now_of old < now_of new → Works old new rank

-- neither rank needed anything, or time has passed
pub data WorksForBoth (old new : Bus) : Type 0 where
  BothRest : now_of new ≡ now_of old → IsIdle old Zero → IsIdle old One → WorksForBoth old new
  TimePasses : now_of old < now_of new → WorksForBoth old new

-- one turn of the service of a rank: a command was issued, or it needs nothing
abbrev pub WorksOnce : Bool → Bus → Bus → Rank → Type 0
WorksOnce true old new rank = now_of old < now_of new
WorksOnce false old new rank = (new ≡ old) × IsIdle old rank

-- the service of a rank is over: it needs nothing
pub record IsServed (p : Pair) (h : Header) (trace : List RankLine) (mark : Mark) (until : ℕ) (rank : Rank) (before after : Option (List ℕ)) : Type 0 where
  pub on_turn : IsUnder p h trace mark until (Serving rank) before after
  pub none : IsServedBy h (part rank (bus_of on_turn.run)) (now_of p.bus) None

-- by the answer: a command more, or the service is over
abbrev pub IsServedOnce : Bool → Pair → Header → List RankLine → Mark → ℕ → Rank → Option (List ℕ) → Option (List ℕ) → Type 0
IsServedOnce true p h trace mark until rank before after = IsUnder p h trace mark until (Serving rank) before after
IsServedOnce false p h trace mark until rank before after = IsServed p h trace mark until rank before after
