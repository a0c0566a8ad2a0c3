-- Which runs of a trace of two ranks are right.
use Rattle.std.specs.Prelude.{ℕ, ◌≡◌, ◌+◌, ◌*◌, ◌/◌, ◌≤◌, None, List, ◌++◌, length, reverse, sum}
use Rattle.command_words.specs.Kinds.{is_act, is_nop}
use Rattle.speed_bin.specs.Counts.{commands}
use Rattle.speed_bin.specs.Gap.{n_max}
use Rattle.speed_bin.specs.Rules.{broken_at_end}
use Rattle.speed_bin.specs.declared.header.Header.{Header}
use Rattle.rank_bus.specs.Buses.{AllShare}
use Rattle.rank_bus.specs.declared.rank.Rank.{Rank}
use Rattle.reports.specs.Barriers.{AreApart, idle_clocks}
use Rattle.reports.specs.Requests.{requests}
use Rattle.reports.specs.Runs.{log_of}
use Rattle.reports.specs.Sound.{Sound}
use Rattle.pair_reports.specs.Lines.{deeds, lines_of, only}
use Rattle.pair_reports.specs.Runs.{PairRun, bus_of, done, run_of, servings_of}
use Rattle.pair_reports.specs.declared.rank_line.RankLine.{RankLine}

-- The run is right so far: the steps of each rank are those of a sound run of its own lines, the commands of both keep the
-- gaps of the bus, and what was done of the trace are the first of its R, W and F lines, in order.
pub record IsBegun (h : Header) (trace : List RankLine) (run : PairRun) : Type 0 where
  pub sound : (rank : Rank) → Sound h (only rank trace) (run_of rank run)
  pub shares : AllShare (bus_of run)
  pub left : List ℕ
  pub in_order : reverse (done run) ++ left ≡ deeds (lines_of trace)

-- How long a run is that ends at this clock: as many ACTs of each rank as it has requests, no NOP, and its commands and the
-- end within bounds that the requests and the I lines of the trace set.
pub record IsShortPair (h : Header) (trace : List RankLine) (run : PairRun) (clock : ℕ) : Type 0 where
  pub activations : (rank : Rank) → commands is_act (log_of (run_of rank run)) ≡ length (requests (only rank trace))
  pub no_nop : (rank : Rank) → commands is_nop (log_of (run_of rank run)) ≡ 0
  pub commands : (rank : Rank) → length (log_of (run_of rank run)) ≤ 16 + 5 * length (requests (lines_of trace)) + 5 * (clock / h.timing.nrefi)
  pub end : clock ≤ 2 * (sum (idle_clocks (lines_of trace)) + 12 * n_max h.timing * (length (requests (lines_of trace)) + 4))

-- A finished run: it is right, all R, W and F lines of the trace were done in their order, it waited at the I lines, and
-- ends at this clock.
pub record IsPairRun (h : Header) (trace : List RankLine) (run : PairRun) (clock : ℕ) : Type 0 where
  pub sound : (rank : Rank) → Sound h (only rank trace) (run_of rank run)
  pub shares : AllShare (bus_of run)
  pub in_order : reverse (done run) ≡ deeds (lines_of trace)
  pub ends : (rank : Rank) → broken_at_end h clock (log_of (run_of rank run)) ≡ None
  pub apart : AreApart (lines_of trace) (servings_of run)
  pub idled : sum (idle_clocks (lines_of trace)) ≤ clock
  pub short : IsShortPair h trace run clock
