-- The laws of a finished run, as one record.
use Rattle.std.specs.Prelude.{ℕ, ◌+◌, ◌*◌, ◌/◌, ◌≤◌, List, length}
use Rattle.speed_bin.specs.Header.{IsAccepted, shape_of}
use Rattle.speed_bin.specs.declared.header.Header.{Header}
use Rattle.pair_deadlines.specs.Keeping.{Keeps, Resting}
use Rattle.rank_bus.specs.declared.rank.Rank.{Rank}
use Rattle.reports.specs.Delivered.{AreInside}
use Rattle.reports.specs.Runs.{log_of}
use Rattle.reports.specs.Sound.{Sound}
use Rattle.pair_reports.specs.Headline.{PairHeadline}
use Rattle.pair_reports.specs.Lines.{lines_of, only}
use Rattle.pair_reports.specs.Runs.{PairRun, bus_of, run_of}
use Rattle.pair_reports.specs.Sound.{IsPairRun}
use Rattle.pair_reports.specs.declared.rank_line.RankLine.{RankLine}

-- it keeps its promises, and has few commands
pub record FinishedLaws : Type 0 where
  pub promises : (h : Header) (trace : List RankLine) (run : PairRun) (clock : ℕ) → IsAccepted h → AreInside (shape_of h) (lines_of trace) → IsPairRun h trace run clock → PairHeadline h trace run clock
  pub few : (h : Header) (trace : List RankLine) (run : PairRun) (now until idle n : ℕ) (rank : Rank) → Sound h (only rank trace) (run_of rank run) → Keeps h (bus_of run) now until idle n Resting → 1 ≤ h.timing.nrefi
      → length (log_of (run_of rank run)) ≤ 16 + 5 * n + 5 * (now / h.timing.nrefi)
