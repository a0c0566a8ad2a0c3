-- What a finished report of two ranks promises.
use Rattle.std.specs.Prelude.{ℕ, ◌≡◌, None, List, ◌∷◌, ◌++◌, reverse}
use Rattle.error_scrub.specs.Tame.{IsTame}
use Rattle.requests.specs.declared.request.Kind.TheVariants.{Read as Reads}
use Rattle.speed_bin.specs.Header.{shape_of}
use Rattle.speed_bin.specs.Rules.{verdict_at_end}
use Rattle.speed_bin.specs.declared.header.Header.{Header}
use Rattle.rank_bus.specs.Buses.{AllShare, ClocksRise}
use Rattle.rank_bus.specs.declared.rank.Rank.{Rank}
use Rattle.reports.specs.Barriers.{bits_of, turned_bits}
use Rattle.reports.specs.Headline.{IsRight, shown_log}
use Rattle.reports.specs.Readings.{changes_before, reading_of}
use Rattle.reports.specs.Requests.{Request, requests}
use Rattle.reports.specs.Sound.{AllBounded}
use Rattle.pair_reports.specs.Lines.{only}
use Rattle.pair_reports.specs.Report.{pair_report, told_of}
use Rattle.pair_reports.specs.Runs.{PairRun, bus_of, run_of}
use Rattle.pair_reports.specs.Shown.{pair_accesses, pair_answers, pair_asked, pair_values, shown_places}
use Rattle.pair_reports.specs.declared.rank_line.RankLine.{RankLine}

-- The C lines are the commands of the bus. Those of each rank satisfy every rule at each place and at the end, and both together
-- the gaps of the bus, with clocks that rise strictly. The RDs and WRs stand in the order of the R and W lines of the trace, one
-- for each; each R line is answered once, in that order, with plain memory's bytes of its rank wherever no stored word took two
-- turned bits between rewrites; each F line turns its bit. Up to no place has a row of a rank more activations since its last
-- mitigation than the bound.
pub record PairHeadline (h : Header) (trace : List RankLine) (run : PairRun) (clock : ℕ) : Type 0 where
  pub shows : reverse (shown_places (pair_report h trace run)) ≡ bus_of run
  pub rules : (rank : Rank) → verdict_at_end h clock (shown_log h (only rank trace) (run_of rank run)) ≡ None
  pub shares : AllShare (bus_of run)
  pub rises : ClocksRise (bus_of run)
  pub serves : reverse (pair_accesses (shape_of h) (bus_of run)) ≡ pair_asked trace
  pub reads : pair_values (pair_report h trace run) ≡ pair_answers h trace run
  pub turns : (rank : Rank) → turned_bits (told_of rank (pair_report h trace run)) ≡ bits_of (only rank trace)
  pub memory : (rank : Rank) (earlier later : List Request) (r : Request) → requests (only rank trace) ≡ earlier ++ r ∷ later → r.kind ≡ Reads
      → IsTame (changes_before h (only rank trace) (run_of rank run) r) r.line → IsRight (only rank trace) r (reading_of h (only rank trace) (run_of rank run) r)
  pub bounded : (rank : Rank) → AllBounded h (shown_log h (only rank trace) (run_of rank run))
