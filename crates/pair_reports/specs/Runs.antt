-- What was done with a trace of two ranks, step by step, the newest first.
use Rattle.std.specs.Prelude.{ℕ, if◌then◌else◌, Option, Some, None, List, [], ◌∷◌}
use Rattle.device_core.specs.Stored.{also}
use Rattle.rank_bus.specs.Buses.{BusLog, BusPlace, is_same}
use Rattle.rank_bus.specs.declared.rank.Rank.{Rank}
use Rattle.reports.specs.Barriers.{Serving, with_serving}
use Rattle.reports.specs.Requests.{Request}
use Rattle.reports.specs.Runs.{Step, Issues, Flips, Run}

-- a step of one of the ranks
pub record RankStep : Type 0 where
  pub rank : Rank
  pub step : Step

abbrev pub PairRun : Type 0
PairRun = List RankStep

-- the steps of one rank
abbrev pub run_of : Rank → PairRun → Run
run_of rank [] = []
run_of rank (it ∷ run) = if is_same rank it.rank then it.step ∷ run_of rank run else run_of rank run

-- the place that a step of this rank issues, if it issues one
abbrev pub place_of : Rank → Step → Option BusPlace
place_of rank (Issues s) = Some (record { rank = rank; clock = s.issued.clock; command = s.issued.command })
place_of rank (Flips number) = None

-- the commands of both ranks
abbrev pub bus_of : PairRun → BusLog
bus_of [] = []
bus_of (it ∷ run) = also (place_of it.rank it.step) (bus_of run)

-- ---- What was done of the trace

abbrev pub number_of : Option Request → Option ℕ
number_of None = None
number_of (Some r) = Some r.number

-- the number of the request that a step serves, or of the F line that it carries out
abbrev pub deed : Step → Option ℕ
deed (Issues s) = number_of s.request
deed (Flips number) = Some number

-- those of all steps
abbrev pub done : PairRun → List ℕ
done [] = []
done (it ∷ run) = also (deed it.step) (done run)

-- the requests that a step serves, at its clock
abbrev pub with_step : Step → List Serving → List Serving
with_step (Issues s) rest = with_serving s.request s.issued.clock rest
with_step (Flips number) rest = rest

-- the requests of both ranks that were served, at their clocks
abbrev pub servings_of : PairRun → List Serving
servings_of [] = []
servings_of (it ∷ run) = with_step it.step (servings_of run)
