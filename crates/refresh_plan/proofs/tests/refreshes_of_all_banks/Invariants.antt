use Rattle.refresh_plan.specs.Standing.{StandsForSome}
use Rattle.refresh_plan.proofs.tests.refreshes_of_all_banks.Given as goal

abbrev pub invariant-loop-clock : goal.invariant-loop-clock
invariant-loop-clock g l = StandsForSome l.plan
