use Rattle.refresh_plan.specs.Standing.{StandsForSome}
use Rattle.refresh_plan.proofs.tests.refreshes_of_one_address.Given as goal

abbrev pub invariant-loop-address : goal.invariant-loop-address
invariant-loop-address g l = StandsForSome l.plan
