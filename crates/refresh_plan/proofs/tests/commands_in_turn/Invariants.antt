use Rattle.refresh_plan.specs.Standing.{StandsForSome}
use Rattle.refresh_plan.proofs.tests.commands_in_turn.Given as goal

abbrev pub invariant-loop-clock : goal.invariant-loop-clock
invariant-loop-clock g l = StandsForSome l.plan
