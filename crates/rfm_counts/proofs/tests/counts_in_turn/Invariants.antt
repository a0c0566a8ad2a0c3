use Rattle.rfm_counts.specs.Standing.{StandsForSome}
use Rattle.rfm_counts.proofs.tests.counts_in_turn.Given as goal

abbrev pub invariant-loop-command : goal.invariant-loop-command
invariant-loop-command g l = StandsForSome l.raa
