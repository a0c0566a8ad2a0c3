use Rattle.rfm_counts.specs.Standing.{StandsForSome}
use Rattle.rfm_counts.proofs.tests.ninth_activation_is_not_allowed.Given as goal

abbrev pub invariant-loop-number : goal.invariant-loop-number
invariant-loop-number g l = StandsForSome l.raa
