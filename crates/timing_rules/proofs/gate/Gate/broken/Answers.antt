use Rattle.std.proofs.Common.{subst}
use Rattle.timing_rules.specs.Gate.{StandsForSome}
use Rattle.timing_rules.proofs.gate.Gate.broken.Goals as goal

pub returns-clause-stands : goal.returns-clause-stands
returns-clause-stands c = subst StandsForSome c.self.view_is c.self.invariant.1
