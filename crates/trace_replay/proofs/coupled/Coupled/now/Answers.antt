use Rattle.std.proofs.Common.{subst}
use Rattle.trace_replay.specs.Coupled.{StandsForSome}
use Rattle.trace_replay.proofs.coupled.Coupled.now.Goals as goal

pub returns-clause-stands : goal.returns-clause-stands
returns-clause-stands c = subst StandsForSome c.self.view_is c.self.invariant
