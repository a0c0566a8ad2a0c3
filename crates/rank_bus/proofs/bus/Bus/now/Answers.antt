use Rattle.std.proofs.Common.{subst}
use Rattle.rank_bus.specs.Standing.{StandsForSome}
use Rattle.rank_bus.proofs.bus.Bus.now.Goals as goal

pub returns-clause-stands : goal.returns-clause-stands
returns-clause-stands c = subst StandsForSome c.self.view_is c.self.invariant
