use Rattle.std.proofs.Common.{subst}
use Rattle.scheduler.specs.Controller.{StandsForSome}
use Rattle.scheduler.proofs.controller.Controller.now.Goals as goal

pub returns-clause-stands : goal.returns-clause-stands
returns-clause-stands c = subst StandsForSome c.self.view_is c.self.invariant.1
