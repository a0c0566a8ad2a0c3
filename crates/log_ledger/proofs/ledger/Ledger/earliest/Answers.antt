use Rattle.std.proofs.Common.{subst}
use Rattle.log_ledger.specs.Standing.{StandsFor, StandsForSome}
use Rattle.log_ledger.proofs.ledger.Ledger.earliest.Goals as goal

pub returns-clause-least : goal.returns-clause-least
unfolding StandsFor
returns-clause-least c = λ h log stands. let s = rw (← c.self.view_is) at stands in c.earliest.ensures.least h.timing log s.gate

pub returns-clause-stands : goal.returns-clause-stands
returns-clause-stands c = subst StandsForSome c.self.view_is c.self.invariant
