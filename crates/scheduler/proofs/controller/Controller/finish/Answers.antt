use Rattle.std.proofs.Common.{sym, subst}
use Rattle.std.proofs.Math.Logic.{∥∥₁_map}
use Rattle.scheduler.specs.Controller.{BetweenTurns, StandsFor}
use Rattle.scheduler.specs.declared.state.State.{State}
use Rattle.scheduler.proofs.Offered.{finishes}
use Rattle.scheduler.proofs.controller.Controller.finish.Goals as goal

pub invariant_of-self : goal.invariant_of-self
unfolding StandsFor
invariant_of-self c = (c.self.invariant.0, ∥∥₁_map c.self.invariant.1 (λ m. (m.0, m.1, m.2, m.3, finishes c.after_excuse.ensures.requested c.self.inside.state m.0 m.1 m.2 m.3 m.4)))

pub returns-clause-stands : goal.returns-clause-stands
unfolding StandsFor
returns-clause-stands c = λ h offered idle log s.
    finishes c.after_excuse.ensures.requested c.self.inside.state h offered idle log (subst (λ (x : State). BetweenTurns h x offered idle log) (sym c.self.view_is) s)
