use Rattle.std.proofs.Common.{◌+◌, sym, subst}
use Rattle.std.proofs.Math.Logic.{∥∥₁_map}
use Rattle.scheduler.specs.Controller.{BetweenTurns, StandsFor, from_of}
use Rattle.scheduler.specs.declared.state.State.{State}
use Rattle.scheduler.proofs.Offered.{idles}
use Rattle.scheduler.proofs.controller.Controller.idle.Goals as goal

pub invariant_of-self : goal.invariant_of-self
unfolding StandsFor from_of
invariant_of-self c =
    let soon = rw (← c.self.view_is) at c.requires in
    (c.self.invariant.0, ∥∥₁_map c.self.invariant.1 (λ m. (m.0, m.1, m.2 + c.args.clocks, m.3, idles c.idle_line.ensures.keeps c.self.inside.state m.0 m.1 m.2 m.3 c.args.clocks m.4 soon)))

pub returns-clause-stands : goal.returns-clause-stands
unfolding StandsFor from_of
returns-clause-stands c = λ h offered idle log s.
    let soon = rw (← c.self.view_is) at c.requires in
    idles c.idle_line.ensures.keeps c.self.inside.state h offered idle log c.args.clocks (subst (λ (x : State). BetweenTurns h x offered idle log) (sym c.self.view_is) s) soon
