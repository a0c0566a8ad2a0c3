use Rattle.std.proofs.Common.{option_map, sym, subst}
use Rattle.std.proofs.Math.Logic.{∥∥₁_map}
use Rattle.trace_replay.specs.Coupled.{StandsFor, controller_steps, step_of, with_pending}
use Rattle.trace_replay.specs.declared.ends.Ends.{Ends}
use Rattle.trace_replay.proofs.Agreeing.{with_controller}
use Rattle.trace_replay.proofs.coupled.Coupled.finish.Goals as goal

pub invariant_of-self : goal.invariant_of-self
unfolding StandsFor
invariant_of-self c =
    let self = c.self.inside.ends in
    ∥∥₁_map c.self.invariant (λ m. (
      m.0,
      m.1,
      m.2,
      m.3,
      with_controller self c.finish.new.self m.0 m.1 m.1 m.2 m.2 m.3 m.4
          (c.finish.ensures.stands m.0 m.1 m.2 (with_pending (option_map step_of self.pending) (controller_steps m.3)) m.4.controller),
    ))

pub returns-clause-stands : goal.returns-clause-stands
unfolding StandsFor
returns-clause-stands c = λ h offered idle steps stands.
    let self = c.self.inside.ends in
    let s = subst (λ (x : Ends). StandsFor x h offered idle steps) (sym c.self.view_is) stands in
    with_controller self c.finish.new.self h offered offered idle idle steps s
    (c.finish.ensures.stands h offered idle (with_pending (option_map step_of self.pending) (controller_steps steps)) s.controller)
