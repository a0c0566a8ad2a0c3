use Rattle.std.proofs.Common.{◌∷◌, ◌∙◌, sym, subst}
use Rattle.std.proofs.Math.Logic.{∥∥₁_map}
use Rattle.speed_bin.specs.Timing.{IsTiming}
use Rattle.timing_rules.specs.Gate.{StandsFor}
use Rattle.timing_rules.specs.declared.clocks.Clocks.{Clocks}
use Rattle.timing_rules.proofs.gate.Gate.issue.Goals as goal

pub invariant_of-self : goal.invariant_of-self
invariant_of-self c = (
  subst IsTiming (sym c.issue.ensures.timing) (subst (λ (x : Clocks). IsTiming x.timing) (sym c.deref_mut.ensures.value) c.self.invariant.0),
  ∥∥₁_map c.requires.follows
      (λ m. (m.0, record { clock = c.args.clock; command = c.args.command.now } ∷ m.1, c.issue.ensures.stands m.0 m.1 (subst (λ (x : Clocks). StandsFor x m.0 m.1) (sym (c.deref_mut.ensures.value ∙ c.self.view_is)) m.2) m.3)),
)

pub issue-requires-clause-timing : goal.issue-requires-clause-timing
issue-requires-clause-timing c = subst (λ (x : Clocks). IsTiming x.timing) (sym c.deref_mut.ensures.value) c.self.invariant.0
