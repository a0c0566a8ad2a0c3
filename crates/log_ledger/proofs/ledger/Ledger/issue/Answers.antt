use Rattle.std.proofs.Common.{◌∷◌}
use Rattle.std.proofs.Math.Logic.{∥∥₁_map}
use Rattle.log_ledger.specs.Standing.{StandsFor}
use Rattle.log_ledger.proofs.ledger.Ledger.issue.Goals as goal

pub issue-requires-clause-follows : goal.issue-requires-clause-follows
unfolding StandsFor
issue-requires-clause-follows c = ∥∥₁_map (rw (← c.self.view_is) at c.requires.may) (λ m. (m.0.timing, m.1, m.2.gate, m.3.spaced))

pub issue-requires-2 : goal.issue-requires-2
unfolding StandsFor
issue-requires-2 c = ∥∥₁_map (rw (← c.self.view_is) at c.requires.may) (λ m. (m.1, m.2.banks, m.3.fits))

pub issue-requires-3-clause-allowed : goal.issue-requires-3-clause-allowed
unfolding StandsFor
issue-requires-3-clause-allowed c = ∥∥₁_map (rw (← c.self.view_is) at c.requires.may) (λ m. (m.0, m.1, m.2.plan, m.3.allowed))

pub issue-requires-4 : goal.issue-requires-4
unfolding StandsFor
issue-requires-4 c = ∥∥₁_map (rw (← c.self.view_is) at c.requires.may) (λ m. (m.0, m.1, m.2.raa, m.3.counted))

pub invariant_of-self : goal.invariant_of-self
unfolding StandsFor
invariant_of-self c =
    ∥∥₁_map (rw (← c.self.view_is) at c.requires.may)
    (λ m. (
      m.0,
      record { clock = c.args.clock; command = c.args.command.now } ∷ m.1,
      record {
        gate = c.issue.ensures.stands m.0.timing m.1 m.2.gate m.3.spaced;
        banks = c.issue-2.ensures c.args.clock m.1 m.2.banks m.3.fits;
        plan = c.issue-3.ensures m.0 m.1 m.2.plan m.3.allowed;
        raa = c.issue-4.ensures m.0 c.args.clock m.1 m.2.raa m.3.counted;
      },
    ))
