use Rattle.std.proofs.Math.Logic.{∥∥₁_map}
use Rattle.rank_bus.proofs.tests.Trial.wait.Goals as goal

pub invariant_of-self : goal.invariant_of-self
invariant_of-self c = ∥∥₁_map c.self.invariant (λ m. (m.0, m.1, c.wait.ensures.stands m.0 m.1 m.2, m.3))
