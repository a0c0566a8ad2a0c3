use Rattle.std.proofs.Common.{arith}
use Rattle.std.proofs.Math.Logic.{∥∥₁_map}
use Rattle.rank_bus.specs.Standing.{StandsFor}
use Rattle.rank_bus.proofs.bus.Bus.wait.Goals as goal

pub invariant_of-self : goal.invariant_of-self
unfolding StandsFor
invariant_of-self c =
    ∥∥₁_map c.self.invariant
    (λ m. (m.0, m.1, (let small = m.2.small in record { sides = m.2.sides; small = omega (arith, small, c.max-self-inside.ensures, c.requires) })))
