use Rattle.std.proofs.Common.{arith}
use Rattle.std.proofs.Math.Logic.{∥∥₁_map}
use Rattle.row_order.proofs.tests.change.Goals as goal

pub raise-requires : goal.raise-requires
raise-requires c =
    let sizes = c.requires.sizes in
    record {
      inside = omega arith;
      below = ∥∥₁_map c.stands.ensures (λ p. let is = c.count.ensures p.0 p.1 in (p.0, p.1, omega (arith, is)));
    }
