use Rattle.std.proofs.Common.{◌≤◌, ◌^◌, arith}
use Rattle.std.proofs.Math.Bridge.{le_prop}
use Rattle.std.proofs.Math.Logic.{∥∥₁_elim}
use Rattle.rank_bus.specs.Standing.{StandsFor, now_of}
use Rattle.rank_bus.proofs.bus.Bus.service.Goals as goal

pub service-requires : goal.service-requires
unfolding StandsFor
service-requires c = let small : c.self.inside.from ≤ 2 ^ 47 = ∥∥₁_elim c.self.invariant le_prop (λ m. m.2.small) in omega (arith, small)

pub returns : goal.returns
unfolding StandsFor now_of
returns c = λ h log stands. let s = rw (← c.self.view_is) at stands in rw (← c.self.view_is) (c.service.ensures h log s.sides)
