use Rattle.std.proofs.Math.Logic.{∥∥₁_map}
use Rattle.rank_bus.specs.Buses.{part}
use Rattle.rank_bus.specs.declared.rank.Rank.TheVariants.{Zero, One}
use Rattle.rank_bus.proofs.sides.Sides.issue.Goals as goal

pub issue-requires-clause-may : goal.issue-requires-clause-may
issue-requires-clause-may c = let may = rw c.in-Zero.is at c.requires.may in ∥∥₁_map may (λ m. (m.0, part Zero m.1, m.2.zero, m.3))

pub issue-requires-in-One-clause-may : goal.issue-requires-in-One-clause-may
issue-requires-in-One-clause-may c = let may = rw c.in-One.is at c.requires.may in ∥∥₁_map may (λ m. (m.0, part One m.1, m.2.one, m.3))
