use Rattle.std.proofs.Math.Logic.{∥∥₁_map}
use Rattle.rank_bus.proofs.side.Side.issue.Goals as goal

pub issue-requires-clause-may : goal.issue-requires-clause-may
issue-requires-clause-may c = ∥∥₁_map c.requires.may (λ m. (m.0, m.1, m.2.ledger, m.3))
