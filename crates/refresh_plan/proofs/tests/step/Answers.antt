use Rattle.std.proofs.Common.{◌∷◌}
use Rattle.std.proofs.Math.Logic.{∥∥₁_map}
use Rattle.refresh_plan.proofs.tests.step.Goals as goal

pub issue-requires-clause-allowed : goal.issue-requires-clause-allowed
issue-requires-clause-allowed c = ∥∥₁_map c.requires.stands (λ r. (r.0, r.1, r.2, (c.allowed.ensures r.0 r.1 r.2).0 c.if-not-allowed.false))

pub returns : goal.returns
returns c = ∥∥₁_map c.requires.stands (λ r. (r.0, record { clock = c.args.clock; command = c.args.command.now } ∷ r.1, c.issue.ensures r.0 r.1 r.2 ((c.allowed.ensures r.0 r.1 r.2).0 c.if-not-allowed.false)))
