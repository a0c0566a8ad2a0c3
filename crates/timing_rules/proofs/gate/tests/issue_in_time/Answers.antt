use Rattle.std.proofs.Math.Logic.{∥∥₁_map}
use Rattle.timing_rules.proofs.gate.tests.issue_in_time.Goals as goal

pub issue-requires-clause-follows : goal.issue-requires-clause-follows
issue-requires-clause-follows c =
    ∥∥₁_map c.earliest.ensures.stands (λ some. (some.0, some.1, some.2, (c.earliest.ensures.least some.0 some.1 some.2 c.args.clock).1 c.if-earliest-clock.true))
