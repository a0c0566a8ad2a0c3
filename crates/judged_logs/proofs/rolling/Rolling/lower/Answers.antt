use Rattle.std.proofs.Common.{arith}
use Rattle.judged_logs.proofs.rolling.Rolling.lower.Goals as goal

pub returns-clause-counts : goal.returns-clause-counts
returns-clause-counts c = λ b low. rw (← c.self.view_is, ← c.loop-number.invariant.kept) (c.loop-number.invariant.done b (omega arith))
