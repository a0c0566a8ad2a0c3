use Rattle.std.proofs.Common.{sym, arith}
use Rattle.judged_logs.proofs.Wanting.{high_from, low_from}
use Rattle.judged_logs.proofs.rolling.Rolling.is_high_at.Goals as goal

pub returns-then-self-group : goal.returns-then-self-group
returns-then-self-group c = rw (← c.self.view_is) (sym (high_from c.self.inside.raaimt c.self.inside.counts c.args.address c.loop-group.group (omega arith) (omega arith) (omega arith)))

pub returns : goal.returns
returns c = rw (← c.self.view_is) (sym (low_from c.self.inside.raaimt c.self.inside.counts c.args.address c.loop-group.group (omega arith) c.loop-group.invariant))
