use Rattle.std.proofs.Common.{rules}
use Rattle.timing_rules.proofs.Raised.{raised_none, raised_some}
use Rattle.timing_rules.proofs.tables.raised.Goals as goal

pub returns-then-clocks-eq0 : goal.returns-then-clocks-eq0
returns-then-clocks-eq0 c = raised_none c.args.clock c.args.clocks c.args.kept c.if-clocks-eq0.true

pub returns : goal.returns
returns c = raised_some c.args.clock c.args.clocks c.args.kept c.max.result c.if-clocks-eq0.false (search rules)
