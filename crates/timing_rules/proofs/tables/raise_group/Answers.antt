use Rattle.std.proofs.Common.{◌==◌, rules}
use Rattle.timing_rules.proofs.Raised.{unraised, one_raised}
use Rattle.timing_rules.proofs.tables.raise_group.Goals as goal

pub returns-then-clocks-eq0-clause-entries : goal.returns-then-clocks-eq0-clause-entries
returns-then-clocks-eq0-clause-entries c = λ g low. unraised (c.args.group == g) c.args.clock c.args.clocks _ c.if-clocks-eq0.true

pub returns-clause-entries : goal.returns-clause-entries
returns-clause-entries c = λ g low. one_raised c.args.table.now c.args.group c.args.clock c.args.clocks c.raised-entry.result (search rules) c.raised-entry.ensures g
