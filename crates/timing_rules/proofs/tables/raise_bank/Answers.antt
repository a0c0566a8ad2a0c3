use Rattle.std.proofs.Common.{rules}
use Rattle.timing_rules.proofs.Raised.{one_raised}
use Rattle.timing_rules.proofs.tables.raise_bank.Goals as goal

pub returns-clause-entries : goal.returns-clause-entries
returns-clause-entries c = λ b low. one_raised c.args.table.now c.args.bank c.args.clock c.args.clocks c.raised-entry.result (search rules) c.raised-entry.ensures b
