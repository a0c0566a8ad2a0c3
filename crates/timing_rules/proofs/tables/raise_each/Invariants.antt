use Rattle.timing_rules.proofs.Raised.{AreRaised, raised_by}
use Rattle.timing_rules.proofs.tables.raise_each.Given as goal

abbrev pub invariant-banks : goal.invariant-banks
invariant-banks l = AreRaised (raised_by l.scope l.clock l.clocks) l.initial.table l.table l.b
