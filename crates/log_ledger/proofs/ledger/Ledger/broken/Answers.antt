use Rattle.std.proofs.Common.{subst}
use Rattle.log_ledger.specs.Standing.{StandsFor, StandsForSome}
use Rattle.log_ledger.proofs.Grouped.{broken_is, none_is}
use Rattle.log_ledger.proofs.ledger.Ledger.broken.Goals as goal

pub returns-clause-least : goal.returns-clause-least
unfolding StandsFor
returns-clause-least c = λ h log stands.
    let s = rw (← c.self.view_is) at stands in
    rw (c.or-3.ensures, c.or-2.ensures, c.or.ensures)
    (broken_is h c.args.clock c.args.command.now log c.broken.result c.bank_rule.result c.broken-2.result c.broken-3.result
    (c.broken.ensures.least h.timing log s.gate)
    (c.bank_rule.ensures log s.banks)
    (c.broken-2.ensures.least h log s.plan)
    (c.broken-3.ensures h log s.raa))

pub returns-clause-none : goal.returns-clause-none
returns-clause-none c = λ h log stands. none_is h c.args.clock c.args.command.now log _ (returns-clause-least c h log stands)

pub returns-clause-stands : goal.returns-clause-stands
returns-clause-stands c = subst StandsForSome c.self.view_is c.self.invariant
