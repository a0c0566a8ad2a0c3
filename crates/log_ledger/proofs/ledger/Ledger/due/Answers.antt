use Rattle.log_ledger.specs.Standing.{StandsFor}
use Rattle.log_ledger.proofs.ledger.Ledger.due.Goals as goal

pub returns-clause-none : goal.returns-clause-none
unfolding StandsFor
returns-clause-none c = λ h log stands. let s = rw (← c.self.view_is) at stands in c.due.ensures.none h log s.plan
