use Rattle.log_ledger.specs.Standing.{StandsFor}
use Rattle.log_ledger.proofs.ledger.Ledger.next_due.Goals as goal

pub returns : goal.returns
unfolding StandsFor
returns c = λ h log clock stands. let s = rw (← c.self.view_is) at stands in c.next_due.ensures h log clock s.plan
