use Rattle.reports.proofs.Through.{ready-served, held-served, ready-unserved, held-unserved}
use Rattle.reports.proofs.laws.takes_from_the_front.Goals as goal

pub returns-clause-ready_served : goal.returns-clause-ready_served
returns-clause-ready_served c = ready-served

pub returns-clause-held_served : goal.returns-clause-held_served
returns-clause-held_served c = held-served

pub returns-clause-ready_unserved : goal.returns-clause-ready_unserved
returns-clause-ready_unserved c = ready-unserved

pub returns-clause-held_unserved : goal.returns-clause-held_unserved
returns-clause-held_unserved c = held-unserved
