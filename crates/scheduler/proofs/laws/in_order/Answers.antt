use Rattle.scheduler.specs.Controller.{StandsFor}
use Rattle.scheduler.proofs.laws.in_order.Goals as goal

pub returns-clause-lines : goal.returns-clause-lines
unfolding StandsFor
returns-clause-lines c = λ h x offered idle log s. s.requested.in_order

pub returns-clause-served_once : goal.returns-clause-served_once
unfolding StandsFor
returns-clause-served_once c = λ h x offered idle log s. s.requested.once

pub returns-clause-known : goal.returns-clause-known
unfolding StandsFor
returns-clause-known c = λ h x offered idle log s. s.requested.known

pub returns-clause-serving : goal.returns-clause-serving
unfolding StandsFor
returns-clause-serving c = λ h x offered idle log s. s.requested.serving
