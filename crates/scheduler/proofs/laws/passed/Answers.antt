use Rattle.std.proofs.Common.{ltb-true}
use Rattle.scheduler.specs.Controller.{StandsFor, from_of}
use Rattle.scheduler.proofs.laws.passed.Goals as goal

pub returns-clause-newest : goal.returns-clause-newest
unfolding StandsFor from_of
returns-clause-newest c = λ h x offered idle step log s. ltb-true step.issued.clock x.ledger.from s.last

pub returns-clause-below_the_limit : goal.returns-clause-below_the_limit
unfolding StandsFor from_of
returns-clause-below_the_limit c = λ h x offered idle log s. s.near
