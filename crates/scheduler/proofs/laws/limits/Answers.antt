use Rattle.std.proofs.Common.{◌<◌, length, subst}
use Rattle.requests.specs.Queue.{places}
use Rattle.scheduler.specs.Controller.{banks_of}
use Rattle.scheduler.proofs.Parts.{length-places}
use Rattle.scheduler.proofs.laws.limits.Goals as goal

pub returns-clause-now : goal.returns-clause-now
unfolding Rattle.scheduler.specs.Controller.StandsFor Rattle.scheduler.specs.Controller.from_of
returns-clause-now c = λ h x offered idle log s few short. c.limits.ensures.now h (places log) x.task x.ledger.from x.until idle (banks_of x.queue.items) (length offered) s.accepted s.deadlines few short

pub returns-clause-target : goal.returns-clause-target
unfolding Rattle.scheduler.specs.Controller.StandsFor Rattle.scheduler.specs.Controller.until_of
returns-clause-target c = λ h x offered idle log s few short. c.limits.ensures.target h (places log) x.task x.ledger.from x.until idle (banks_of x.queue.items) (length offered) s.accepted s.deadlines few short

pub returns-clause-places : goal.returns-clause-places
unfolding Rattle.scheduler.specs.Controller.StandsFor
returns-clause-places c = λ h x offered idle log s few short. subst (λ n. n < 2200000000) (length-places log) (c.limits.ensures.places h (places log) x.task x.ledger.from x.until idle (banks_of x.queue.items) (length offered) s.accepted s.deadlines few short)
