use Rattle.std.proofs.Common.{◌+◌, ◌*◌, ◌/◌, ◌≤◌, length, subst}
use Rattle.requests.specs.Queue.{places}
use Rattle.scheduler.specs.Controller.{banks_of, excused, StandsFor, from_of, until_of}
use Rattle.scheduler.proofs.Parts.{length-places}
use Rattle.scheduler.proofs.laws.work.Goals as goal

pub returns-clause-activations : goal.returns-clause-activations
unfolding StandsFor from_of
returns-clause-activations c = λ h x offered idle log s. c.activations.ensures.at_most h offered log x.queue.items (excused x.task x.finished x.queue.items) s.requested

pub returns-clause-end : goal.returns-clause-end
unfolding StandsFor from_of
returns-clause-end c = λ h x offered idle log s. c.bounds.ensures.end h (places log) x.task x.ledger.from x.until idle (banks_of x.queue.items) (length offered) s.accepted s.deadlines

pub returns-clause-places : goal.returns-clause-places
unfolding StandsFor from_of
returns-clause-places c = λ h x offered idle log s. subst (λ n. n ≤ 28 + 5 * length offered + 5 * (x.ledger.from / h.timing.nrefi)) (length-places log) (c.bounds.ensures.commands h (places log) x.task x.ledger.from x.until idle (banks_of x.queue.items) (length offered) s.accepted s.deadlines)

pub returns-clause-target : goal.returns-clause-target
unfolding StandsFor until_of
returns-clause-target c = λ h x offered idle log s. c.bounds.ensures.target h (places log) x.task x.ledger.from x.until idle (banks_of x.queue.items) (length offered) s.accepted s.deadlines
