use Rattle.std.proofs.Common.{arith}
use Rattle.requests.specs.Queue.{places}
use Rattle.scheduler.specs.Controller.{StandsFor, excused}
use Rattle.scheduler.proofs.Unraised.{never_raised}
use Rattle.scheduler.proofs.laws.unraised.Goals as goal

pub returns : goal.returns
unfolding StandsFor
returns c = record {
  raises_no_alert = λ h x offered idle log s few.
      let a = c.activations.ensures.at_most h offered log x.queue.items (excused x.task x.finished x.queue.items) s.requested in
      never_raised h (places log) (omega (arith, a, few));
}
