use Rattle.std.proofs.Common.{◌≤◌, length, subst}
use Rattle.requests.specs.Queue.{span}
use Rattle.scheduler.proofs.laws.window.Goals as goal

pub returns : goal.returns
unfolding Rattle.scheduler.specs.Controller.StandsFor
returns c = record {
  queue = λ h x offered later idle log s full.
      c.queue_is_window.ensures.window h offered later log s.requested.known (subst (λ ws. length ws ≤ 32) s.requested.waits s.requested.few)
      (subst (λ ws. span (length offered) ws ≤ 64) s.requested.waits s.requested.within) full;
}
