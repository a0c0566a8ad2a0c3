use Rattle.std.proofs.Common.{◌≤◌, length, subst}
use Rattle.requests.specs.Queue.{span}
use Rattle.scheduler.specs.Controller.{StandsFor}
use Rattle.scheduler.proofs.laws.bounds.Goals as goal

pub returns-clause-few : goal.returns-clause-few
unfolding StandsFor
returns-clause-few c = λ h x offered idle log s. subst (λ ws. length ws ≤ 32) s.requested.waits s.requested.few

pub returns-clause-within : goal.returns-clause-within
unfolding StandsFor
returns-clause-within c = λ h x offered idle log s. subst (λ ws. span (length offered) ws ≤ 64) s.requested.waits s.requested.within

pub returns-clause-inside : goal.returns-clause-inside
unfolding StandsFor
returns-clause-inside c = λ h x offered idle log s. s.requested.inside
