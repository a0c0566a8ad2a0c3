use Rattle.refresh_plan.specs.Standing.{StandsFor}
use Rattle.refresh_plan.proofs.Owing.{ecs_due_is, no_ecs_due}
use Rattle.refresh_plan.proofs.debts.Plan.ecs_due.Goals as goal

pub returns-then-self-ne0 : goal.returns-then-self-ne0
unfolding StandsFor
returns-then-self-ne0 c = λ h log stands. ecs_due_is _ h log (rw (← c.self.view_is) at stands) c.if-self-ne0.true

pub returns-else-self-ne0 : goal.returns-else-self-ne0
unfolding StandsFor
returns-else-self-ne0 c = λ h log stands. no_ecs_due _ h log (rw (← c.self.view_is) at stands) c.if-self-ne0.false
