use Rattle.std.proofs.Common.{◌≡◌, ◌∷◌, Bool, Some, true, refl}
use Rattle.refresh_plan.specs.Standing.{IsAllowed}
use Rattle.judged_logs.specs.Auditing.{PlanWhere}
use Rattle.judged_logs.proofs.Issuing.{plan_left_out}
use Rattle.judged_logs.proofs.LeftOut.{by_plan}
use Rattle.judged_logs.proofs.parts.plan_next.Goals as goal

pub returns-in-Some : goal.returns-in-Some
returns-in-Some c = λ judged h log. rw c.in-Some.is (by_plan judged c.in-Some.plan h log
    (λ (t : Bool). (t ≡ true → IsAllowed h c.args.clock c.args.command.now log) → PlanWhere t (Some c.issue.new.self) h (record { clock = c.args.clock; command = c.args.command.now } ∷ log))
    (λ there allowed. c.issue.ensures h log there (allowed refl)))

pub returns-in-None : goal.returns-in-None
returns-in-None c = λ judged h log stands allowed. rw c.in-None.is (plan_left_out judged h log _ (rw c.in-None.is at stands))
