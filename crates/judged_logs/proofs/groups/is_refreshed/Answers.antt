use Rattle.std.proofs.Common.{◌≡◌, Bool, true, refl}
use Rattle.judged_logs.specs.Verdicts.{is_refreshed, where_judged}
use Rattle.judged_logs.proofs.LeftOut.{by_plan, without_plan}
use Rattle.judged_logs.proofs.groups.is_refreshed.Goals as goal

pub returns-in-Some : goal.returns-in-Some
returns-in-Some c = λ judged h log. rw c.in-Some.is (by_plan judged c.in-Some.plan h log (λ (t : Bool). c.allowed_at_end.result ≡ where_judged t (is_refreshed h c.args.clock log)) (c.allowed_at_end.ensures h log))

pub returns-in-None : goal.returns-in-None
returns-in-None c = λ judged h log. rw c.in-None.is (without_plan judged h log (λ (t : Bool). true ≡ where_judged t (is_refreshed h c.args.clock log)) refl)
