use Rattle.std.proofs.Common.{◌≡◌, Bool, None, refl}
use Rattle.speed_bin.specs.Rules.{first_failing}
use Rattle.judged_logs.specs.Verdicts.{refresh_tests}
use Rattle.judged_logs.proofs.LeftOut.{by_plan, without_plan}
use Rattle.judged_logs.proofs.groups.refresh_rule.Goals as goal

pub returns-in-Some : goal.returns-in-Some
returns-in-Some c = λ judged h log. rw c.in-Some.is (by_plan judged c.in-Some.plan h log (λ (t : Bool). c.broken.result ≡ first_failing 6 (refresh_tests t h c.args.clock c.args.command.now log)) (c.broken.ensures.least h log))

pub returns-in-None : goal.returns-in-None
returns-in-None c = λ judged h log. rw c.in-None.is (without_plan judged h log (λ (t : Bool). None ≡ first_failing 6 (refresh_tests t h c.args.clock c.args.command.now log)) refl)
