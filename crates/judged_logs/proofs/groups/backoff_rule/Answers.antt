use Rattle.std.proofs.Common.{◌≡◌, Bool, None, refl}
use Rattle.speed_bin.specs.Rules.{first_failing}
use Rattle.judged_logs.specs.Verdicts.{alert_tests}
use Rattle.judged_logs.proofs.LeftOut.{by_activity, without_activity}
use Rattle.judged_logs.proofs.groups.backoff_rule.Goals as goal

pub returns-in-Some : goal.returns-in-Some
returns-in-Some c = λ judged h log stands rolling timing. by_activity judged c.in-Some.activity h log (λ (t : Bool). c.alert_rule.result ≡ first_failing 11 (alert_tests t h c.args.clock c.args.command.now log))
    (λ there. c.alert_rule.ensures h log (c.alert.ensures h log there) rolling timing) (rw c.in-Some.is at stands)

pub returns-in-None : goal.returns-in-None
returns-in-None c = λ judged h log stands rolling timing. without_activity judged h log (λ (t : Bool). None ≡ first_failing 11 (alert_tests t h c.args.clock c.args.command.now log)) refl (rw c.in-None.is at stands)
