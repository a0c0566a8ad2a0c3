use Rattle.std.proofs.Common.{◌≡◌, ◌∙◌, ◌+◌, ℕ, ap, Bool, Option, true, refl}
use Rattle.speed_bin.specs.Gap.{n_tail}
use Rattle.speed_bin.specs.Rules.{after, rule_13, until}
use Rattle.speed_bin.specs.Alert.{alert}
use Rattle.speed_bin.specs.declared.timing.Timing.{Timing}
use Rattle.judged_logs.specs.Verdicts.{where_judged}
use Rattle.judged_logs.proofs.LeftOut.{by_activity, without_activity}
use Rattle.judged_logs.proofs.groups.is_in_time.Goals as goal

pub returns-in-Some : goal.returns-in-Some
returns-in-Some c = λ judged h log stands timing. by_activity judged c.in-Some.activity h log (λ (t : Bool). c.until.result ≡ where_judged t (rule_13 h c.args.clock log))
    (λ there. c.until.ensures ∙ ap (λ (last : Option ℕ). until c.args.clock last) (c.deadline.ensures.log h log (c.alert.ensures h log there) ∙ ap (λ (t : Timing). after (alert h log) (t.nabo + n_tail t)) timing)) (rw c.in-Some.is at stands)

pub returns-in-None : goal.returns-in-None
returns-in-None c = λ judged h log stands timing. without_activity judged h log (λ (t : Bool). true ≡ where_judged t (rule_13 h c.args.clock log)) refl (rw c.in-None.is at stands)
