use Rattle.std.proofs.Common.{◌≡◌, ◌∙◌, ℕ, ap, Bool, Option, true, is_none, refl}
use Rattle.speed_bin.specs.Alert.{alert}
use Rattle.judged_logs.specs.Verdicts.{where_judged}
use Rattle.judged_logs.proofs.LeftOut.{by_activity, none_told, without_activity}
use Rattle.judged_logs.proofs.groups.is_calm.Goals as goal

pub returns-in-Some : goal.returns-in-Some
returns-in-Some c = λ judged h log. rw c.in-Some.is (by_activity judged c.in-Some.activity h log (λ (t : Bool). c.is_none.result ≡ where_judged t (is_none (alert h log)))
    (λ there. none_told c.raised.result c.is_none.result c.is_none.ensures ∙ ap (λ (raised : Option ℕ). is_none raised) (c.raised.ensures.log h log (c.alert.ensures h log there))))

pub returns-in-None : goal.returns-in-None
returns-in-None c = λ judged h log. rw c.in-None.is (without_activity judged h log (λ (t : Bool). true ≡ where_judged t (is_none (alert h log))) refl)
