use Rattle.std.proofs.Common.{◌∙◌, ◌+◌, ◌&&◌, ap, refl, length, nat_le, is_none}
use Rattle.speed_bin.specs.Alert.{alert}
use Rattle.speed_bin.specs.Below.{all_below}
use Rattle.speed_bin.specs.Gap.{n_tail}
use Rattle.speed_bin.specs.Rules.{after, all_closed, is_on_time, rule_1, rule_13, until}
use Rattle.speed_bin.specs.declared.timing.Timing.{Timing}
use Rattle.log_auditor.proofs.Judging.{end_broken_is}
use Rattle.log_auditor.proofs.judge.Judge.broken_at_end.Goals as goal

pub returns : goal.returns
returns c = λ h log parts.
    let clock = c.args.clock in
    rw (c.or-3.ensures, c.or-2.ensures, c.or.ensures)
    (end_broken_is h clock log (rule_1 clock log) (all_below 4 (λ address. is_on_time h clock address log)) (rule_13 h clock log) (nat_le 8 (length log) && (all_closed log && is_none (alert h log)))
    c.is_later.result c.allowed_at_end.result c.until-in_time.result c.is_complete.result c.failing.result c.failing-2.result c.failing-3.result c.failing-4.result
    c.failing.ensures c.failing-2.ensures c.failing-3.ensures c.failing-4.ensures
    (c.is_later.ensures h log parts.ledger)
    (c.allowed_at_end.ensures h log parts.ledger)
    (c.until-in_time.ensures ∙ ap (λ o. until clock o) (c.deadline.ensures.log h log (c.alert.ensures h log parts.activity) ∙ ap (λ (t : Timing). after (alert h log) (t.nabo + n_tail t)) parts.timing))
    (c.is_complete.ensures h log parts)
    refl)
