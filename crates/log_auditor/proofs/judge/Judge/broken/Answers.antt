use Rattle.std.proofs.Common.{◌∙◌, ap}
use Rattle.std.specs.Option.{is_some}
use Rattle.log_auditor.proofs.Judging.{broken_is}
use Rattle.log_auditor.proofs.judge.Judge.broken.Goals as goal

pub returns : goal.returns
returns c = λ h log parts.
    let first = c.alert.ensures h log parts.activity in
    let second = c.alert-2.ensures h log parts.activity in
    rw (c.or-3.ensures, c.or-2.ensures, c.or.ensures)
    (broken_is h c.args.clock c.args.command.now log c.broken.result c.management_rule.result c.alert_rule.result c.write_rule.result
    (c.broken.ensures.least h log parts.ledger)
    (c.management_rule.ensures h log parts.ledger (c.is_some-raised.ensures ∙ ap is_some (c.raised.ensures.log h log first)))
    (c.alert_rule.ensures h log second parts.timing)
    (c.write_rule.ensures h log parts))
