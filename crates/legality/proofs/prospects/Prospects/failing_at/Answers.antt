use Rattle.legality.specs.Standing.{StandsFor}
use Rattle.legality.proofs.Chancing.{chances_are}
use Rattle.legality.proofs.prospects.Prospects.failing_at.Goals as goal

pub returns : goal.returns
unfolding StandsFor
returns c = λ h log stands.
    let alerted = c.alert.ensures h log stands.activity in
    rw (c.or-5.ensures, c.or-4.ensures, c.or-3.ensures, c.or-2.ensures, c.or.ensures)
    (chances_are h _ c.args.best c.args.command.now log c.broken.result c.bank_rule.result c.broken-2.result c.broken-3.result c.management_rule.result c.write_rule.result
    (c.broken.ensures.least h.timing log stands.gate)
    (c.bank_rule.ensures log stands.banks)
    (c.broken-2.ensures.least h log stands.plan)
    (c.broken-3.ensures h log stands.raa)
    (c.management_rule.ensures h log stands.raa alerted)
    (c.write_rule.ensures h log stands.writes stands.places))
