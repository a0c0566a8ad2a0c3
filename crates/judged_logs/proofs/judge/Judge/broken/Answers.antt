use Rattle.std.proofs.Common.{◌∙◌, ap, ◌∷◌, [], Bool}
use Rattle.speed_bin.specs.Rules.{first_failing}
use Rattle.judged_logs.specs.Verdicts.{where_judged}
use Rattle.judged_logs.proofs.Verdicts.{broken_is}
use Rattle.judged_logs.proofs.judge.Judge.broken.Goals as goal

pub returns : goal.returns
returns c = λ h log parts.
    let j = c.args.self.now.judged in
    rw (c.or-5.ensures, c.or-4.ensures, c.or-3.ensures, c.or-2.ensures, c.or.ensures)
    (broken_is j h c.args.clock c.args.command.now log c.broken.result c.bank_rule.result c.refresh_rule.result c.count_rule.result c.backoff_rule.result c.failing.result
    (c.broken.ensures.least h.timing log parts.gate)
    (c.bank_rule.ensures log parts.banks)
    (c.refresh_rule.ensures j.refresh h log parts.plan)
    (c.count_rule.ensures h log parts.rolling)
    (c.backoff_rule.ensures j.backoff h log parts.activity parts.rolling parts.timing)
    (c.failing.ensures ∙ ap (λ (t : Bool). first_failing 14 (t ∷ [])) (c.passes.ensures ∙ ap (λ (t : Bool). where_judged j.frame t) (c.write_rule-written.ensures h log parts.writes parts.places))))
