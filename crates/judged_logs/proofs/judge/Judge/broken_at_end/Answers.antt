use Rattle.std.proofs.Common.{◌∙◌, ap, Bool}
use Rattle.judged_logs.specs.Verdicts.{where_judged}
use Rattle.judged_logs.proofs.Verdicts.{end_broken_is}
use Rattle.judged_logs.proofs.judge.Judge.broken_at_end.Goals as goal

pub returns : goal.returns
returns c = λ h log parts.
    let j = c.args.self.now.judged in
    rw (c.or-3.ensures, c.or-2.ensures, c.or.ensures)
    (end_broken_is j h c.args.clock log
    c.is_later.result c.is_refreshed.result c.is_in_time.result c.passes.result c.failing.result c.failing-2.result c.failing-3.result c.failing-4.result
    c.failing.ensures c.failing-2.ensures c.failing-3.ensures c.failing-4.ensures
    (c.is_later.ensures h log parts.gate)
    (c.is_refreshed.ensures j.refresh h log parts.plan)
    (c.is_in_time.ensures j.backoff h log parts.activity parts.timing)
    (c.passes.ensures ∙ ap (λ (t : Bool). where_judged j.frame t) (c.is_complete.ensures h log parts)))
