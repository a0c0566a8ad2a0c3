use Rattle.std.proofs.Common.{sym, ap, Bool}
use Rattle.judged_logs.specs.Verdicts.{where_judged}
use Rattle.judged_logs.proofs.groups.passes.Goals as goal

pub returns-then-judged : goal.returns-then-judged
returns-then-judged c = ap (λ (t : Bool). where_judged t c.args.test) (sym c.if-judged.true)

pub returns-else-judged : goal.returns-else-judged
returns-else-judged c = ap (λ (t : Bool). where_judged t c.args.test) (sym c.if-judged.false)
