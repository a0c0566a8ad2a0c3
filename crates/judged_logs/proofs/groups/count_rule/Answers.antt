use Rattle.std.proofs.Common.{◌∙◌, sym, ap, Bool}
use Rattle.speed_bin.specs.Rules.{first_failing}
use Rattle.judged_logs.specs.Verdicts.{count_tests}
use Rattle.judged_logs.proofs.groups.count_rule.Goals as goal

pub returns-then-judged : goal.returns-then-judged
returns-then-judged c = λ h log stands. c.broken.ensures h log stands ∙ ap (λ (t : Bool). first_failing 9 (count_tests t h c.args.command.now log)) (sym c.if-judged.true)

pub returns-else-judged : goal.returns-else-judged
returns-else-judged c = λ h log stands. ap (λ (t : Bool). first_failing 9 (count_tests t h c.args.command.now log)) (sym c.if-judged.false)
