use Rattle.std.proofs.Common.{◌∙◌}
use Rattle.judged_logs.proofs.Taking.{has_judged}
use Rattle.judged_logs.proofs.auditor.Auditor.judged.Goals as goal

pub returns-clause-stands : goal.returns-clause-stands
returns-clause-stands c = rw (← c.self.view_is) (λ j h log stands. c.judged.ensures ∙ has_judged c.self.inside.judge j h log stands)
