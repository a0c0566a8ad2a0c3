use Rattle.std.proofs.Common.{◌∙◌}
use Rattle.judged_logs.proofs.Taking.{goes_on, stands_for_some}
use Rattle.judged_logs.proofs.auditor.Auditor.has_ended.Goals as goal

pub returns-clause-going_on : goal.returns-clause-going_on
returns-clause-going_on c = rw (← c.self.view_is) (λ j h log stands. c.has_ended.ensures ∙ goes_on c.self.inside.judge j h log stands)

pub returns-clause-stands : goal.returns-clause-stands
returns-clause-stands c = rw (← c.self.view_is) (stands_for_some c.self.inside.judge c.self.invariant)
