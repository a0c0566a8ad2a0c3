use Rattle.std.proofs.Common.{◌∙◌}
use Rattle.log_auditor.proofs.Taking.{goes_on, stands_for_some}
use Rattle.log_auditor.proofs.auditor.Auditor.has_ended.Goals as goal

pub returns-clause-going_on : goal.returns-clause-going_on
returns-clause-going_on c = rw (← c.self.view_is) (λ h log stands. c.has_ended.ensures ∙ goes_on c.self.inside.judge h log stands)

pub returns-clause-stands : goal.returns-clause-stands
returns-clause-stands c = rw (← c.self.view_is) (stands_for_some c.self.inside.judge c.self.invariant)
