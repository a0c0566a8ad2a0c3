use Rattle.std.proofs.Common.{◌∙◌}
use Rattle.log_auditor.proofs.Taking.{has_shape}
use Rattle.log_auditor.proofs.auditor.Auditor.geometry.Goals as goal

pub returns-clause-shape : goal.returns-clause-shape
returns-clause-shape c = rw (← c.self.view_is) (λ h log stands. c.geometry.ensures ∙ has_shape c.self.inside.judge h log stands)
