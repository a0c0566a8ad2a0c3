use Rattle.std.proofs.Common.{◌∙◌}
use Rattle.judged_logs.proofs.Taking.{has_shape}
use Rattle.judged_logs.proofs.auditor.Auditor.geometry.Goals as goal

pub returns-clause-shape : goal.returns-clause-shape
returns-clause-shape c = rw (← c.self.view_is) (λ j h log stands. c.geometry.ensures ∙ has_shape c.self.inside.judge j h log stands)
