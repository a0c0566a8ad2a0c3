use Rattle.row_activity.specs.Standing.{StandsFor}
use Rattle.row_activity.proofs.Counting.{peak_within}
use Rattle.row_activity.proofs.activity.Activity.peak.Goals as goal

pub returns-clause-bounded : goal.returns-clause-bounded
unfolding StandsFor
returns-clause-bounded c = λ h log stands. rw stands.peak (peak_within h log stands.accepted stands.counted)
