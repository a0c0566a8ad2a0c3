use Rattle.row_activity.proofs.TrialLemmas.{one_row_accepted}
use Rattle.row_activity.proofs.tests.fresh.Goals as goal

pub new-requires : goal.new-requires
new-requires c = rw c.version.ensures one_row_accepted
