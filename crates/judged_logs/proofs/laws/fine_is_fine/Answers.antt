use Rattle.judged_logs.proofs.Whole.{fine_is_fine, fine_is_fine_at_end}
use Rattle.judged_logs.proofs.laws.fine_is_fine.Goals as goal

pub returns-clause-log : goal.returns-clause-log
returns-clause-log c = fine_is_fine

pub returns-clause-at_end : goal.returns-clause-at_end
returns-clause-at_end c = fine_is_fine_at_end
