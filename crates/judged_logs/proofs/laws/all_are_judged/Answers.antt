use Rattle.judged_logs.proofs.Whole.{all_judged, all_judged_at_end}
use Rattle.judged_logs.proofs.laws.all_are_judged.Goals as goal

pub returns-clause-log : goal.returns-clause-log
returns-clause-log c = all_judged

pub returns-clause-at_end : goal.returns-clause-at_end
returns-clause-at_end c = all_judged_at_end
