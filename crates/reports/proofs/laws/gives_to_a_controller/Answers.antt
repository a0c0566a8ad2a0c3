use Rattle.reports.proofs.Offered.{places-steps, served-rank, rank-split}
use Rattle.reports.proofs.Underway.{steps-longer, none-waits}
use Rattle.reports.proofs.laws.gives_to_a_controller.Goals as goal

pub returns-clause-log : goal.returns-clause-log
returns-clause-log c = places-steps

pub returns-clause-served : goal.returns-clause-served
returns-clause-served c = served-rank

pub returns-clause-rank : goal.returns-clause-rank
returns-clause-rank c = rank-split

pub returns-clause-same_in_a_longer_trace : goal.returns-clause-same_in_a_longer_trace
returns-clause-same_in_a_longer_trace c = steps-longer

pub returns-clause-none : goal.returns-clause-none
returns-clause-none c = none-waits c.oldest_unserved.ensures.none
