use Rattle.reports.proofs.Controlled.{chosen-serves, prompt-late}
use Rattle.reports.proofs.laws.serves_what_is_chosen.Goals as goal

pub returns-clause-serving : goal.returns-clause-serving
returns-clause-serving c = chosen-serves

pub returns-clause-not_before_now : goal.returns-clause-not_before_now
returns-clause-not_before_now c = prompt-late
