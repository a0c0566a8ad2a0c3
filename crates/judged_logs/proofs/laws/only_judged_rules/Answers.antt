use Rattle.judged_logs.proofs.Named.{named, named_at_end}
use Rattle.judged_logs.proofs.laws.only_judged_rules.Goals as goal

pub returns-clause-log : goal.returns-clause-log
returns-clause-log c = named

pub returns-clause-at_end : goal.returns-clause-at_end
returns-clause-at_end c = named_at_end
