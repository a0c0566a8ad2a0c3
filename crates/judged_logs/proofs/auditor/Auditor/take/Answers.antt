use Rattle.judged_logs.proofs.Taking.{ended_again, told_again}
use Rattle.judged_logs.proofs.auditor.Auditor.take.Goals as goal

pub returns-clause-stays : goal.returns-clause-stays
returns-clause-stays c = rw (← c.self.view_is) (told_again c.args.line.now c.self.inside.judge c.take.new.self c.take.result c.take.ensures.kept c.take.ensures.so_far)

pub returns-clause-ends : goal.returns-clause-ends
returns-clause-ends c = ended_again c.args.line.now c.self.inside.judge c.take.new.self c.take.result c.take.ensures.kept c.take.ensures.so_far
