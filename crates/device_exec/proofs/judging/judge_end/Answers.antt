use Rattle.device_exec.proofs.Judged.{ended_breaks, ended_fine, may_judge}
use Rattle.device_exec.proofs.judging.judge_end.Goals as goal

pub take-requires-clause-going_on : goal.take-requires-clause-going_on
take-requires-clause-going_on c = may_judge c.args.auditor.now c.requires.fine

pub returns-in-Fine-clause-judged : goal.returns-in-Fine-clause-judged
returns-in-Fine-clause-judged c = λ h log fine. ended_fine h log c.args.clock c.take.new.self (c.in-Fine.ensures.taken h log fine.stands)

pub returns-in-Breaks-clause-judged : goal.returns-in-Breaks-clause-judged
returns-in-Breaks-clause-judged c = λ h log fine. ended_breaks h log c.args.clock c.args.auditor.now c.take.new.self c.in-Breaks.rule fine (c.in-Breaks.ensures.taken h log fine.stands)
