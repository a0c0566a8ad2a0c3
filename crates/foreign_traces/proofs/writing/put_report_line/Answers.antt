use Rattle.foreign_traces.proofs.Lines.{report_more}
use Rattle.foreign_traces.proofs.writing.put_report_line.Goals as goal

pub returns-in-Ok-clause-report : goal.returns-in-Ok-clause-report
returns-in-Ok-clause-report g c = λ shape text before is it. report_more shape text before _ _ c.args.line.now it is c.in-Ok.ensures.whole

pub returns-in-Err-clause-cause : goal.returns-in-Err-clause-cause
returns-in-Err-clause-cause g c = c.of.ensures _ _ c.in-Err.ensures.cause
