use Rattle.foreign_traces.proofs.Lines.{job_begins, report_begins}
use Rattle.foreign_traces.proofs.writing.put_heading.Goals as goal

pub returns-in-Ok-clause-report : goal.returns-in-Ok-clause-report
returns-in-Ok-clause-report g c = λ shape. report_begins shape c.args.text.now _ _ c.in-Ok.ensures.whole

pub returns-in-Ok-clause-job : goal.returns-in-Ok-clause-job
returns-in-Ok-clause-job g c = λ shape. job_begins shape c.args.text.now _ _ c.in-Ok.ensures.whole

pub returns-in-Err-clause-cause : goal.returns-in-Err-clause-cause
returns-in-Err-clause-cause g c = c.of.ensures _ _ c.in-Err.ensures.cause
