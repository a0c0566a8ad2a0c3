use Rattle.foreign_traces.proofs.Lines.{job_more}
use Rattle.foreign_traces.proofs.writing.put_job_line.Goals as goal

pub returns-in-Ok-clause-job : goal.returns-in-Ok-clause-job
returns-in-Ok-clause-job g c = λ shape text count before is it. job_more shape text count before _ _ c.args.line.now it is c.in-Ok.ensures.whole

pub returns-in-Err-clause-cause : goal.returns-in-Err-clause-cause
returns-in-Err-clause-cause g c = c.of.ensures _ _ c.in-Err.ensures.cause
