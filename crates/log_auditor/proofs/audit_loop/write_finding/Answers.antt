use Rattle.std.proofs.Common.{◌∙◌, ℕ, List, sym, subst}
use Rattle.ddr_io.specs.Sink.{AppendsPrefix}
use Rattle.ddr_io.specs.declared.status.Status.{Status}
use Rattle.ddr_text.proofs.Outcomes.{stop-kept, stop-rose}
use Rattle.log_auditor.specs.AuditSoFar.{IsWritten}
use Rattle.log_auditor.proofs.Endings.{cut_written}
use Rattle.log_auditor.proofs.audit_loop.write_finding.Goals as goal

pub returns-in-Err-clause-written : goal.returns-in-Err-clause-written
returns-in-Err-clause-written g c =
    subst (λ (s : Status). IsWritten s c.args.finding (g.K.Sink.written c.args.sink.now) (g.K.Sink.written c.put.new.sink)) (sym c.status-in-Err.ensures)
    (cut_written c.in-Err.cut c.args.finding (g.K.Sink.faults c.args.sink.now) (g.K.Sink.faults c.put.new.sink) (g.K.Sink.written c.args.sink.now) (g.K.Sink.written c.put.new.sink) c.in-Err.ensures.cause
    (subst (λ (bytes : List ℕ). AppendsPrefix (g.K.Sink.written c.args.sink.now) (g.K.Sink.written c.put.new.sink) bytes) (c.deref.ensures.0 ∙ c.spell.ensures) c.in-Err.ensures.writes_a_prefix))

pub returns-in-Err-clause-write : goal.returns-in-Err-clause-write
returns-in-Err-clause-write g c = λ is. stop-rose c.in-Err.cut (g.K.Sink.faults c.args.sink.now) (g.K.Sink.faults c.put.new.sink) c.in-Err.ensures.cause (sym c.status-in-Err.ensures ∙ is)

pub returns-in-Err-clause-faults_kept : goal.returns-in-Err-clause-faults_kept
returns-in-Err-clause-faults_kept g c = λ other. stop-kept c.in-Err.cut (g.K.Sink.faults c.args.sink.now) (g.K.Sink.faults c.put.new.sink) c.in-Err.ensures.cause (λ is. other (c.status-in-Err.ensures ∙ is))
