use Rattle.std.proofs.Common.{◌∙◌, sym, subst}
use Rattle.ddr_io.specs.declared.status.Status.{Status}
use Rattle.log_auditor.specs.Findings.{Answers}
use Rattle.log_auditor.proofs.Endings.{answers_found, answers_stopped, stopped_read, written_no_read}
use Rattle.ddr_text.specs.Io.{io}
use Rattle.log_auditor.proofs.audit_loop.audit.Goals as goal

pub returns-in-Ok-clause-answer : goal.returns-in-Ok-clause-answer
returns-in-Ok-clause-answer g c = answers_found c.write_finding.result c.in-Ok.finding (g.S.Source.left c.args.source.now) (g.S.Source.left c.find.new.source) (g.K.Sink.written c.args.sink.now) (g.K.Sink.written c.write_finding.new.sink) c.in-Ok.ensures.found c.in-Ok.ensures.all c.write_finding.ensures.written

pub returns-in-Err-clause-answer : goal.returns-in-Err-clause-answer
returns-in-Err-clause-answer g c = subst (λ (s : Status). Answers s (io (g.S.Source.left c.args.source.now) (g.S.Source.left c.find.new.source) (g.K.Sink.written c.args.sink.now) (g.K.Sink.written c.args.sink.now))) (sym c.status.ensures) (answers_stopped c.in-Err.stop (g.S.Source.faults c.args.source.now) (g.S.Source.faults c.find.new.source) (g.S.Source.left c.args.source.now) (g.S.Source.left c.find.new.source) (g.K.Sink.written c.args.sink.now) c.in-Err.ensures.cause)

pub returns-in-Err-clause-read : goal.returns-in-Err-clause-read
returns-in-Err-clause-read g c = λ is. stopped_read c.in-Err.stop (g.S.Source.faults c.args.source.now) (g.S.Source.faults c.find.new.source) c.in-Err.ensures.cause (sym c.status.ensures ∙ is)

pub returns-in-Ok-clause-read : goal.returns-in-Ok-clause-read
returns-in-Ok-clause-read g c = λ is. absurd (written_no_read c.write_finding.result c.in-Ok.finding (g.K.Sink.written c.args.sink.now) (g.K.Sink.written c.write_finding.new.sink) c.write_finding.ensures.written is)
