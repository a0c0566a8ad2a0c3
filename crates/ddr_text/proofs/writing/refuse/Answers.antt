use Rattle.std.proofs.Common.{◌∙◌, sym, subst}
use Rattle.ddr_io.specs.declared.status.Status.{Status}
use Rattle.ddr_text.specs.Outcome.{RefusesLine}
use Rattle.ddr_text.proofs.Outcomes.{refuses-cut, stop-kept, stop-rose}
use Rattle.ddr_text.proofs.writing.refuse.Goals as goal

pub returns-in-Err-clause-written : goal.returns-in-Err-clause-written
returns-in-Err-clause-written g c =
    subst (λ (s : Status). RefusesLine s c.args.number c.args.reason (g.K.Sink.written c.args.sink.now) (g.K.Sink.written c.put_line.new.sink)) (sym c.status.ensures)
    (refuses-cut c.in-Err.stop (g.K.Sink.faults c.args.sink.now) (g.K.Sink.faults c.put_line.new.sink) c.args.number c.args.reason (g.K.Sink.written c.args.sink.now) (g.K.Sink.written c.put_line.new.sink) c.in-Err.ensures.cause c.in-Err.ensures.writes_a_prefix)

pub returns-in-Err-clause-write : goal.returns-in-Err-clause-write
returns-in-Err-clause-write g c = λ is. stop-rose c.in-Err.stop (g.K.Sink.faults c.args.sink.now) (g.K.Sink.faults c.put_line.new.sink) c.in-Err.ensures.cause (sym c.status.ensures ∙ is)

pub returns-in-Err-clause-writes_kept : goal.returns-in-Err-clause-writes_kept
returns-in-Err-clause-writes_kept g c = λ other. stop-kept c.in-Err.stop (g.K.Sink.faults c.args.sink.now) (g.K.Sink.faults c.put_line.new.sink) c.in-Err.ensures.cause (λ is. other (c.status.ensures ∙ is))
