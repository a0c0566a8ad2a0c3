use Rattle.std.proofs.Common.{sym, subst}
use Rattle.ddr_io.specs.Line.{next_bytes}
use Rattle.ddr_io.specs.declared.status.Status.{Status}
use Rattle.ddr_text.specs.Io.{io}
use Rattle.ddr_text.specs.Outcome.{AnswersAs}
use Rattle.device_exec.specs.Running.{IsOpened}
use Rattle.device_exec.proofs.Openings.{opened_cut, opened_nothing, opened_runs}
use Rattle.device_exec.proofs.exec_loop.run_behind.Goals as goal

pub returns-in-Err-clause-answer : goal.returns-in-Err-clause-answer
returns-in-Err-clause-answer g c = opened_nothing c.args.header.now c.args.text.now (next_bytes c.args.reader.held (g.S.Source.left c.args.source.now)) (g.K.Sink.written c.args.sink.now)

pub returns-in-Ok-put_opening-clause-answer : goal.returns-in-Ok-put_opening-clause-answer
returns-in-Ok-put_opening-clause-answer g c =
    opened_runs c.args.header.now c.args.text.now (next_bytes c.args.reader.held (g.S.Source.left c.args.source.now)) c.run_lines.result (g.S.Source.left c.args.source.now) (g.S.Source.left c.run_lines.new.source) (g.K.Sink.written c.args.sink.now) (g.K.Sink.written c.put_opening.new.sink) (g.K.Sink.written c.run_lines.new.sink)
    c.in-Ok-put_opening.ensures.whole c.run_lines.ensures.answer

pub returns-clause-answer : goal.returns-clause-answer
returns-clause-answer g c =
    subst (λ (t : Status). AnswersAs (IsOpened c.args.header.now c.args.text.now (next_bytes c.args.reader.held (g.S.Source.left c.args.source.now))) t (io (g.S.Source.left c.args.source.now) (g.S.Source.left c.args.source.now) (g.K.Sink.written c.args.sink.now) (g.K.Sink.written c.put_opening.new.sink))) (sym c.status.ensures)
    (opened_cut c.args.header.now c.args.text.now (next_bytes c.args.reader.held (g.S.Source.left c.args.source.now)) (g.S.Source.left c.args.source.now) (g.S.Source.left c.args.source.now) (g.K.Sink.written c.args.sink.now) (g.K.Sink.written c.put_opening.new.sink) c.in-Err-put_opening.stop (g.K.Sink.faults c.args.sink.now) (g.K.Sink.faults c.put_opening.new.sink)
    c.in-Err-put_opening.ensures.writes_a_prefix c.in-Err-put_opening.ensures.cause)
