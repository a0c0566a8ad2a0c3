use Rattle.std.proofs.Common.{None, subst, sym}
use Rattle.std.proofs.KnownBytes.{Appends-nil}
use Rattle.ddr_io.specs.Line.{next_bytes}
use Rattle.ddr_io.specs.declared.status.Status.{Status}
use Rattle.rank_pair.specs.Answers.{TraceAnswers}
use Rattle.rank_pair.proofs.Answered.{registers_cut}
use Rattle.rank_pair.proofs.pair_loop.begin.Goals as goal

pub run_lines-requires-clause-there : goal.run_lines-requires-clause-there
run_lines-requires-clause-there g c = c.in-Ok.ensures.started None tt

pub returns-in-Ok-clause-answer : goal.returns-in-Ok-clause-answer
returns-in-Ok-clause-answer g c = λ text before wrote.
    let w = g.K.Sink.written c.args.sink.now in
    c.run_lines.ensures.answer text before w wrote (c.in-Ok.ensures.started w (Appends-nil w))

pub returns-in-Err-clause-answer : goal.returns-in-Err-clause-answer
returns-in-Err-clause-answer g c = λ text before wrote.
    let w = g.K.Sink.written c.args.sink.now in
    let start = next_bytes c.args.reader.held (g.S.Source.left c.args.source.now) in
    let left = g.S.Source.left c.args.source.now in
    let after = g.K.Sink.written c.start.new.sink in
    subst (λ (t : Status). TraceAnswers t c.args.header.now text start left before after) (sym c.status.ensures)
    (registers_cut c.args.header.now text start left before w after c.in-Err.stop (g.K.Sink.faults c.args.sink.now) (g.K.Sink.faults c.start.new.sink) wrote (c.in-Err.ensures.begins_a_report w (Appends-nil w)) c.in-Err.ensures.cause)
