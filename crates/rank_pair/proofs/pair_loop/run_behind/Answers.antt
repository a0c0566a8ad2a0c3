use Rattle.std.proofs.Common.{subst, sym}
use Rattle.ddr_io.specs.Line.{next_bytes}
use Rattle.ddr_io.specs.declared.status.Status.{Status}
use Rattle.rank_pair.specs.Answers.{TraceAnswers}
use Rattle.rank_pair.proofs.Answered.{nothing_written, opening_cut}
use Rattle.rank_pair.proofs.pair_loop.run_behind.Goals as goal

pub returns-in-Err-clause-answer : goal.returns-in-Err-clause-answer
returns-in-Err-clause-answer g c = nothing_written c.args.header.now c.args.text.now (next_bytes c.args.reader.held (g.S.Source.left c.args.source.now)) (g.S.Source.left c.args.source.now) (g.K.Sink.written c.args.sink.now)

pub returns-in-Ok-put_opening-clause-answer : goal.returns-in-Ok-put_opening-clause-answer
returns-in-Ok-put_opening-clause-answer g c = c.begin.ensures.answer c.args.text.now (g.K.Sink.written c.args.sink.now) c.in-Ok-put_opening.ensures.whole

pub returns-clause-answer : goal.returns-clause-answer
returns-clause-answer g c =
    let start = next_bytes c.args.reader.held (g.S.Source.left c.args.source.now) in
    let left = g.S.Source.left c.args.source.now in
    let before = g.K.Sink.written c.args.sink.now in
    let after = g.K.Sink.written c.put_opening.new.sink in
    subst (λ (t : Status). TraceAnswers t c.args.header.now c.args.text.now start left before after) (sym c.status.ensures)
    (opening_cut c.args.header.now c.args.text.now start left before after c.in-Err-put_opening.stop (g.K.Sink.faults c.args.sink.now) (g.K.Sink.faults c.put_opening.new.sink) c.in-Err-put_opening.ensures.writes_a_prefix c.in-Err-put_opening.ensures.cause)
