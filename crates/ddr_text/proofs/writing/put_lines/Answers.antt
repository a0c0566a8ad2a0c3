use Rattle.ddr_text.proofs.Prefixes.{lines-cut, if_err}
use Rattle.ddr_text.proofs.writing.put_lines.Goals as goal

pub returns-in_err-put_line-clause-writes_a_prefix : goal.returns-in_err-put_line-clause-writes_a_prefix
returns-in_err-put_line-clause-writes_a_prefix g c =
    if_err _ _ (lines-cut (g.K.Sink.written c.args.sink.now) (g.K.Sink.written c.loop-line.sink) (g.K.Sink.written c.put_line.new.sink) c.args.lines.now c.loop-line.line-index c.line-item.result c.loop-line-test.true c.line-item.is c.loop-line.invariant.written c.in_err-put_line.ensures.writes_a_prefix)
