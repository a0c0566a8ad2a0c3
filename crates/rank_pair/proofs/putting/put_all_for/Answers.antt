use Rattle.ddr_text.proofs.Prefixes.{if_err}
use Rattle.rank_pair.specs.Pairs.{spelled_by}
use Rattle.rank_pair.proofs.Pieces.{lines-cut}
use Rattle.rank_pair.proofs.putting.put_all_for.Goals as goal

pub returns-in_err-put_for-clause-writes_a_prefix : goal.returns-in_err-put_for-clause-writes_a_prefix
returns-in_err-put_for-clause-writes_a_prefix g c =
    if_err _ _ (lines-cut (spelled_by c.args.rank) (g.K.Sink.written c.args.sink.now) (g.K.Sink.written c.loop-line.sink) (g.K.Sink.written c.put_for.new.sink) c.args.lines.now c.loop-line.line-index c.line-item.result c.loop-line-test.true c.line-item.is c.loop-line.invariant.written c.in_err-put_for.ensures.writes_a_prefix)
