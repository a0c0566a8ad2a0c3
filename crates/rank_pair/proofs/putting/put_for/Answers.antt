use Rattle.std.proofs.Common.{[], ◌∷◌, subst}
use Rattle.std.specs.Io.KnownBytes.{Appends}
use Rattle.ddr_io.specs.Sink.{AppendsPrefix}
use Rattle.ddr_text.specs.Spelling.{spelled}
use Rattle.ddr_text.proofs.Prefixes.{if_err, prefix-longer}
use Rattle.pair_reports.specs.Report.{digit_of}
use Rattle.rank_pair.proofs.Pieces.{cut-behind, whole-behind}
use Rattle.rank_pair.proofs.putting.put_for.Goals as goal

pub returns-clause-whole : goal.returns-clause-whole
returns-clause-whole g c =
    let a = g.K.Sink.written c.args.sink.now in
    let b = g.K.Sink.written c.put.new.sink in
    whole-behind c.put_line.result a b (g.K.Sink.written c.put_line.new.sink) (digit_of c.args.rank ∷ 32 ∷ []) (spelled c.args.line.now)
    (subst (Appends a b) c.front_of.ensures c.in_ok-put.ensures.whole) c.put_line.ensures.whole

pub returns-clause-writes_a_prefix : goal.returns-clause-writes_a_prefix
returns-clause-writes_a_prefix g c =
    let a = g.K.Sink.written c.args.sink.now in
    let b = g.K.Sink.written c.put.new.sink in
    cut-behind c.put_line.result a b (g.K.Sink.written c.put_line.new.sink) (digit_of c.args.rank ∷ 32 ∷ []) (spelled c.args.line.now)
    (subst (Appends a b) c.front_of.ensures c.in_ok-put.ensures.whole) c.put_line.ensures.writes_a_prefix

pub returns-in_err-put-clause-writes_a_prefix : goal.returns-in_err-put-clause-writes_a_prefix
returns-in_err-put-clause-writes_a_prefix g c =
    let a = g.K.Sink.written c.args.sink.now in
    let b = g.K.Sink.written c.put.new.sink in
    if_err _ _ (prefix-longer a b (digit_of c.args.rank ∷ 32 ∷ []) (spelled c.args.line.now) (subst (AppendsPrefix a b) c.front_of.ensures c.in_err-put.ensures.writes_a_prefix))
