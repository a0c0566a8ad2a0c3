use Rattle.std.proofs.Common.{◌∙◌, List, ℕ, subst}
use Rattle.std.specs.Io.KnownBytes.{Appends}
use Rattle.ddr_cli.proofs.UpgradeLemmas.{heading-cut}
use Rattle.ddr_cli.proofs.upgrading.put_heading.Goals as goal

pub returns-clause-writes_a_prefix : goal.returns-clause-writes_a_prefix
returns-clause-writes_a_prefix g c = λ line is.
    let whole = subst (λ (t : List ℕ). Appends (g.K.Sink.written c.args.sink.now) (g.K.Sink.written c.put.new.sink) t) c.bytes.ensures c.in_ok-put.ensures.whole in
    heading-cut c.put-2.result (g.K.Sink.written c.args.sink.now) (g.K.Sink.written c.put.new.sink) (g.K.Sink.written c.put-2.new.sink) c.args.text.now c.newer.result.now _ whole (c.newer.ensures line (c.bytes-2.ensures ∙ is)) c.put-2.ensures.writes_a_prefix
