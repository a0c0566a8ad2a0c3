use Rattle.std.proofs.Common.{◌≡◌, ◌∙◌, ◌&&◌, [], ◌∷◌, ap, subst}
use Rattle.std.specs.Prelude.{if◌then◌else◌}
use Rattle.std.specs.List.{flat_map}
use Rattle.std.specs.Io.KnownBytes.{Appends}
use Rattle.ddr_text.specs.Opening.{with_feed}
use Rattle.fair_queue.specs.Merged.{barriers, barrier, is_due, is_request}
use Rattle.ddr_text.proofs.Prefixes.{if_err}
use Rattle.fair_queue.proofs.Pieces.{cut-rest}
use Rattle.fair_queue.proofs.writing.put_rest.Goals as goal

pub returns-in_err-put_with_feed-clause-writes_a_prefix : goal.returns-in_err-put_with_feed-clause-writes_a_prefix
returns-in_err-put_with_feed-clause-writes_a_prefix g c =
    let due : c.is_barred.result ≡ (is_request c.args.rest.now && is_due c.args.cap c.args.count) =
    c.is_barred.ensures ∙ ap (λ b. b && is_due c.args.cap c.args.count) (c.is_request-asks.ensures ∙ ap is_request c.bytes.ensures.bytes) in
    if_err _ _ (cut-rest (g.K.Sink.written c.args.sink.now) (g.K.Sink.written c.put_barrier.new.sink) (g.K.Sink.written c.put_with_feed.new.sink) (barriers c.args.cap c.args.count c.args.rest.now) c.args.rest.now c.bytes-2.result.now c.bytes-2.ensures.bytes
    (subst (λ b. Appends (g.K.Sink.written c.args.sink.now) (g.K.Sink.written c.put_barrier.new.sink) (flat_map with_feed (if b then barrier ∷ [] else []))) due c.in_ok-put_barrier.ensures.whole)
    c.in_err-put_with_feed.ensures.writes_a_prefix)
