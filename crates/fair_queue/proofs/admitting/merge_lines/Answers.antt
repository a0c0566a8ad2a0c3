use Rattle.std.proofs.Common.{◌∙◌, refl, subst, OnOk, IfErr}
use Rattle.ddr_io.specs.Sink.{AppendsPrefix}
use Rattle.std.specs.Io.KnownBytes.{Appends}
use Rattle.fair_queue.specs.Reading.{unread}
use Rattle.fair_queue.specs.Merged.{ending}
use Rattle.fair_queue.proofs.Ending.{cut-end, merges-end, reads-end}
use Rattle.ddr_text.proofs.Prefixes.{if_err, if_err-to, on_ok-to}
use Rattle.fair_queue.proofs.Pieces.{on_ok}
use Rattle.fair_queue.proofs.Rounding.{cut-here, cut-next, ends-filled, ends-first, fewer-left, merging-filled, merging-first, merging-next, settled-filled, settled-first, settled-next}
use Rattle.fair_queue.proofs.admitting.merge_lines.Goals as goal

pub rounds-init : goal.rounds-init
rounds-init g c =
    let start = unread c.args.lines.now (g.S.Source.left c.args.source.now) in
    record {
      merged = merging-first c.args.cap start c.args.queues.now c.args.lines.now (g.K.Sink.written c.args.sink.now) c.requires.queues c.requires.lines;
      settled = settled-first c.args.queues.now c.args.lines.now c.requires.queues c.requires.lines;
      ended = ends-first start c.args.lines.now c.requires.lines;
      kept = refl;
      kept_written = refl;
    }

pub returns-in_err-fill-clause-begins_to_merge : goal.returns-in_err-fill-clause-begins_to_merge
returns-in_err-fill-clause-begins_to_merge g c =
    let i = c.rounds.invariant in
    if_err _ _ (cut-here c.args.cap c.rounds.count (unread c.args.lines.now (g.S.Source.left c.args.source.now)) (unread c.rounds.lines (g.S.Source.left c.rounds.source)) c.rounds.queues c.rounds.lines (g.K.Sink.written c.args.sink.now) (g.K.Sink.written c.rounds.sink) i.merged i.ended)

pub rounds-smaller : goal.rounds-smaller
rounds-smaller g c =
    let i = c.rounds.invariant in
    let s = settled-filled c.rounds.count c.rounds.queues c.fill.new.queues c.rounds.lines c.fill.new.lines i.settled c.in_ok-fill.ensures.queues c.in_ok-fill.ensures.steady c.in_ok-fill.ensures.few in
    fewer-left c.rounds.queues c.fill.new.queues c.admit.new.self c.rounds.lines c.fill.new.lines c.in-Some.rest c.in_ok-fill.ensures.steady i.settled.most c.in_ok-fill.ensures.few s.four s.turn c.in-Some.ensures

pub rounds-preserved : goal.rounds-preserved
rounds-preserved g c =
    let i = c.rounds.invariant in
    let start = unread c.args.lines.now (g.S.Source.left c.args.source.now) in
    let now = unread c.rounds.lines (g.S.Source.left c.rounds.source) in
    let later = unread c.fill.new.lines (g.S.Source.left c.fill.new.source) in
    let s = settled-filled c.rounds.count c.rounds.queues c.fill.new.queues c.rounds.lines c.fill.new.lines i.settled c.in_ok-fill.ensures.queues c.in_ok-fill.ensures.steady c.in_ok-fill.ensures.few in
    let f = merging-filled c.args.cap c.rounds.count start now later c.rounds.queues c.fill.new.queues c.rounds.lines c.fill.new.lines (g.K.Sink.written c.args.sink.now) (g.K.Sink.written c.rounds.sink) i.merged i.settled.four c.in_ok-fill.ensures.filled in
    let e = ends-filled c.args.cap c.rounds.count start now later c.rounds.queues c.rounds.lines c.fill.new.lines (g.K.Sink.written c.args.sink.now) (g.K.Sink.written c.rounds.sink) i.merged i.ended c.in_ok-fill.ensures.ended in
    record {
      merged = merging-next c.args.cap c.rounds.count c.in_ok-count-in-Some.count start later c.fill.new.queues c.admit.new.self c.fill.new.lines (g.K.Sink.written c.args.sink.now) (g.K.Sink.written c.rounds.sink) (g.K.Sink.written c.put_rest.new.sink) c.in-Some.rest
          f s.four s.turn c.in-Some.ensures c.in_ok-count-in-Some.ensures.count c.in_ok-count-in-Some.ensures.whole;
      settled = settled-next c.rounds.count c.in_ok-count-in-Some.count c.fill.new.queues c.admit.new.self c.fill.new.lines c.in-Some.rest s c.in-Some.ensures c.in_ok-count-in-Some.ensures.count;
      ended = e;
      kept = c.in_ok-fill.ensures.faults_kept ∙ i.kept;
      kept_written = c.in_ok-count-in-Some.ensures.faults_kept ∙ i.kept_written;
    }

pub returns-in_err-count-in-Some-clause-begins_to_merge : goal.returns-in_err-count-in-Some-clause-begins_to_merge
returns-in_err-count-in-Some-clause-begins_to_merge g c =
    let i = c.rounds.invariant in
    let start = unread c.args.lines.now (g.S.Source.left c.args.source.now) in
    let now = unread c.rounds.lines (g.S.Source.left c.rounds.source) in
    let later = unread c.fill.new.lines (g.S.Source.left c.fill.new.source) in
    let s = settled-filled c.rounds.count c.rounds.queues c.fill.new.queues c.rounds.lines c.fill.new.lines i.settled c.in_ok-fill.ensures.queues c.in_ok-fill.ensures.steady c.in_ok-fill.ensures.few in
    let f = merging-filled c.args.cap c.rounds.count start now later c.rounds.queues c.fill.new.queues c.rounds.lines c.fill.new.lines (g.K.Sink.written c.args.sink.now) (g.K.Sink.written c.rounds.sink) i.merged i.settled.four c.in_ok-fill.ensures.filled in
    let e = ends-filled c.args.cap c.rounds.count start now later c.rounds.queues c.rounds.lines c.fill.new.lines (g.K.Sink.written c.args.sink.now) (g.K.Sink.written c.rounds.sink) i.merged i.ended c.in_ok-fill.ensures.ended in
    if_err _ _ (cut-next c.args.cap c.rounds.count start later c.fill.new.queues c.admit.new.self c.fill.new.lines (g.K.Sink.written c.args.sink.now) (g.K.Sink.written c.rounds.sink) (g.K.Sink.written c.put_rest.new.sink) c.in-Some.rest
    f e s.four s.turn c.in-Some.ensures c.in_err-count-in-Some.ensures.writes_a_prefix)

pub returns-in-None-clause-whole : goal.returns-in-None-clause-whole
returns-in-None-clause-whole g c =
    let i = c.rounds.invariant in
    let start = unread c.args.lines.now (g.S.Source.left c.args.source.now) in
    let now = unread c.rounds.lines (g.S.Source.left c.rounds.source) in
    let later = unread c.fill.new.lines (g.S.Source.left c.fill.new.source) in
    let s = settled-filled c.rounds.count c.rounds.queues c.fill.new.queues c.rounds.lines c.fill.new.lines i.settled c.in_ok-fill.ensures.queues c.in_ok-fill.ensures.steady c.in_ok-fill.ensures.few in
    let f = merging-filled c.args.cap c.rounds.count start now later c.rounds.queues c.fill.new.queues c.rounds.lines c.fill.new.lines (g.K.Sink.written c.args.sink.now) (g.K.Sink.written c.rounds.sink) i.merged i.settled.four c.in_ok-fill.ensures.filled in
    let e = ends-filled c.args.cap c.rounds.count start now later c.rounds.queues c.rounds.lines c.fill.new.lines (g.K.Sink.written c.args.sink.now) (g.K.Sink.written c.rounds.sink) i.merged i.ended c.in_ok-fill.ensures.ended in
    on_ok-to c.put_ending.result _ _
    (merges-end c.args.cap c.rounds.count start later c.fill.new.queues c.admit.new.self c.fill.new.lines (g.K.Sink.written c.args.sink.now) (g.K.Sink.written c.rounds.sink) (g.K.Sink.written c.put_ending.new.sink) f e s.turn c.in_ok-fill.ensures.stopped c.in-None.ensures)
    (subst (λ b. OnOk c.put_ending.result (Appends (g.K.Sink.written c.rounds.sink) (g.K.Sink.written c.put_ending.new.sink) (ending b))) c.is_bad.ensures c.put_ending.ensures.whole)

pub returns-in-None-clause-used_up : goal.returns-in-None-clause-used_up
returns-in-None-clause-used_up g c =
    let i = c.rounds.invariant in
    let start = unread c.args.lines.now (g.S.Source.left c.args.source.now) in
    let now = unread c.rounds.lines (g.S.Source.left c.rounds.source) in
    let later = unread c.fill.new.lines (g.S.Source.left c.fill.new.source) in
    let s = settled-filled c.rounds.count c.rounds.queues c.fill.new.queues c.rounds.lines c.fill.new.lines i.settled c.in_ok-fill.ensures.queues c.in_ok-fill.ensures.steady c.in_ok-fill.ensures.few in
    let f = merging-filled c.args.cap c.rounds.count start now later c.rounds.queues c.fill.new.queues c.rounds.lines c.fill.new.lines (g.K.Sink.written c.args.sink.now) (g.K.Sink.written c.rounds.sink) i.merged i.settled.four c.in_ok-fill.ensures.filled in
    let e = ends-filled c.args.cap c.rounds.count start now later c.rounds.queues c.rounds.lines c.fill.new.lines (g.K.Sink.written c.args.sink.now) (g.K.Sink.written c.rounds.sink) i.merged i.ended c.in_ok-fill.ensures.ended in
    on_ok c.put_ending.result _ (reads-end c.args.cap c.rounds.count start (g.S.Source.left c.fill.new.source) c.fill.new.queues c.admit.new.self c.fill.new.lines (g.K.Sink.written c.args.sink.now) (g.K.Sink.written c.rounds.sink) f e s.turn c.in_ok-fill.ensures.stopped c.in-None.ensures)

pub returns-in-None-clause-begins_to_merge : goal.returns-in-None-clause-begins_to_merge
returns-in-None-clause-begins_to_merge g c =
    let i = c.rounds.invariant in
    let start = unread c.args.lines.now (g.S.Source.left c.args.source.now) in
    let now = unread c.rounds.lines (g.S.Source.left c.rounds.source) in
    let later = unread c.fill.new.lines (g.S.Source.left c.fill.new.source) in
    let s = settled-filled c.rounds.count c.rounds.queues c.fill.new.queues c.rounds.lines c.fill.new.lines i.settled c.in_ok-fill.ensures.queues c.in_ok-fill.ensures.steady c.in_ok-fill.ensures.few in
    let f = merging-filled c.args.cap c.rounds.count start now later c.rounds.queues c.fill.new.queues c.rounds.lines c.fill.new.lines (g.K.Sink.written c.args.sink.now) (g.K.Sink.written c.rounds.sink) i.merged i.settled.four c.in_ok-fill.ensures.filled in
    let e = ends-filled c.args.cap c.rounds.count start now later c.rounds.queues c.rounds.lines c.fill.new.lines (g.K.Sink.written c.args.sink.now) (g.K.Sink.written c.rounds.sink) i.merged i.ended c.in_ok-fill.ensures.ended in
    if_err-to c.put_ending.result _ _
    (cut-end c.args.cap c.rounds.count start later c.fill.new.queues c.admit.new.self c.fill.new.lines (g.K.Sink.written c.args.sink.now) (g.K.Sink.written c.rounds.sink) (g.K.Sink.written c.put_ending.new.sink) f e s.turn c.in_ok-fill.ensures.stopped c.in-None.ensures)
    (subst (λ b. IfErr c.put_ending.result (λ stop. AppendsPrefix (g.K.Sink.written c.rounds.sink) (g.K.Sink.written c.put_ending.new.sink) (ending b))) c.is_bad.ensures c.put_ending.ensures.writes_a_prefix)
