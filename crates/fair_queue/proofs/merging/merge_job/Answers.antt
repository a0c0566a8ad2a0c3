use Rattle.std.proofs.Common.{subst, OnOk, IfErr}
use Rattle.ddr_io.specs.Line.{next_bytes}
use Rattle.fair_queue.specs.Merging.{BeginsToMerge, Merges, ReadsEnough}
use Rattle.fair_queue.specs.Reading.{Place, unread}
use Rattle.fair_queue.proofs.Opened.{job-cut, job-merges, nothing-cut, opening-cut}
use Rattle.ddr_text.proofs.Prefixes.{if_err, if_err-to, on_ok-to}
use Rattle.fair_queue.proofs.merging.merge_job.Goals as goal

pub returns-in_err-queues-clause-begins_to_merge : goal.returns-in_err-queues-clause-begins_to_merge
returns-in_err-queues-clause-begins_to_merge g c =
    if_err _ _ (nothing-cut c.args.cap c.args.text.now (next_bytes c.args.reader.held (g.S.Source.left c.args.source.now)) (g.K.Sink.written c.args.sink.now))

pub returns-in_err-put_opening-clause-begins_to_merge : goal.returns-in_err-put_opening-clause-begins_to_merge
returns-in_err-put_opening-clause-begins_to_merge g c =
    if_err _ _ (opening-cut c.args.cap c.args.text.now (next_bytes c.args.reader.held (g.S.Source.left c.args.source.now)) (g.K.Sink.written c.args.sink.now) (g.K.Sink.written c.put_opening.new.sink) c.in_err-put_opening.ensures.writes_a_prefix)

pub returns-clause-whole : goal.returns-clause-whole
returns-clause-whole g c =
    let mid = g.K.Sink.written c.put_opening.new.sink in
    let after = g.K.Sink.written c.merge_lines.new.sink in
    on_ok-to c.merge_lines.result _ _
    (job-merges c.args.cap c.args.text.now (next_bytes c.args.reader.held (g.S.Source.left c.args.source.now)) (g.K.Sink.written c.args.sink.now) mid after c.in_ok-put_opening.ensures.whole)
    (subst (λ (k : Place). OnOk c.merge_lines.result (Merges c.args.cap (unread k (g.S.Source.left c.args.source.now)) mid after)) c.new-lines.ensures c.merge_lines.ensures.whole)

pub returns-clause-begins_to_merge : goal.returns-clause-begins_to_merge
returns-clause-begins_to_merge g c =
    let mid = g.K.Sink.written c.put_opening.new.sink in
    let after = g.K.Sink.written c.merge_lines.new.sink in
    if_err-to c.merge_lines.result _ _
    (job-cut c.args.cap c.args.text.now (next_bytes c.args.reader.held (g.S.Source.left c.args.source.now)) (g.K.Sink.written c.args.sink.now) mid after c.in_ok-put_opening.ensures.whole)
    (subst (λ (k : Place). IfErr c.merge_lines.result (λ stop. BeginsToMerge c.args.cap (unread k (g.S.Source.left c.args.source.now)) mid after)) c.new-lines.ensures c.merge_lines.ensures.begins_to_merge)

pub returns-clause-used_up : goal.returns-clause-used_up
returns-clause-used_up g c =
    subst (λ (k : Place). OnOk c.merge_lines.result (ReadsEnough c.args.cap (unread k (g.S.Source.left c.args.source.now)) (g.S.Source.left c.merge_lines.new.source))) c.new-lines.ensures c.merge_lines.ensures.used_up
