use Rattle.std.proofs.Common.{◌∙◌, ap, subst}
use Rattle.ddr_io.specs.Line.{next_bytes}
use Rattle.ddr_io.specs.Reading.{Reading}
use Rattle.ddr_text.specs.Opening.{OpensAgain}
use Rattle.ddr_text.specs.declared.opening.Opening.TheVariants.{Accepted, Refused}
use Rattle.fair_queue.proofs.Opened.{accepted-answer, accepted-read, nothing-answer, opened-at, refused-answer, refused-read}
use Rattle.fair_queue.proofs.merging.merge.Goals as goal

pub returns-in-Ok-Accepted-clause-answer : goal.returns-in-Ok-Accepted-clause-answer
returns-in-Ok-Accepted-clause-answer g c =
    let next = next_bytes c.open_job.new.reader.held (g.S.Source.left c.open_job.new.source) in
    accepted-answer c.args.cap c.in-Ok-Accepted._header c.in-Ok-Accepted.text c.merge_behind.result (g.S.Source.left c.args.source.now) next (g.S.Source.left c.merge_behind.new.source) (g.K.Sink.written c.args.sink.now) (g.K.Sink.written c.merge_behind.new.sink)
    (opened-at c.in-Ok-Accepted.field-0 (Accepted c.in-Ok-Accepted._header c.in-Ok-Accepted.text) c.new-reader.result.held (g.S.Source.left c.args.source.now) next c.in-Ok-Accepted.field-0-is (ap (λ (r : Reading). r.held) c.new-reader.ensures) c.in-Ok-Accepted.ensures.opening)
    (subst OpensAgain c.in-Ok-Accepted.field-0-is c.in-Ok-Accepted.ensures.again)
    c.merge_behind.ensures.answer

pub returns-in-Ok-Accepted-clause-reads_kept : goal.returns-in-Ok-Accepted-clause-reads_kept
returns-in-Ok-Accepted-clause-reads_kept g c = λ other.
    c.merge_behind.ensures.reads_kept other ∙ c.in-Ok-Accepted.ensures.faults_kept (accepted-read c.in-Ok-Accepted.field-0 c.in-Ok-Accepted._header c.in-Ok-Accepted.text c.in-Ok-Accepted.field-0-is)

pub returns-in-Ok-Refused-clause-answer : goal.returns-in-Ok-Refused-clause-answer
returns-in-Ok-Refused-clause-answer g c =
    let next = next_bytes c.open_job.new.reader.held (g.S.Source.left c.open_job.new.source) in
    refused-answer c.args.cap c.in-Ok-Refused.reason c.refuse.result (g.S.Source.left c.args.source.now) next (g.S.Source.left c.open_job.new.source) (g.K.Sink.written c.args.sink.now) (g.K.Sink.written c.refuse.new.sink)
    (opened-at c.in-Ok-Refused.field-0 (Refused c.in-Ok-Refused.reason) c.new-reader.result.held (g.S.Source.left c.args.source.now) next c.in-Ok-Refused.field-0-is (ap (λ (r : Reading). r.held) c.new-reader.ensures) c.in-Ok-Refused.ensures.opening)
    c.refuse.ensures.written

pub returns-in-Ok-Refused-clause-reads_kept : goal.returns-in-Ok-Refused-clause-reads_kept
returns-in-Ok-Refused-clause-reads_kept g c = λ other. c.in-Ok-Refused.ensures.faults_kept (refused-read c.in-Ok-Refused.field-0 c.in-Ok-Refused.reason c.in-Ok-Refused.field-0-is)

pub returns-in-Ok-Failed-clause-answer : goal.returns-in-Ok-Failed-clause-answer
returns-in-Ok-Failed-clause-answer g c = nothing-answer c.args.cap (g.S.Source.left c.args.source.now) (g.K.Sink.written c.args.sink.now)

pub returns-in-Err-clause-answer : goal.returns-in-Err-clause-answer
returns-in-Err-clause-answer g c = nothing-answer c.args.cap (g.S.Source.left c.args.source.now) (g.K.Sink.written c.args.sink.now)

pub returns-in-Ok-Refused-clause-writes_kept : goal.returns-in-Ok-Refused-clause-writes_kept
returns-in-Ok-Refused-clause-writes_kept g c = c.refuse.ensures.writes_kept
