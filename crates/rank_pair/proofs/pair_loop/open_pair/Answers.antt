use Rattle.std.proofs.Common.{ap, subst}
use Rattle.ddr_io.specs.Line.{next_bytes}
use Rattle.ddr_io.specs.Reading.{Reading}
use Rattle.ddr_text.proofs.Outcomes.{opened-at}
use Rattle.ddr_text.specs.Opening.{IsAnswer}
use Rattle.ddr_text.specs.declared.opening.Opening.{Opening}
use Rattle.rank_pair.proofs.OpenedJobs.{opened, opened_fault, opened_late, opened_not, opened_nothing, is_failed, not_both}
use Rattle.rank_pair.proofs.pair_loop.open_pair.Goals as goal

pub returns-then-not-has_time-clause-answer : goal.returns-then-not-has_time-clause-answer
returns-then-not-has_time-clause-answer g c =
    let old = g.S.Source.left c.args.source.now in
    let start = next_bytes c.open_job.new.reader.held (g.S.Source.left c.open_job.new.source) in
    opened_late c.refuse.result c.in-Ok-Accepted.header c.in-Ok-Accepted.text old start (g.S.Source.left c.open_job.new.source) (g.K.Sink.written c.args.sink.now) (g.K.Sink.written c.refuse.new.sink)
    (opened-at c.new-reader.result old start _ _ c.new-reader.ensures c.in-Ok-Accepted.field-0-is c.in-Ok-Accepted.ensures.opening)
    (λ time. not_both c.has_time.result c.if-not-has_time.true (c.has_time.ensures.1 time)) c.refuse.ensures.written

pub returns-else-not-has_time-clause-answer : goal.returns-else-not-has_time-clause-answer
returns-else-not-has_time-clause-answer g c =
    let old = g.S.Source.left c.args.source.now in
    let start = next_bytes c.open_job.new.reader.held (g.S.Source.left c.open_job.new.source) in
    opened c.run_behind.result c.in-Ok-Accepted.header c.in-Ok-Accepted.text old start (g.S.Source.left c.run_behind.new.source) (g.K.Sink.written c.args.sink.now) (g.K.Sink.written c.run_behind.new.sink)
    (opened-at c.new-reader.result old start _ _ c.new-reader.ensures c.in-Ok-Accepted.field-0-is c.in-Ok-Accepted.ensures.opening)
    (subst (λ (o : Opening). IsAnswer o) c.in-Ok-Accepted.field-0-is c.in-Ok-Accepted.ensures.answer)
    (c.has_time.ensures.0 c.if-not-has_time.false) c.run_behind.ensures.answer

pub returns-in-Ok-Refused-clause-answer : goal.returns-in-Ok-Refused-clause-answer
returns-in-Ok-Refused-clause-answer g c =
    let old = g.S.Source.left c.args.source.now in
    let start = next_bytes c.open_job.new.reader.held (g.S.Source.left c.open_job.new.source) in
    opened_not c.refuse-in-Ok-Refused.result c.in-Ok-Refused.reason old start (g.S.Source.left c.open_job.new.source) (g.K.Sink.written c.args.sink.now) (g.K.Sink.written c.refuse-in-Ok-Refused.new.sink)
    (opened-at c.new-reader.result old start _ _ c.new-reader.ensures c.in-Ok-Refused.field-0-is c.in-Ok-Refused.ensures.opening)
    (subst (λ (o : Opening). IsAnswer o) c.in-Ok-Refused.field-0-is c.in-Ok-Refused.ensures.answer) c.refuse-in-Ok-Refused.ensures.written

pub returns-in-Ok-Failed-clause-answer : goal.returns-in-Ok-Failed-clause-answer
returns-in-Ok-Failed-clause-answer g c =
    opened_fault c.new-reader.result.held (g.S.Source.left c.args.source.now) (g.S.Source.left c.open_job.new.source) (g.K.Sink.written c.args.sink.now) (ap (λ (r : Reading). r.held) c.new-reader.ensures)
    (c.in-Ok-Failed.ensures.unopened (is_failed c.in-Ok-Failed.field-0 c.in-Ok-Failed.field-0-is))

pub returns-in-Err-clause-answer : goal.returns-in-Err-clause-answer
returns-in-Err-clause-answer g c = opened_nothing (g.S.Source.left c.args.source.now) (g.S.Source.left c.open_job.new.source) (g.K.Sink.written c.args.sink.now)
