use Rattle.std.proofs.Common.{ap, refl}
use Rattle.ddr_io.specs.Line.{next_bytes}
use Rattle.ddr_io.specs.Reading.{Reading}
use Rattle.trace_replay.proofs.LoopOpened.{opened, run-complete, failed, kept-behind, cause-behind, accepted-read, failed-read, refused-read, memory-read}
use Rattle.trace_replay.proofs.replay_loop.run_job.Goals as goal

pub returns-in-Ok-Accepted-clause-answer : goal.returns-in-Ok-Accepted-clause-answer
returns-in-Ok-Accepted-clause-answer g c =
    opened c.in-Ok-Accepted.field-0 c.run_trace.result c.in-Ok-Accepted.header c.in-Ok-Accepted.text c.new-reader.result.held (g.S.Source.left c.args.source.now) (next_bytes c.open_job.new.reader.held (g.S.Source.left c.open_job.new.source))
    (g.S.Source.left c.run_trace.new.source) (g.K.Sink.written c.args.sink.now) (g.K.Sink.written c.run_trace.new.sink) c.in-Ok-Accepted.field-0-is
    (ap (λ (r : Reading). r.held) c.new-reader.ensures) c.in-Ok-Accepted.ensures.opening c.in-Ok-Accepted.ensures.answer c.run_trace.ensures.answer

pub returns-in-Ok-Accepted-clause-complete : goal.returns-in-Ok-Accepted-clause-complete
returns-in-Ok-Accepted-clause-complete g c = λ bytes h text trace is job.
    run-complete c.run_trace.result (g.S.Source.left c.args.source.now) (g.S.Source.left c.run_trace.new.source) (g.K.Sink.written c.args.sink.now) (g.K.Sink.written c.run_trace.new.sink) bytes h text trace
    (opened c.in-Ok-Accepted.field-0 c.run_trace.result c.in-Ok-Accepted.header c.in-Ok-Accepted.text c.new-reader.result.held (g.S.Source.left c.args.source.now) (next_bytes c.open_job.new.reader.held (g.S.Source.left c.open_job.new.source))
    (g.S.Source.left c.run_trace.new.source) (g.K.Sink.written c.args.sink.now) (g.K.Sink.written c.run_trace.new.sink) c.in-Ok-Accepted.field-0-is
    (ap (λ (r : Reading). r.held) c.new-reader.ensures) c.in-Ok-Accepted.ensures.opening c.in-Ok-Accepted.ensures.answer c.run_trace.ensures.answer) is job

pub returns-in-Ok-Accepted-clause-cause : goal.returns-in-Ok-Accepted-clause-cause
returns-in-Ok-Accepted-clause-cause g c =
    cause-behind (g.S.Source.faults c.args.source.now) (g.S.Source.faults c.open_job.new.source) (g.S.Source.faults c.run_trace.new.source) (g.K.Sink.faults c.args.sink.now) (g.K.Sink.faults c.run_trace.new.sink) c.run_trace.result
    (c.in-Ok-Accepted.ensures.faults_kept (accepted-read c.in-Ok-Accepted.field-0 c.in-Ok-Accepted.header c.in-Ok-Accepted.text c.in-Ok-Accepted.field-0-is)) c.run_trace.ensures.cause

pub returns-in-Ok-Refused-clause-cause : goal.returns-in-Ok-Refused-clause-cause
returns-in-Ok-Refused-clause-cause g c =
    cause-behind (g.S.Source.faults c.args.source.now) (g.S.Source.faults c.open_job.new.source) (g.S.Source.faults c.open_job.new.source) (g.K.Sink.faults c.args.sink.now) (g.K.Sink.faults c.refuse_opening.new.sink) c.refuse_opening.result
    (c.in-Ok-Refused.ensures.faults_kept (refused-read c.in-Ok-Refused.field-0 c.in-Ok-Refused.reason c.in-Ok-Refused.field-0-is)) (c.refuse_opening.ensures.cause (g.S.Source.faults c.open_job.new.source))

pub returns-in-Ok-Failed-clause-cause : goal.returns-in-Ok-Failed-clause-cause
returns-in-Ok-Failed-clause-cause g c = (c.in-Ok-Failed.ensures.failed (failed-read c.in-Ok-Failed.field-0 c.in-Ok-Failed.field-0-is), refl)

pub returns-in-Err-clause-cause : goal.returns-in-Err-clause-cause
returns-in-Err-clause-cause g c = (c.open_job.ensures.faults_kept (memory-read c.open_job.result _ c.in-Err.is), refl)

pub returns-in-Ok-Failed-clause-answer : goal.returns-in-Ok-Failed-clause-answer
returns-in-Ok-Failed-clause-answer g c =
    failed c.new-reader.result.held (g.S.Source.left c.args.source.now) (g.S.Source.left c.open_job.new.source) (g.K.Sink.written c.args.sink.now)
    (ap (λ (r : Reading). r.held) c.new-reader.ensures) (c.in-Ok-Failed.ensures.unopened (failed-read c.in-Ok-Failed.field-0 c.in-Ok-Failed.field-0-is))

pub returns-in-Ok-Accepted-clause-faults_kept : goal.returns-in-Ok-Accepted-clause-faults_kept
returns-in-Ok-Accepted-clause-faults_kept g c =
    kept-behind (g.S.Source.faults c.args.source.now) (g.S.Source.faults c.open_job.new.source) (g.S.Source.faults c.run_trace.new.source) (g.K.Sink.faults c.args.sink.now) (g.K.Sink.faults c.run_trace.new.sink) c.run_trace.result
    (c.in-Ok-Accepted.ensures.faults_kept (accepted-read c.in-Ok-Accepted.field-0 c.in-Ok-Accepted.header c.in-Ok-Accepted.text c.in-Ok-Accepted.field-0-is)) c.run_trace.ensures.faults_kept

pub returns-in-Ok-Refused-clause-faults_kept : goal.returns-in-Ok-Refused-clause-faults_kept
returns-in-Ok-Refused-clause-faults_kept g c =
    kept-behind (g.S.Source.faults c.args.source.now) (g.S.Source.faults c.open_job.new.source) (g.S.Source.faults c.open_job.new.source) (g.K.Sink.faults c.args.sink.now) (g.K.Sink.faults c.refuse_opening.new.sink) c.refuse_opening.result
    (c.in-Ok-Refused.ensures.faults_kept (refused-read c.in-Ok-Refused.field-0 c.in-Ok-Refused.reason c.in-Ok-Refused.field-0-is)) (c.refuse_opening.ensures.faults_kept (g.S.Source.faults c.open_job.new.source))
