use Rattle.std.proofs.Common.{subst, sym, ◌∙◌}
use Rattle.ddr_io.specs.declared.status.Status.{Status}
use Rattle.trace_replay.specs.Replay.{Answers}
use Rattle.trace_replay.proofs.LoopAnswers.{finished}
use Rattle.trace_replay.proofs.LoopEnd.{stop-reads-kept, stop-writes-kept}
use Rattle.ddr_text.specs.Io.{io}
use Rattle.trace_replay.proofs.replay_loop.replay.Goals as goal

pub returns-in-Finished-clause-answer : goal.returns-in-Finished-clause-answer
returns-in-Finished-clause-answer g c =
    finished c.end_report.result c.in-Finished.ending (g.S.Source.left c.args.source.now) (g.S.Source.left c.run_job.new.source) (g.K.Sink.written c.args.sink.now) (g.K.Sink.written c.run_job.new.sink) (g.K.Sink.written c.end_report.new.sink)
    c.in-Finished.ensures.answer c.end_report.ensures.answer

pub returns-in-Stopped-clause-answer : goal.returns-in-Stopped-clause-answer
returns-in-Stopped-clause-answer g c =
    subst (λ (s : Status). Answers s (io (g.S.Source.left c.args.source.now) (g.S.Source.left c.run_job.new.source) (g.K.Sink.written c.args.sink.now) (g.K.Sink.written c.run_job.new.sink))) (sym c.status.ensures) c.in-Stopped.ensures.answer

pub returns-in-Finished-clause-reads_kept : goal.returns-in-Finished-clause-reads_kept
returns-in-Finished-clause-reads_kept g c = λ other. c.in-Finished.ensures.faults_kept.0

pub returns-in-Finished-clause-writes_kept : goal.returns-in-Finished-clause-writes_kept
returns-in-Finished-clause-writes_kept g c = λ other. c.end_report.ensures.writes_kept other ∙ c.in-Finished.ensures.faults_kept.1

pub returns-in-Refused-clause-reads_kept : goal.returns-in-Refused-clause-reads_kept
returns-in-Refused-clause-reads_kept g c = λ other. c.in-Refused.ensures.faults_kept.0

pub returns-in-Refused-clause-writes_kept : goal.returns-in-Refused-clause-writes_kept
returns-in-Refused-clause-writes_kept g c = λ other. c.in-Refused.ensures.faults_kept.1

pub returns-in-Stopped-clause-reads_kept : goal.returns-in-Stopped-clause-reads_kept
returns-in-Stopped-clause-reads_kept g c = λ other.
    stop-reads-kept c.in-Stopped.stop c.status.result (g.S.Source.faults c.args.source.now) (g.S.Source.faults c.run_job.new.source) (g.K.Sink.faults c.args.sink.now) (g.K.Sink.faults c.run_job.new.sink) c.status.ensures c.in-Stopped.ensures.cause other

pub returns-in-Stopped-clause-writes_kept : goal.returns-in-Stopped-clause-writes_kept
returns-in-Stopped-clause-writes_kept g c = λ other.
    stop-writes-kept c.in-Stopped.stop c.status.result (g.S.Source.faults c.args.source.now) (g.S.Source.faults c.run_job.new.source) (g.K.Sink.faults c.args.sink.now) (g.K.Sink.faults c.run_job.new.sink) c.status.ensures c.in-Stopped.ensures.cause other
