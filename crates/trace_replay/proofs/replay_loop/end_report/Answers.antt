use Rattle.trace_replay.proofs.LoopEnd.{end-writes-kept}
use Rattle.trace_replay.proofs.replay_loop.end_report.Goals as goal

pub returns-in-Err-clause-writes_kept : goal.returns-in-Err-clause-writes_kept
returns-in-Err-clause-writes_kept g c = λ other.
    end-writes-kept c.in-Err.stop c.status.result (g.K.Sink.faults c.args.sink.now) (g.K.Sink.faults c.write.new.sink) c.status.ensures c.in-Err.ensures.cause other
