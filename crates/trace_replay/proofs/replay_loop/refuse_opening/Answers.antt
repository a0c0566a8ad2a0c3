use Rattle.std.proofs.Common.{refl}
use Rattle.trace_replay.proofs.LoopEnd.{write-cause}
use Rattle.trace_replay.proofs.replay_loop.refuse_opening.Goals as goal

pub returns-in-Err-clause-cause : goal.returns-in-Err-clause-cause
returns-in-Err-clause-cause g c = λ read.
    write-cause c.in-Err.stop (g.K.Sink.faults c.args.sink.now) (g.K.Sink.faults c.args.sink.now) (g.K.Sink.faults c.put_line.new.sink) read read refl refl c.in-Err.ensures.cause
