use Rattle.std.proofs.Common.{ℕ, List, Some, subst}
use Rattle.trace_replay.specs.Replay.{Answers}
use Rattle.ddr_text.specs.Io.{io}
use Rattle.fair_queue.proofs.merged_replay.replay_bytes.Goals as goal

pub returns-clause-answer : goal.returns-clause-answer
returns-clause-answer g c =
    (Some c.replay.new.source, subst (λ (bytes : List ℕ). Answers c.replay.result (io (Some bytes) (Some c.replay.new.source) (g.K.Sink.written c.args.sink.now) (g.K.Sink.written c.replay.new.sink))) c.new-source.ensures c.replay.ensures.answer)
