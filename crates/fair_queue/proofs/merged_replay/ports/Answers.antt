use Rattle.fair_queue.proofs.Served.{Laws, refused, served}
use Rattle.fair_queue.proofs.merged_replay.ports.Goals as goal

pub returns-in-Ok-clause-answer : goal.returns-in-Ok-clause-answer
returns-in-Ok-clause-answer g c =
    let laws : Laws = record { capped = c.caps_requests.ensures; opens = c.opening_opens_again.ensures.opens; ages = c.caps_ages.ensures } in
    served laws c.args.cap c.requires.0 c.replay_bytes.result (g.S.Source.left c.args.source.now) (g.S.Source.left c.merge.new.source) c.new-job.result c.merge.new.sink c.into_bytes.result.items (g.K.Sink.written c.args.sink.now) (g.K.Sink.written c.replay_bytes.new.sink)
    c.new-job.ensures c.into_bytes.ensures c.in-Ok.ensures.answer c.replay_bytes.ensures.read c.replay_bytes.ensures.answer

pub returns-in-Refused-clause-answer : goal.returns-in-Refused-clause-answer
returns-in-Refused-clause-answer g c =
    refused c.args.cap c.refuse.result (g.S.Source.left c.args.source.now) (g.S.Source.left c.merge.new.source) c.new-job.result c.merge.new.sink c.bytes.result.now (g.K.Sink.written c.args.sink.now) (g.K.Sink.written c.refuse.new.sink)
    c.new-job.ensures c.bytes.ensures c.in-Refused.ensures.answer c.refuse.ensures.answer
