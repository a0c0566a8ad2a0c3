use Rattle.ddr_io.specs.Line.{next_bytes}
use Rattle.spare_device.proofs.Openings.{spares_nothing, spares_opened, spares_refused}
use Rattle.ddr_text.proofs.Outcomes.{opened-at}
use Rattle.spare_device.proofs.spare_loop.run_script.Goals as goal

pub returns-in-Ok-Accepted-clause-answer : goal.returns-in-Ok-Accepted-clause-answer
returns-in-Ok-Accepted-clause-answer g c =
    let mid = next_bytes c.open_job.new.reader.held (g.S.Source.left c.open_job.new.source) in
    spares_opened c.args.dead (g.S.Source.left c.args.source.now) (g.S.Source.left c.open_job.new.source) (g.S.Source.left c.run_behind.new.source) (g.K.Sink.written c.args.sink.now) (g.K.Sink.written c.run_behind.new.sink) c.open_job.new.reader.held c.in-Ok-Accepted.header c.in-Ok-Accepted.text c.run_behind.result
    (opened-at c.new-reader.result (g.S.Source.left c.args.source.now) mid _ _ c.new-reader.ensures c.in-Ok-Accepted.field-0-is c.in-Ok-Accepted.ensures.opening) c.run_behind.ensures.answer

pub returns-in-Ok-Refused-clause-answer : goal.returns-in-Ok-Refused-clause-answer
returns-in-Ok-Refused-clause-answer g c =
    let mid = next_bytes c.open_job.new.reader.held (g.S.Source.left c.open_job.new.source) in
    spares_refused c.args.dead c.refuse.result (g.S.Source.left c.args.source.now) mid (g.S.Source.left c.open_job.new.source) (g.K.Sink.written c.args.sink.now) (g.K.Sink.written c.refuse.new.sink) c.in-Ok-Refused.reason
    (opened-at c.new-reader.result (g.S.Source.left c.args.source.now) mid _ _ c.new-reader.ensures c.in-Ok-Refused.field-0-is c.in-Ok-Refused.ensures.opening) c.refuse.ensures.written

pub returns-in-Ok-Failed-clause-answer : goal.returns-in-Ok-Failed-clause-answer
returns-in-Ok-Failed-clause-answer g c = spares_nothing c.args.dead (g.S.Source.left c.args.source.now) (g.K.Sink.written c.args.sink.now)

pub returns-in-Err-clause-answer : goal.returns-in-Err-clause-answer
returns-in-Err-clause-answer g c = spares_nothing c.args.dead (g.S.Source.left c.args.source.now) (g.K.Sink.written c.args.sink.now)
