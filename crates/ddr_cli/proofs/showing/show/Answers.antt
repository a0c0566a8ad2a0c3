use Rattle.ddr_io.specs.Line.{next_bytes}
use Rattle.ddr_text.proofs.Outcomes.{opened-at}
use Rattle.ddr_cli.proofs.ShowLemmas.{shows_no_memory, shows_refused, shows_unread}
use Rattle.ddr_cli.proofs.showing.show.Goals as goal

pub returns-in-Ok-Refused-clause-answer : goal.returns-in-Ok-Refused-clause-answer
returns-in-Ok-Refused-clause-answer g c =
    let mid = next_bytes c.open_job.new.reader.held (g.S.Source.left c.open_job.new.source) in
    shows_refused c.refuse.result (g.S.Source.left c.args.source.now) mid (g.S.Source.left c.open_job.new.source) (g.K.Sink.written c.args.sink.now) (g.K.Sink.written c.refuse.new.sink) c.in-Ok-Refused.reason
    (opened-at c.new-reader.result (g.S.Source.left c.args.source.now) mid _ _ c.new-reader.ensures c.in-Ok-Refused.field-0-is c.in-Ok-Refused.ensures.opening) c.refuse.ensures.written

pub returns-in-Ok-Failed-clause-answer : goal.returns-in-Ok-Failed-clause-answer
returns-in-Ok-Failed-clause-answer g c = shows_unread (g.S.Source.left c.args.source.now) (g.S.Source.left c.open_job.new.source) (g.K.Sink.written c.args.sink.now)

pub returns-in-Err-clause-answer : goal.returns-in-Err-clause-answer
returns-in-Err-clause-answer g c = shows_no_memory (g.S.Source.left c.args.source.now) (g.S.Source.left c.open_job.new.source) (g.K.Sink.written c.args.sink.now)
