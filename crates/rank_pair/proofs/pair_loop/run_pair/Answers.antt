use Rattle.rank_pair.proofs.OpenedJobs.{completes, no_broken, no_usage}
use Rattle.rank_pair.proofs.pair_loop.run_pair.Goals as goal

pub returns-clause-complete : goal.returns-clause-complete
returns-clause-complete g c = λ bytes h text trace is job.
    completes bytes h text trace c.open_pair.result (g.S.Source.left c.args.source.now) (g.S.Source.left c.open_pair.new.source) (g.K.Sink.written c.args.sink.now) (g.K.Sink.written c.open_pair.new.sink) c.open_pair.ensures.answer is job

pub returns-clause-usage : goal.returns-clause-usage
returns-clause-usage g c = no_usage c.open_pair.result (g.S.Source.left c.args.source.now) (g.S.Source.left c.open_pair.new.source) (g.K.Sink.written c.args.sink.now) (g.K.Sink.written c.open_pair.new.sink) c.open_pair.ensures.answer

pub returns-clause-broken : goal.returns-clause-broken
returns-clause-broken g c = no_broken c.open_pair.result (g.S.Source.left c.args.source.now) (g.S.Source.left c.open_pair.new.source) (g.K.Sink.written c.args.sink.now) (g.K.Sink.written c.open_pair.new.sink) c.open_pair.ensures.answer
