use Rattle.ddr_cli.proofs.MadeRun.{end_kept}
use Rattle.ddr_cli.proofs.made_run.write_ending.Goals as goal

pub returns-in-Err-clause-writes_kept : goal.returns-in-Err-clause-writes_kept
returns-in-Err-clause-writes_kept g c = λ other. end_kept c.in-Err.stop c.status.result (g.K.Sink.faults c.args.sink.now) (g.K.Sink.faults c.write.new.sink) c.status.ensures c.in-Err.ensures.cause other
