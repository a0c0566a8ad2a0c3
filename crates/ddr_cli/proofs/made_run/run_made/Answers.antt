use Rattle.std.specs.List.{flat_map}
use Rattle.ddr_text.specs.Spelling.{spelled}
use Rattle.trace_replay.specs.Ending.{end_lines}
use Rattle.ddr_cli.proofs.MadeRun.{run_answers}
use Rattle.ddr_cli.proofs.made_run.run_made.Goals as goal

pub returns-in-Ok-clause-answer : goal.returns-in-Ok-clause-answer
returns-in-Ok-clause-answer g c = run_answers c.write_ending.result c.args.seed c.args.requests (g.K.Sink.written c.args.sink.now) (g.K.Sink.written c.write_ending.new.sink) (flat_map spelled (end_lines c.in-Ok.ending)) c.in-Ok.ensures c.write_ending.ensures.lines
