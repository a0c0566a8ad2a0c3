use Rattle.std.proofs.Common.{inr}
use Rattle.ddr_cli.proofs.Ended.{at_end_twice}
use Rattle.ddr_cli.proofs.streams.run_buffered.Goals as goal

pub returns-clause-done : goal.returns-clause-done
returns-clause-done g c = λ which is.
    let (flushed, same) = c.finish-ended.ensures.ended in
    rw (c.at_end.ensures, same) (inr (c.run_prompting-status.result, c.run_prompting-status.ensures.done which is, at_end_twice c.run_prompting-status.result flushed _))
