use Rattle.std.proofs.Common.{[], arith}
use Rattle.scheduler.proofs.tests.run.Goals as goal

pub loop-line-init : goal.loop-line-init
loop-line-init c = record {
  taken = ([], 0, [], c.in-Ok.ensures.stands, omega arith);
  few = (let a = c.requires.checks.thresholds.0 in omega (arith, a));
  unfinished = c.in-Ok.ensures.finished;
}
