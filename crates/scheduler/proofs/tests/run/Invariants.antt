use Rattle.std.proofs.Common.{◌≡◌, ◌<◌, false}
use Rattle.scheduler.specs.Controller.{finished_of}
use Rattle.scheduler.specs.Testing.{HasTaken}
use Rattle.scheduler.proofs.tests.run.Given as goal

abbrev pub invariant-loop-line : goal.invariant-loop-line
invariant-loop-line l = record {
  taken : HasTaken l.header l.controller l.taken;
  few : l.taken < l.header.settings.ath;
  unfinished : finished_of l.controller ≡ false;
}
