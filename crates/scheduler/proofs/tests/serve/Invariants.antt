use Rattle.std.proofs.Common.{◌≡◌}
use Rattle.scheduler.specs.Controller.{finished_of}
use Rattle.scheduler.specs.Testing.{HasTaken}
use Rattle.scheduler.proofs.tests.serve.Given as goal

abbrev pub invariant-loop : goal.invariant-loop
invariant-loop l = record {
  taken : HasTaken l.header l.controller l.taken;
  finished : finished_of l.controller ≡ finished_of l.initial.controller;
}
