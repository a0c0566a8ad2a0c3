use Rattle.std.proofs.Common.{[], rules}
use Rattle.scheduler.specs.Controller.{StandsFor}
use Rattle.scheduler.proofs.controller.Controller.new.Goals as goal

pub invariant_of-result : goal.invariant_of-result
unfolding StandsFor
invariant_of-result c = (c.requires, ∣ (c.args.header.now, [], 0, [], search rules) ∣₁)
