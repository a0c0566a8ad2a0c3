use Rattle.std.proofs.Common.{[]}
use Rattle.refresh_plan.proofs.tests.plan.Goals as goal

pub returns : goal.returns
returns c = ∣ (_, [], c.new.ensures) ∣₁
