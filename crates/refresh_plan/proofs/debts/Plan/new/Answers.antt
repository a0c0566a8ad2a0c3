use Rattle.refresh_plan.proofs.Steps.{stands_at_first}
use Rattle.refresh_plan.proofs.debts.Plan.new.Goals as goal

pub returns : goal.returns
returns c = rw (c.from.ensures, c.from-2.ensures) (stands_at_first c.args.header.now)
