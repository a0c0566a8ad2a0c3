use Rattle.std.proofs.Common.{arith}
use Rattle.refresh_plan.specs.Standing.{StandsFor}
use Rattle.refresh_plan.proofs.Owing.{debt_is}
use Rattle.refresh_plan.proofs.debts.Plan.debt.Goals as goal

pub returns : goal.returns
unfolding StandsFor
returns c = λ h log stands.
    let in_range = c.get.ensures.in_range in
    let number = c.get.ensures.number in
    rw (c.get.ensures.number) (debt_is _ h log c.args.clock c.args.address (rw (← c.self.view_is) at stands) (omega arith) c.requires (c.self.invariant.refreshed c.args.address))
