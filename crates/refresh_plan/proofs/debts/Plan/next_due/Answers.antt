use Rattle.std.proofs.Common.{◌≤◌}
use Rattle.refresh_plan.specs.Standing.{StandsFor}
use Rattle.refresh_plan.proofs.Owing.{next_due_is}
use Rattle.refresh_plan.proofs.debts.Plan.next_due.Goals as goal

pub returns : goal.returns
unfolding StandsFor
returns c = λ h log clock stands.
    let some : 1 ≤ c.args.self.now.interval = rw (← c.self.view_is) c.self.invariant.passes in
    rw (← c.self.view_is, ← c.get.ensures.number) at (next_due_is c.args.self.now h log clock c.most_behind-address.result stands (record { in_range = c.most_behind-address.ensures.in_range; fewest = c.most_behind-address.ensures.fewest; first = c.most_behind-address.ensures.first }) some)
