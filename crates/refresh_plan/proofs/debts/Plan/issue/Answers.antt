use Rattle.std.proofs.Common.{arith}
use Rattle.refresh_plan.specs.Held.{IsBounded}
use Rattle.refresh_plan.proofs.Steps.{bounded_after, stands_after}
use Rattle.refresh_plan.proofs.debts.Plan.issue.Goals as goal

pub invariant_of-self : goal.invariant_of-self
invariant_of-self c =
    let bounded : IsBounded c.args.self.now.interval c.args.self.now.refreshes c.args.self.now.scrubs = rw (← c.self.view_is) c.self.invariant in
    rw (← c.self.view_is) at (bounded_after c.args.self.now c.refreshes_after-counts.result c.scrubs_after-scrubs.result c.args.clock c.args.command.now c.requires.clock c.requires.allowed bounded (omega arith) c.refreshes_after-counts.ensures c.scrubs_after-scrubs.ensures)

pub returns : goal.returns
returns c = λ h log stands allowed.
    rw (← c.self.view_is) at (stands_after c.args.self.now c.refreshes_after-counts.result c.scrubs_after-scrubs.result c.args.command.now (omega arith) c.refreshes_after-counts.ensures c.scrubs_after-scrubs.ensures c.args.clock c.requires.clock h log stands allowed)
