use Rattle.std.proofs.Common.{◌∙◌, ap, slice_index}
use Rattle.refresh_plan.specs.Held.{Held}
use Rattle.refresh_plan.specs.Standing.{StandsFor}
use Rattle.refresh_plan.proofs.Allowing.{on_time_test}
use Rattle.refresh_plan.proofs.debts.Plan.allowed_at_end.Goals as goal

pub returns : goal.returns
unfolding StandsFor
returns c = λ h log stands. on_time_test h c.args.clock c.args.self.now.interval log c.self.inside.refreshes c.is_on_time.result stands.interval (λ address low. ap (λ (x : Held). slice_index x.refreshes address) c.self.view_is ∙ stands.counts address low) c.is_on_time.ensures
