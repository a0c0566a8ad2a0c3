use Rattle.device_core.proofs.StoreLemmas.{visited}
use Rattle.device_core.proofs.store.Store.scrub.Goals as goal

pub returns : goal.returns
returns c = λ g changes visits stands.
    visited c.cells_stand.ensures.scrub c.args.self.now c.step.new.cells c.step.new.self g changes visits stands
    c.step.ensures.cells c.step.ensures.same_shape c.step.ensures.stands c.step.ensures.steps c.step.ensures.shape
