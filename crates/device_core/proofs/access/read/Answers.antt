use Rattle.device_core.proofs.StepLemmas.{place_inside}
use Rattle.device_core.proofs.access.read.Goals as goal

pub read-requires : goal.read-requires
read-requires c = place_inside c.args.rows.now c.args.store.now c.in-Some.place c.requires.are c.in-Some.ensures.inside
