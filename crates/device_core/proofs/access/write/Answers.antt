use Rattle.device_core.proofs.StepLemmas.{place_inside}
use Rattle.device_core.proofs.access.write.Goals as goal

pub write-requires : goal.write-requires
write-requires c = place_inside c.args.rows.now c.args.store.now c.in-Some-Some.place c.requires.are c.in-Some-Some.ensures.inside
