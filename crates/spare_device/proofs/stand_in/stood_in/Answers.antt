use Rattle.std.proofs.Common.{◌∙◌}
use Rattle.spare_device.proofs.StandIns.{stood-is}
use Rattle.spare_device.proofs.stand_in.stood_in.Goals as goal

pub returns : goal.returns
returns c =
    c.joined.ensures
    ∙ stood-is c.args.dead c.args.bytes.now c.part-first.result c.part-second.result c.part-third.result c.part-fourth.result c.mixed_four-spare.result _ _ _ _
    c.part-first.ensures c.part-second.ensures c.part-third.ensures c.part-fourth.ensures c.mixed_four-spare.ensures
    c.standing_part.ensures c.standing_part-2.ensures c.standing_part-3.ensures c.standing_part-4.ensures
