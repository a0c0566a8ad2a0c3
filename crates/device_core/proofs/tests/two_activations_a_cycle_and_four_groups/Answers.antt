use Rattle.std.proofs.Common.{[]}
use Rattle.device_core.proofs.ScriptLemmas.{four_closings_are_legal, two_per_cycle, two_per_cycle_accepted}
use Rattle.device_core.proofs.tests.two_activations_a_cycle_and_four_groups.Goals as goal

pub device_of-requires : goal.device_of-requires
device_of-requires g c = two_per_cycle_accepted

pub play-requires : goal.play-requires
play-requires g c = (two_per_cycle, [], c.in_ok-device.ensures, four_closings_are_legal c.line_of-bytes.result)
