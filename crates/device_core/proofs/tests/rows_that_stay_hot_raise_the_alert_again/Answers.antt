use Rattle.std.proofs.Common.{[]}
use Rattle.device_core.proofs.ScriptLemmas.{raised_twice_is_legal, small, two_rows_accepted}
use Rattle.device_core.proofs.tests.rows_that_stay_hot_raise_the_alert_again.Goals as goal

pub device_of-requires : goal.device_of-requires
device_of-requires g c = two_rows_accepted

pub play-requires : goal.play-requires
play-requires g c = (small 2 5 32 64 0, [], c.in_ok-device.ensures, raised_twice_is_legal c.line_of-bytes.result)
