use Rattle.std.proofs.Common.{[]}
use Rattle.device_core.proofs.ScriptLemmas.{read_is_legal, sixteen_rows_accepted, small, write_is_legal}
use Rattle.device_core.proofs.tests.a_line_is_written_and_read.Goals as goal

pub device_of-requires : goal.device_of-requires
device_of-requires g c = sixteen_rows_accepted

pub play-requires : goal.play-requires
play-requires g c = (small 16 3 8 16 0, [], c.in_ok-device.ensures, write_is_legal c.line_of-bytes.result)

pub play-requires-2 : goal.play-requires-2
play-requires-2 g c =
    let s1 = c.in_ok-play.ensures (small 16 3 8 16 0) [] c.in_ok-device.ensures (write_is_legal c.line_of-bytes.result) in
    (small 16 3 8 16 0, _, s1, read_is_legal c.line_of-bytes.result)
