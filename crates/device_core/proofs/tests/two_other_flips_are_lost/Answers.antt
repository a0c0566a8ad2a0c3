use Rattle.std.proofs.Common.{[], refl}
use Rattle.device_core.proofs.ScriptLemmas.{is_bit, read_of_lost_is_legal, refresh_of_lost_is_legal, sixteen_rows_accepted, small, write_is_legal}
use Rattle.device_core.proofs.tests.two_other_flips_are_lost.Goals as goal

pub device_of-requires : goal.device_of-requires
device_of-requires g c = sixteen_rows_accepted

pub play-requires : goal.play-requires
play-requires g c = (small 16 3 8 16 0, [], c.in_ok-device.ensures, write_is_legal c.line_of-bytes.result)

pub turn-requires : goal.turn-requires
turn-requires g c =
    let s1 = c.in_ok-play.ensures (small 16 3 8 16 0) [] c.in_ok-device.ensures (write_is_legal c.line_of-bytes.result) in
    (small 16 3 8 16 0, _, s1, is_bit (small 16 3 8 16 0) 0 15 refl refl refl refl)

pub play-requires-2 : goal.play-requires-2
play-requires-2 g c =
    let s1 = c.in_ok-play.ensures (small 16 3 8 16 0) [] c.in_ok-device.ensures (write_is_legal c.line_of-bytes.result) in
    let s2 = c.in_ok-turn.ensures (small 16 3 8 16 0) _ s1 (is_bit (small 16 3 8 16 0) 0 15 refl refl refl refl) in
    (small 16 3 8 16 0, _, s2, refresh_of_lost_is_legal c.line_of-bytes.result)

pub turn-requires-2 : goal.turn-requires-2
turn-requires-2 g c =
    let s1 = c.in_ok-play.ensures (small 16 3 8 16 0) [] c.in_ok-device.ensures (write_is_legal c.line_of-bytes.result) in
    let s2 = c.in_ok-turn.ensures (small 16 3 8 16 0) _ s1 (is_bit (small 16 3 8 16 0) 0 15 refl refl refl refl) in
    let s3 = c.in_ok-play-2.ensures (small 16 3 8 16 0) _ s2 (refresh_of_lost_is_legal c.line_of-bytes.result) in
    (small 16 3 8 16 0, _, s3, is_bit (small 16 3 8 16 0) 0 127 refl refl refl refl)

pub play-requires-3 : goal.play-requires-3
play-requires-3 g c =
    let s1 = c.in_ok-play.ensures (small 16 3 8 16 0) [] c.in_ok-device.ensures (write_is_legal c.line_of-bytes.result) in
    let s2 = c.in_ok-turn.ensures (small 16 3 8 16 0) _ s1 (is_bit (small 16 3 8 16 0) 0 15 refl refl refl refl) in
    let s3 = c.in_ok-play-2.ensures (small 16 3 8 16 0) _ s2 (refresh_of_lost_is_legal c.line_of-bytes.result) in
    let s4 = c.in_ok-turn-2.ensures (small 16 3 8 16 0) _ s3 (is_bit (small 16 3 8 16 0) 0 127 refl refl refl refl) in
    (small 16 3 8 16 0, _, s4, read_of_lost_is_legal c.line_of-bytes.result)
