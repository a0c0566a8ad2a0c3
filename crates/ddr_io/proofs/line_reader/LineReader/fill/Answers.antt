use Rattle.std.proofs.Common.{◌-◌, ◌++◌, ap, arith, refl, take, ◌∙◌, length-take-le}
use Rattle.ddr_io.specs.Reading.{Reading}
use Rattle.ddr_io.proofs.Ranges.{slice_range-put_mid, slice_range-put_mid_front}
use Rattle.ddr_io.specs.declared.line_reader.TheConstants.{ROOM}
use Rattle.ddr_io.proofs.Filling.{Fills-unread}
use Rattle.ddr_io.proofs.line_reader.LineReader.fill.Goals as goal

pub returns-in-Bytes-clause-bytes : goal.returns-in-Bytes-clause-bytes
returns-in-Bytes-clause-bytes g c =
    let room = c.make_room-start in
    let read = c.read-got.new.buf in
    let n = c.in-Bytes.count in
    let bound = c.in-Bytes.ensures.bound in
    let held = ap (λ (r : Reading). r.held) c.self.view_is in
    let more = slice_range-put_mid room.new.buffer read room.result.0 room.result.1 (ROOM - room.result.1) n room.ensures.ordered (omega (arith, room.ensures.room)) bound.1 in
    record {
      line = refl;
      last = ap (λ (r : Reading). r.last) c.self.view_is;
      bytes = (
        take n read,
        more ∙ ap (λ l. l ++ take n read) (room.ensures.moved ∙ held),
        omega (arith, length-take-le n read bound.1, bound.0),
        omega (arith, length-take-le n read bound.1, bound.1, c.read-got.auto.buf),
        c.in-Bytes.ensures.bytes,
      );
    }

pub returns-in_default : goal.returns-in_default
returns-in_default g c =
    let room = c.make_room-start in
    let kept = slice_range-put_mid_front room.new.buffer c.read-got.new.buf room.result.0 room.result.1 (ROOM - room.result.1) room.ensures.ordered (omega (arith, room.ensures.room)) in
    let held = ap (λ (r : Reading). r.held) c.self.view_is in
    let last = ap (λ (r : Reading). r.last) c.self.view_is in
    record {
      bytes = Fills-unread _ _ _ _ c.read-got.result c.read-got.new.buf c.in_default.not-Bytes refl last (kept ∙ room.ensures.moved ∙ held) c.read-got.ensures.bytes;
      faults_never_fall = c.read-got.ensures.faults_never_fall;
      failed = c.read-got.ensures.failed;
      faults_kept = c.read-got.ensures.faults_kept;
    }
