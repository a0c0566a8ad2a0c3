use Rattle.std.proofs.Common.{◌+◌, ◌-◌, ◌≤◌, ap, arith, refl, length, drop, length-take}
use Rattle.ddr_io.specs.Reading.{Reading}
use Rattle.ddr_io.proofs.Ranges.{slice_range_advance, slice_range_front}
use Rattle.ddr_io.proofs.line_reader.LineReader.take_line.Goals as goal

pub returns : goal.returns
returns c =
    let f = c.self.inside in
    let at = c.args.at in
    let held = ap (λ (r : Reading). r.held) c.self.view_is in
    let within : f.start + at + 1 ≤ f.end = omega (arith, c.requires, ap length held, length-take (f.end - f.start) (drop f.start f.buffer)) in
    let rest = slice_range_advance f.buffer f.start f.end (at + 1) (f.start + at + 1) (omega arith) within in
    let line = slice_range_front f.buffer f.start f.end at (f.start + at) refl (omega arith) in
    cc
