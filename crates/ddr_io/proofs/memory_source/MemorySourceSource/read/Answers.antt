use Rattle.std.proofs.Common.{◌≡◌, ◌≤◌, rules, ap, length}
use Rattle.ddr_io.specs.MemorySource.{Giving, next_room}
use Rattle.ddr_io.proofs.Filling.{filled_part}
use Rattle.ddr_io.proofs.memory_source.MemorySourceSource.read.Goals as goal

pub returns-clause-filled : goal.returns-clause-filled
returns-clause-filled c =
    let same = ap (λ (s : Giving). s.left) c.self.view_is in
    let within : c.min-room.result ≤ length c.args.buf.now = search rules in
    let is : c.min-room.result ≡ next_room c.args.self.now (length c.args.buf.now) = search rules in
    filled_part _ _ c.args.buf.now c.read.new.buf c.min-room.result _ within c.read.ensures.filled same is
