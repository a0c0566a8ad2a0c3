use Rattle.std.proofs.Common.{◌≡◌, arith, sym, ◌∙◌, take, drop}
use Rattle.std.proofs.lemmas.Grind.{common_steps}
use Rattle.ddr_io.proofs.Moved.{front_moved}
use Rattle.ddr_io.proofs.plain_source.PlainSourceSource.read.Goals as goal

pub returns-clause-bytes : goal.returns-clause-bytes
returns-clause-bytes c =
    let f = c.self.inside in
    let n = c.min-count.result in
    let copied : c.copy_from_slice.new.self ≡ take n (drop f.given f.bytes.items) = grind (arith, common_steps) in
    sym c.self.view_is ∙ front_moved f.bytes.items c.copy_from_slice.new.self (drop n c.args.buf.now) f.given n copied (grind (arith, common_steps))
