use Rattle.std.proofs.Common.{arith}
use Rattle.row_order.proofs.MarkLemmas.{marks_set}
use Rattle.row_order.proofs.levels.LevelSet.insert.Goals as goal

pub returns : goal.returns
returns c = rw (← c.self.view_is)
    (marks_set c.self.inside.words c.self.inside.filled _ _ c.args.level 1 c.self.invariant.long (omega arith) c.with_bit-word.ensures.set (λ i low n. c.with_bit-word.ensures.others i n))
