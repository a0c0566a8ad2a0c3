use Rattle.std.proofs.Common.{arith}
use Rattle.row_order.proofs.MarkLemmas.{marks_set}
use Rattle.row_order.proofs.levels.LevelSet.remove.Goals as goal

pub returns-then-word-eq0 : goal.returns-then-word-eq0
returns-then-word-eq0 c = rw (← c.self.view_is)
    (marks_set c.self.inside.words c.self.inside.filled _ _ c.args.level 0 c.self.invariant.long (omega arith) c.without_bit-word.ensures.clear c.without_bit-word.ensures.others)

pub returns-else-word-eq0 : goal.returns-else-word-eq0
returns-else-word-eq0 c = rw (← c.self.view_is)
    (marks_set c.self.inside.words c.self.inside.filled _ _ c.args.level 0 c.self.invariant.long (omega arith) c.without_bit-word.ensures.clear c.without_bit-word.ensures.others)
