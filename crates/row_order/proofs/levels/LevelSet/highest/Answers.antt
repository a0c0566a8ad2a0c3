use Rattle.row_order.proofs.MarkLemmas.{highest_level}
use Rattle.row_order.proofs.levels.LevelSet.highest.Goals as goal

pub returns-clause-highest : goal.returns-clause-highest
returns-clause-highest c = rw (← c.self.view_is) (λ k low marked.
    highest_level _ c.highest_bit-word.result c.highest_bit.result k c.self.invariant c.highest_bit-word.ensures.inside c.highest_bit.ensures.inside
    c.highest_bit-word.ensures.found c.highest_bit-word.ensures.none_above c.highest_bit.ensures.found c.highest_bit.ensures.none_above low marked)
