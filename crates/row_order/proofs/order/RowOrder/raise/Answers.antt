use Rattle.std.proofs.Common.{◌∙◌, arith}
use Rattle.row_order.proofs.StandingLemmas.{level_is, level_may_rise}
use Rattle.row_order.proofs.order.RowOrder.raise.Goals as goal

pub overflow_add-count : goal.overflow_add-count
overflow_add-count c =
    let may = rw (← c.self.view_is, ← c.get.ensures.number) at c.requires in
    let low = level_may_rise _ c.get.result may in
    let is = c.level-count.ensures in
    let some = c.self.inside.links.some_levels in
    omega (arith, low, is)

pub put-requires-clause-level : goal.put-requires-clause-level
put-requires-clause-level c =
    let may = rw (← c.self.view_is, ← c.get.ensures.number) at c.requires in
    let low = level_may_rise _ c.get.result may in
    let is = c.level-count.ensures in
    rw (← c.self.view_is) (λ some. omega (arith, low, is))

pub returns-clause-list : goal.returns-clause-list
returns-clause-list c = λ list stands.
    let low = rw (← c.self.view_is, ← c.get.ensures.number) at c.requires.inside in
    let held = rw (← c.self.view_is) at stands in
    let is = c.level-count.ensures ∙ level_is _ list c.get.result held low in
    rw (← (rw c.get.ensures.number at is)) (c.put.ensures.list list stands)
