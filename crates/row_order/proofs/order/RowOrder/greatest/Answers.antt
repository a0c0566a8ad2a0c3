use Rattle.std.proofs.Common.{◌≡◌, ◌∙◌, arith, rules}
use Rattle.row_order.proofs.StandingLemmas.{top_level, top_row, greatest_is}
use Rattle.row_order.proofs.order.RowOrder.greatest.Goals as goal

pub first-requires : goal.first-requires
first-requires c =
    let few = c.self.inside.links.some_levels in
    top_level _ c.highest-level.result c.self.invariant c.self.inside.links.whole.some (omega arith) c.highest-level.ensures.inside c.highest-level.ensures.highest

pub unwrap-row-requires : goal.unwrap-row-requires
unwrap-row-requires c =
    let rows = c.self.inside.links.whole.some in
    let few = c.self.inside.links.some_levels in
    let is = c.first.ensures in
    let low = top_row _ c.highest-level.result c.self.invariant rows (omega arith) c.highest-level.ensures.inside c.highest-level.ensures.highest in
    c.new.ensures.in_range.1 (omega (arith, is, low))

pub returns-clause-inside : goal.returns-clause-inside
returns-clause-inside c =
    let rows = c.self.inside.links.whole.some in
    let few = c.self.inside.links.some_levels in
    let is = c.first.ensures in
    let low = top_row _ c.highest-level.result c.self.invariant rows (omega arith) c.highest-level.ensures.inside c.highest-level.ensures.highest in
    let same : c.unwrap-row.result ≡ c.first.result = search rules in
    rw (← c.self.view_is) (omega (arith, is, low, same))

pub returns-clause-list : goal.returns-clause-list
returns-clause-list c =
    let few = c.self.inside.links.some_levels in
    let same : c.unwrap-row.result ≡ c.first.result = search rules in
    rw (← c.self.view_is) (λ list stands.
    greatest_is _ list c.highest-level.result c.unwrap-row.result stands c.self.inside.links.whole.some (omega arith) c.highest-level.ensures.inside c.highest-level.ensures.highest (same ∙ c.first.ensures))
