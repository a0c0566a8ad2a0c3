use Rattle.row_order.specs.Entries.{rising}
use Rattle.row_order.proofs.StandingLemmas.{stands_rising}
use Rattle.row_order.proofs.order.RowOrder.new.Goals as goal

pub invariant_of-result : goal.invariant_of-result
invariant_of-result c =
    let made = c.in_ok-links.ensures in
    ∣ (rising c.args.rows, stands_rising _ c.new-used.result c.args.rows c.args.levels made.sizes.0 made.sizes.1 c.requires.rows.0 c.requires.levels.0 made.next made.prev made.level c.new-used.ensures c.insert.ensures) ∣₁

pub returns-clause-list : goal.returns-clause-list
returns-clause-list c =
    let made = c.in_ok-links.ensures in
    stands_rising _ c.new-used.result c.args.rows c.args.levels made.sizes.0 made.sizes.1 c.requires.rows.0 c.requires.levels.0 made.next made.prev made.level c.new-used.ensures c.insert.ensures
