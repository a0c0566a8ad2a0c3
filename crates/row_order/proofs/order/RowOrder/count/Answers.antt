use Rattle.std.proofs.Common.{◌∙◌}
use Rattle.row_order.proofs.StandingLemmas.{level_is}
use Rattle.row_order.proofs.order.RowOrder.count.Goals as goal

pub returns : goal.returns
returns c =
    let low = rw (← c.self.view_is) at c.requires in
    rw (← c.self.view_is) (λ list stands.
    c.level.ensures ∙ rw c.get.ensures.number (level_is _ list c.args.row stands low))
