use Rattle.row_order.proofs.order.stands.Goals as goal

pub returns : goal.returns
returns c = rw (← c.order.view_is) c.order.invariant
