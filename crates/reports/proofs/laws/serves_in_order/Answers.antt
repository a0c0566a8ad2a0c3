use Rattle.reports.proofs.InOrder.{in_order as in_order_law, begins_in_order as begins_in_order_law}
use Rattle.reports.proofs.laws.serves_in_order.Goals as goal

pub returns-clause-finished : goal.returns-clause-finished
returns-clause-finished c = in_order_law

pub returns-clause-unfinished : goal.returns-clause-unfinished
returns-clause-unfinished c = begins_in_order_law
