use Rattle.device_exec.proofs.Ordered.{judged_in_order}
use Rattle.device_exec.proofs.laws.judges_in_order.Goals as goal

pub returns : goal.returns
returns c = record { judged = judged_in_order }
