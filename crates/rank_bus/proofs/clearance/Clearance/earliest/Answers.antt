use Rattle.rank_bus.proofs.Behind.{kept_is_least}
use Rattle.rank_bus.proofs.clearance.Clearance.earliest.Goals as goal

pub returns : goal.returns
returns c = λ log left clock. rw c.kept.ensures (kept_is_least c.args.self.now c.args.command.now log left clock)
