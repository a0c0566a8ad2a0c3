use Rattle.rank_bus.proofs.Behind.{earliest_is_one}
use Rattle.rank_bus.proofs.laws.is_one.Goals as goal

pub returns : goal.returns
returns c = record { one = earliest_is_one }
