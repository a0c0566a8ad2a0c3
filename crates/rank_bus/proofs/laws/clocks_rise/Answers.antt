use Rattle.rank_bus.proofs.Rising.{rise_together}
use Rattle.rank_bus.proofs.laws.clocks_rise.Goals as goal

pub returns : goal.returns
returns c = record { together = λ t bus zero one shares. rise_together t bus shares zero one }
