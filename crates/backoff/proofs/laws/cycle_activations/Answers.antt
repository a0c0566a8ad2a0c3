use Rattle.speed_bin.proofs.Bounds.{cycle_activations_lem}
use Rattle.backoff.proofs.laws.cycle_activations.Goals as goal

pub returns : goal.returns
returns c = record { at_most = cycle_activations_lem }
