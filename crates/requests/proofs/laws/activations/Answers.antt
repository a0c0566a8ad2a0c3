use Rattle.requests.proofs.Kept.{activations_lem}
use Rattle.requests.proofs.laws.activations.Goals as goal

pub returns : goal.returns
returns c = record { at_most = activations_lem }
