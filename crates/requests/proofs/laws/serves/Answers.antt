use Rattle.requests.proofs.Kept.{serves_lem}
use Rattle.requests.proofs.laws.serves.Goals as goal

pub returns : goal.returns
returns c = record { served = serves_lem }
