use Rattle.requests.proofs.Turns.{starts as starts_lem}
use Rattle.requests.proofs.laws.starts.Goals as goal

pub returns : goal.returns
returns c = record { requested = starts_lem }
