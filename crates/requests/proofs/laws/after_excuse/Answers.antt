use Rattle.requests.proofs.Kept.{after_excuse_lem}
use Rattle.requests.proofs.laws.after_excuse.Goals as goal

pub returns : goal.returns
returns c = record { requested = after_excuse_lem }
