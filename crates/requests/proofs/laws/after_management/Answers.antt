use Rattle.requests.proofs.Kept.{after_management_lem}
use Rattle.requests.proofs.laws.after_management.Goals as goal

pub returns : goal.returns
returns c = record { requested = after_management_lem }
