use Rattle.requests.proofs.Kept.{after_write_lem}
use Rattle.requests.proofs.laws.after_write.Goals as goal

pub returns : goal.returns
returns c = record { requested = after_write_lem }
