use Rattle.requests.proofs.Kept.{after_precharge_lem}
use Rattle.requests.proofs.laws.after_precharge.Goals as goal

pub returns : goal.returns
returns c = record { requested = after_precharge_lem }
