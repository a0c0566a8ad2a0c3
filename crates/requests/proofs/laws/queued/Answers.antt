use Rattle.requests.proofs.Kept.{queued_lem}
use Rattle.requests.proofs.laws.queued.Goals as goal

pub returns : goal.returns
returns c = record { is_queued = queued_lem }
