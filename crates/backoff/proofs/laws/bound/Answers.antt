use Rattle.speed_bin.proofs.Bounds.{bound_lem}
use Rattle.backoff.proofs.laws.bound.Goals as goal

pub returns : goal.returns
returns c = record { bounded = bound_lem }
