use Rattle.deadlines.proofs.Limits.{now_small, target_small, places_small}
use Rattle.deadlines.proofs.laws.limits.Goals as goal

pub returns : goal.returns
returns c = record { now = now_small; target = target_small; places = places_small }
