use Rattle.deadlines.proofs.Limits.{comes_soon, max_small, last_by_now}
use Rattle.deadlines.proofs.laws.soon.Goals as goal

pub returns : goal.returns
returns c = record { within = comes_soon; small = max_small; last = last_by_now }
