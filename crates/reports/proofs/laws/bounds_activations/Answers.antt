use Rattle.reports.proofs.Bounded.{all-bounded}
use Rattle.reports.proofs.laws.bounds_activations.Goals as goal

pub returns : goal.returns
returns c = record { bounded = all-bounded c.bound.ensures.bounded }
