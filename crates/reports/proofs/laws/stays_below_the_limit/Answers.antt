use Rattle.reports.proofs.Counted.{below-limit}
use Rattle.reports.proofs.laws.stays_below_the_limit.Goals as goal

pub returns : goal.returns
returns c = record { lines = below-limit }
