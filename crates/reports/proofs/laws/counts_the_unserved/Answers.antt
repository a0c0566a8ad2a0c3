use Rattle.reports.proofs.Counted.{counts-unserved}
use Rattle.reports.proofs.laws.counts_the_unserved.Goals as goal

pub returns : goal.returns
returns c = record { waiting = counts-unserved }
