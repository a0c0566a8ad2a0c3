use Rattle.reports.proofs.Grows.{report-begins as law}
use Rattle.reports.proofs.laws.goes_on.Goals as goal

pub returns : goal.returns
returns c = law
