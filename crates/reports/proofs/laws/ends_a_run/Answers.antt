use Rattle.reports.proofs.Controlled.{short as short_law}
use Rattle.reports.proofs.Lines.{ends}
use Rattle.reports.proofs.Underway.{none-waits}
use Rattle.reports.proofs.laws.ends_a_run.Goals as goal

pub returns-clause-finished : goal.returns-clause-finished
returns-clause-finished c = λ h trace n now clock run u none le e. ends h trace n now clock run u (none-waits c.oldest_unserved.ensures.none h trace run u.sound none) le e

pub returns-clause-short : goal.returns-clause-short
returns-clause-short c = short_law
