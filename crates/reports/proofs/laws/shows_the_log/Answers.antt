use Rattle.reports.proofs.Logged.{logged as logged_law}
use Rattle.reports.proofs.laws.shows_the_log.Goals as goal

pub returns : goal.returns
returns c = logged_law
