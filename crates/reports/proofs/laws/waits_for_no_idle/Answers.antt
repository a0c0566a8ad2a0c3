use Rattle.reports.proofs.Idles.{idled-none as law}
use Rattle.reports.proofs.laws.waits_for_no_idle.Goals as goal

pub returns : goal.returns
returns c = law
