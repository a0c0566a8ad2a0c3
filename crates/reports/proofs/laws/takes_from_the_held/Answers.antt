use Rattle.reports.proofs.Ready.{ready-held as ready-held_law, ready-more as ready-more_law, held-more as held-more_law}
use Rattle.reports.proofs.laws.takes_from_the_held.Goals as goal

pub returns-clause-parts : goal.returns-clause-parts
returns-clause-parts c = ready-held_law

pub returns-clause-ready : goal.returns-clause-ready
returns-clause-ready c = ready-more_law

pub returns-clause-held : goal.returns-clause-held
returns-clause-held c = held-more_law
