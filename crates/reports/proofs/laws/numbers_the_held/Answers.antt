use Rattle.reports.proofs.Lines.{ranked-held, apart-numbers}
use Rattle.reports.proofs.laws.numbers_the_held.Goals as goal

pub returns-clause-ranked : goal.returns-clause-ranked
returns-clause-ranked c = ranked-held

pub returns-clause-apart : goal.returns-clause-apart
returns-clause-apart c = apart-numbers
