use Rattle.reports.proofs.Lines.{starts, looks, waits-on}
use Rattle.reports.proofs.laws.begins_a_run.Goals as goal

pub returns-clause-start : goal.returns-clause-start
returns-clause-start c = starts

pub returns-clause-ahead : goal.returns-clause-ahead
returns-clause-ahead c = looks

pub returns-clause-time_passes : goal.returns-clause-time_passes
returns-clause-time_passes c = waits-on
