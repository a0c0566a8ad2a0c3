use Rattle.reports.proofs.Lines.{takes, takes-offered, takes-held}
use Rattle.reports.proofs.Controlled.{takes-idle, inside-more}
use Rattle.reports.proofs.laws.takes_a_request.Goals as goal

pub returns-clause-stays_underway : goal.returns-clause-stays_underway
returns-clause-stays_underway c = takes

pub returns-clause-offered : goal.returns-clause-offered
returns-clause-offered c = takes-offered

pub returns-clause-held : goal.returns-clause-held
returns-clause-held c = takes-held

pub returns-clause-idle : goal.returns-clause-idle
returns-clause-idle c = takes-idle

pub returns-clause-inside : goal.returns-clause-inside
returns-clause-inside c = inside-more
