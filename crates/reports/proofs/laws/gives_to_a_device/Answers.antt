use Rattle.reports.proofs.Stored.{log-device}
use Rattle.reports.proofs.Device.{given as given_law, turns as turns_law, turned-bit}
use Rattle.reports.proofs.laws.gives_to_a_device.Goals as goal

pub returns-clause-log : goal.returns-clause-log
returns-clause-log c = log-device

pub returns-clause-given : goal.returns-clause-given
returns-clause-given c = given_law

pub returns-clause-turns : goal.returns-clause-turns
returns-clause-turns c = turns_law

pub returns-clause-bit : goal.returns-clause-bit
returns-clause-bit c = turned-bit
