use Rattle.reports.proofs.Longer.{report-longer as report_law, device_steps-longer as device_law}
use Rattle.reports.proofs.Grows.{sound-longer as sound_law, through-longer as through_law}
use Rattle.reports.proofs.laws.rests_on_the_lines_so_far.Goals as goal

pub returns-clause-report : goal.returns-clause-report
returns-clause-report c = report_law

pub returns-clause-sound : goal.returns-clause-sound
returns-clause-sound c = sound_law

pub returns-clause-device : goal.returns-clause-device
returns-clause-device c = device_law

pub returns-clause-through : goal.returns-clause-through
returns-clause-through c = through_law
