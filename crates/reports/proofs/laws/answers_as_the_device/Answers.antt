use Rattle.reports.proofs.Device.{device-answers}
use Rattle.reports.proofs.Answered.{reading-kept}
use Rattle.reports.proofs.laws.answers_as_the_device.Goals as goal

pub returns-clause-device : goal.returns-clause-device
returns-clause-device c = device-answers

pub returns-clause-stays : goal.returns-clause-stays
returns-clause-stays c = reading-kept
