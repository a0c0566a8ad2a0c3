use Rattle.spare_device.proofs.StandIns.{changes-stood, log-stood, reading-stood}
use Rattle.spare_device.proofs.laws.stands_in.Goals as goal

pub returns : goal.returns
returns c = record { shown = λ dead changes line small given. reading-stood dead small changes line given; steps = changes-stood; log = log-stood }
