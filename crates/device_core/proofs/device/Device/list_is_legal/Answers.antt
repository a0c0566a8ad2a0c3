use Rattle.device_core.proofs.StepLemmas.{list_accepted, list_geometry, list_legal, list_given}
use Rattle.device_core.proofs.device.Device.list_is_legal.Goals as goal

pub returns : goal.returns
returns c = record { accepted = list_accepted; geometry = list_geometry; legal = list_legal; given = list_given }
