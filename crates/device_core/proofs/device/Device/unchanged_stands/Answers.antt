use Rattle.device_core.proofs.StepLemmas.{still_stands}
use Rattle.device_core.proofs.device.Device.unchanged_stands.Goals as goal

pub returns : goal.returns
returns c = still_stands c.cells_stand.ensures.unchanged
