use Rattle.std.proofs.Common.{subst}
use Rattle.device_core.specs.Standing.{StandsForSome}
use Rattle.device_core.proofs.device.Device.scrub_counts.Goals as goal

pub returns-clause-stands : goal.returns-clause-stands
returns-clause-stands c = subst StandsForSome c.self.view_is c.self.invariant
