use Rattle.std.proofs.Common.{◌∙◌}
use Rattle.device_core.specs.Standing.{geometry_of}
use Rattle.device_core.specs.Store.{StandsFor as StoreFor}
use Rattle.device_core.proofs.device.Device.new.Goals as goal

pub returns-clause-geometry : goal.returns-clause-geometry
unfolding geometry_of StoreFor
returns-clause-geometry c = c.new-3.ensures.shape ∙ c.geometry.ensures
