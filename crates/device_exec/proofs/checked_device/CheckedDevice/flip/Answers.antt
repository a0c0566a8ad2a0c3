use Rattle.device_exec.specs.Standing.{StandsFor, geometry_of}
use Rattle.device_exec.proofs.CheckedSteps.{inside_device, line_in}
use Rattle.device_exec.proofs.checked_device.CheckedDevice.flip.Goals as goal

pub map_line-place-requires : goal.map_line-place-requires
unfolding geometry_of
map_line-place-requires c = line_in c.args.self.now c.args.line c.requires.ready c.requires.inside.0

pub flip-requires-clause-place : goal.flip-requires-clause-place
flip-requires-clause-place c = inside_device c.list_is_legal.ensures.geometry c.args.self.now c.map_line-place.result c.requires.ready c.map_line-place.ensures.inside
