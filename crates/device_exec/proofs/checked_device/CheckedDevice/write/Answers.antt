use Rattle.device_exec.proofs.CheckedSteps.{may_write}
use Rattle.device_exec.proofs.checked_device.CheckedDevice.write.Goals as goal

pub take-requires : goal.take-requires
take-requires c = may_write c.args.self.now c.in-Some.waiting c.args.bytes.now c.in-Some.is c.requires
