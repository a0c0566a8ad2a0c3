use Rattle.device_exec.proofs.CheckedSteps.{ready_fine}
use Rattle.device_exec.proofs.checked_device.CheckedDevice.end.Goals as goal

pub judge_end-requires-clause-fine : goal.judge_end-requires-clause-fine
judge_end-requires-clause-fine c = ready_fine c.args.self.now c.requires.ready
