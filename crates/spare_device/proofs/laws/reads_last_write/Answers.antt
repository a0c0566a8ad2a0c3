use Rattle.std.proofs.Common.{refl}
use Rattle.device_exec.specs.Executed.{execution}
use Rattle.spare_device.specs.Spared.{five_devices}
use Rattle.spare_device.proofs.Promised.{all_right}
use Rattle.spare_device.proofs.laws.reads_last_write.Goals as goal

pub returns : goal.returns
returns c = record {
  reads = λ dead h rest. record {
    shown = c.reads_are_shown.ensures.shown (five_devices dead) h rest (λ k steps. refl);
    right = all_right dead h (execution (five_devices dead) h rest).reads c.reads_without_one.ensures.bytes c.reads_without_one.ensures.state (c.reads_are_shown.ensures.given (five_devices dead) h rest);
  };
}
