use Rattle.device_core.specs.Steps.{log_of}
use Rattle.device_exec.specs.Executed.{execution, four_devices}
use Rattle.device_exec.proofs.Given.{all_legal}
use Rattle.device_exec.proofs.laws.bounds_activations.Goals as goal

pub returns : goal.returns
returns c = record { bounded = λ h rest accepted. c.peak_is_bounded.ensures.bounded h (log_of (execution four_devices h rest).steps) accepted (all_legal c.script_lines.ensures h rest) }
