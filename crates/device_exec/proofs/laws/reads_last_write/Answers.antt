use Rattle.device_exec.proofs.Given.{reads_well}
use Rattle.device_exec.proofs.laws.reads_last_write.Goals as goal

pub returns : goal.returns
returns c = record { reads = reads_well c.script_lines.ensures c.reads_last_write.ensures.bytes c.reads_last_write.ensures.state }
