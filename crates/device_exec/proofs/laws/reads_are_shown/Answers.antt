use Rattle.device_exec.proofs.Given.{all_given, shows_reads}
use Rattle.device_exec.proofs.laws.reads_are_shown.Goals as goal

pub returns : goal.returns
returns c = record { shown = shows_reads; given = all_given c.script_lines.ensures }
