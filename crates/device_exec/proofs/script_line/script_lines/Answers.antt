use Rattle.device_exec.proofs.ScriptLaws.{script_grammar}
use Rattle.device_exec.proofs.script_line.script_lines.Goals as goal

pub returns : goal.returns
returns c = script_grammar c.report_lines.ensures
