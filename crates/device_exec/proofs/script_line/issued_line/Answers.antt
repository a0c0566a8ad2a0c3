use Rattle.std.proofs.Common.{◌∙◌, ap, option_copied}
use Rattle.ddr_text.specs.Fields.{fields_after}
use Rattle.device_exec.specs.ScriptGrammar.{of_report}
use Rattle.device_exec.proofs.Letters.{issued_is}
use Rattle.device_exec.proofs.script_line.issued_line.Goals as goal

pub returns : goal.returns
returns c = c.of_report.ensures ∙ ap of_report c.read_report_line.ensures ∙ issued_is c.args.g c.args.text.now c.args.letter.now (fields_after (option_copied c.args.rest)) c.requires.parted c.requires.letter
