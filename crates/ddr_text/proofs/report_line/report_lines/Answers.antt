use Rattle.ddr_text.proofs.ReportLaws.{report_lines as law}
use Rattle.ddr_text.proofs.report_line.report_lines.Goals as goal

pub returns : goal.returns
returns c = law
