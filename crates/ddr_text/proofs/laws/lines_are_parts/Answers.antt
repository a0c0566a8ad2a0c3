use Rattle.ddr_text.proofs.LineParts.{lines_are_parts as law}
use Rattle.ddr_text.proofs.laws.lines_are_parts.Goals as goal

pub returns : goal.returns
returns c = law
