use Rattle.pair_reports.proofs.Within.{inside_line}
use Rattle.pair_reports.proofs.laws.reads_lines_inside.Goals as goal

pub returns : goal.returns
returns c = record { inside = inside_line c.reads_lines_inside.ensures.inside }
