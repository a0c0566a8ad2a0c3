use Rattle.pair_reports.proofs.Grown.{begun_report_longer, begun_longer}
use Rattle.pair_reports.proofs.laws.rests_on_the_lines_so_far.Goals as goal

pub returns : goal.returns
returns c = record { report = begun_report_longer; begun = begun_longer }
