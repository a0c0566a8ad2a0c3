use Rattle.pair_reports.proofs.Parts.{part_is_log}
use Rattle.pair_reports.proofs.laws.has_both_logs.Goals as goal

pub returns : goal.returns
returns c = part_is_log
