use Rattle.audited_reports.proofs.Replayed.{finished, refused}
use Rattle.audited_reports.proofs.replayed_report_is_ok.Goals as goal

pub returns : goal.returns
returns c = record { finished = finished c.finished_report_is_ok.ensures.finding; refused = refused c.finished_report_is_ok.ensures.finding }
