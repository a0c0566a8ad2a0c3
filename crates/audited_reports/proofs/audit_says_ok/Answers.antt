use Rattle.audited_reports.proofs.Audited.{says}
use Rattle.audited_reports.proofs.audit_says_ok.Goals as goal

pub returns : goal.returns
returns c = record { answer = says }
