use Rattle.std.proofs.Common.{Some, ap}
use Rattle.speed_bin.specs.declared.settings.Settings.{Settings}
use Rattle.log_auditor.proofs.judge.count.Goals as goal

pub returns : goal.returns
returns c = λ h log stands rows may same. c.issue.ensures h log stands rows may (λ _. ap (λ (s : Settings). Some s) same)
