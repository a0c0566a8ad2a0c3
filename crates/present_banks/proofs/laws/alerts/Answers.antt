use Rattle.speed_bin.proofs.Present.{has_banks, is_hot_agrees}
use Rattle.present_banks.proofs.Agreeing.{alert_agrees, ready}
use Rattle.present_banks.proofs.laws.alerts.Goals as goal

pub returns : goal.returns
returns c = record {
  hot = λ h log ok inside. is_hot_agrees h h.version.groups (ready h ok).absent log (ready h ok).ath (ready h ok).are_absent (has_banks h log inside);
  raised = λ h log ok inside. alert_agrees h log (ready h ok) (has_banks h log inside);
}
