use Rattle.speed_bin.proofs.Present.{has_banks}
use Rattle.present_banks.proofs.Agreeing.{ready, verdict_agrees, verdict_agrees_at_end}
use Rattle.present_banks.proofs.laws.verdicts.Goals as goal

pub returns : goal.returns
returns c = record {
  so_far = λ h log ok inside. verdict_agrees h log (ready h ok) (has_banks h log inside);
  at_the_end = λ h clock log ok inside. verdict_agrees_at_end h clock log (ready h ok) (has_banks h log inside);
}
