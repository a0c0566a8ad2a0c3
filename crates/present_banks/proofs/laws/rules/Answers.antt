use Rattle.speed_bin.proofs.Present.{has_banks}
use Rattle.present_banks.proofs.Agreeing.{own_bank, ready, rules_agree, rules_agree_at_end}
use Rattle.present_banks.proofs.laws.rules.Goals as goal

pub returns : goal.returns
returns c = record {
  at_a_place = λ h clock command log ok inside in_range. rules_agree h clock command log (ready h ok) (has_banks h log inside) (own_bank h command in_range);
  at_the_end = λ h clock log ok inside. rules_agree_at_end h clock log (ready h ok) (has_banks h log inside);
}
