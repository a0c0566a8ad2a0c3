use Rattle.std.proofs.Common.{arith}
use Rattle.present_banks.proofs.Agreeing.{ready}
use Rattle.present_banks.proofs.Peaks.{peak_agrees}
use Rattle.present_banks.specs.Over.{banks_of_header}
use Rattle.present_banks.proofs.laws.greatest_activations.Goals as goal

pub returns : goal.returns
returns c = record {
  own_banks = λ h log ok inside. peak_agrees (banks_of_header h) h log (omega arith) inside;
  all_numbers = λ h log ok inside. peak_agrees 32 h log (let few = (ready h ok).are_absent in omega (arith, few)) inside;
}
