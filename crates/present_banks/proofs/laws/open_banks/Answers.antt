use Rattle.present_banks.proofs.Agreeing.{open_is_present}
use Rattle.present_banks.proofs.laws.open_banks.Goals as goal

pub returns : goal.returns
returns c = record { present = open_is_present }
