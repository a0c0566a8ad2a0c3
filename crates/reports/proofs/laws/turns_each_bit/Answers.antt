use Rattle.reports.proofs.Bits.{each_flip_turned as law}
use Rattle.reports.proofs.laws.turns_each_bit.Goals as goal

pub returns : goal.returns
returns c = law
