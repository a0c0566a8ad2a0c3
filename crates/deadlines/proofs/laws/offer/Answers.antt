use Rattle.deadlines.proofs.Wholes.{keeps_offer}
use Rattle.deadlines.proofs.laws.offer.Goals as goal

pub returns : goal.returns
returns c = record { keeps = keeps_offer }
