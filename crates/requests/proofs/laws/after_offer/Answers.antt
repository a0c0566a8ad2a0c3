use Rattle.requests.proofs.Turns.{after_offer as after_offer_lem}
use Rattle.requests.proofs.laws.after_offer.Goals as goal

pub returns : goal.returns
returns c = record { requested = after_offer_lem }
