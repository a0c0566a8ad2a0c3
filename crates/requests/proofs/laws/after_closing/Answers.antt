use Rattle.requests.proofs.Kept.{after_closing_lem}
use Rattle.requests.proofs.laws.after_closing.Goals as goal

pub returns : goal.returns
returns c = record { requested = after_closing_lem }
