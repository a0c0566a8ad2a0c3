use Rattle.requests.proofs.Turns.{after_activate as after_activate_lem}
use Rattle.requests.proofs.laws.after_activate.Goals as goal

pub returns : goal.returns
returns c = record { requested = after_activate_lem }
