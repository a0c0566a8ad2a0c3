use Rattle.requests.proofs.Kept.{spared_missed, spared_closed}
use Rattle.requests.proofs.laws.spared.Goals as goal

pub returns : goal.returns
returns c = record { not_owed_without_a_hit = spared_missed; not_owed_while_closed = spared_closed }
