use Rattle.speed_bin.proofs.StatedAccepted.{stated-accepted}
use Rattle.speed_bin.proofs.laws.stated_headers_are_accepted.Goals as goal

pub returns : goal.returns
returns c = record { accepted = stated-accepted }
