use Rattle.device_core.proofs.Rules.{peak_within}
use Rattle.device_core.proofs.laws.peak_is_bounded.Goals as goal

pub returns : goal.returns
returns c = record { bounded = peak_within }
