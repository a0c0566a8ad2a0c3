use Rattle.rfm_counts.proofs.Steps.{stands_at_first}
use Rattle.rfm_counts.proofs.rolling.Raa.new.Goals as goal

pub returns : goal.returns
returns c = stands_at_first c.args.settings.now
