use Rattle.judged_logs.proofs.Steps.{stands_at_first}
use Rattle.judged_logs.proofs.rolling.Rolling.new.Goals as goal

pub returns : goal.returns
returns c = stands_at_first c.args.settings.now
