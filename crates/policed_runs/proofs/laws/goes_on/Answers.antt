use Rattle.policed_runs.proofs.OneRun.{goes_on as run_goes_on}
use Rattle.policed_runs.proofs.laws.goes_on.Goals as goal

pub returns : goal.returns
returns c = run_goes_on c.one_turn.ensures.answer c.one_turn.ensures.kept
