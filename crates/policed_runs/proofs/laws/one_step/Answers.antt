use Rattle.policed_runs.proofs.OneStep.{one_step as step_is}
use Rattle.policed_runs.proofs.laws.one_step.Goals as goal

pub returns : goal.returns
returns c = step_is c.one_turn.ensures.answer c.one_turn.ensures.kept
