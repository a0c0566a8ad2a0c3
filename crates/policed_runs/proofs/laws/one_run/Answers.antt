use Rattle.policed_runs.proofs.OneRun.{one_run as run_is}
use Rattle.policed_runs.proofs.laws.one_run.Goals as goal

pub returns : goal.returns
returns c = record {
  run = λ h trace run other clock end x y. (run_is c.one_turn.ensures.answer c.one_turn.ensures.kept h trace run other clock end x y).runs;
  clock = λ h trace run other clock end x y. (run_is c.one_turn.ensures.answer c.one_turn.ensures.kept h trace run other clock end x y).clocks;
}
