use Rattle.scheduler.proofs.OneTurn.{one_turn}
use Rattle.scheduler.proofs.laws.one_turn.Goals as goal

pub returns : goal.returns
returns c = record {
  answer = λ h s offered log turn other next later x y. (one_turn h s offered log turn other next later x y).answer;
  kept = λ h s offered log turn other next later x y. (one_turn h s offered log turn other next later x y).kept;
}
