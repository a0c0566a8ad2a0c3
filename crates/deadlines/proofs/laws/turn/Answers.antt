use Rattle.deadlines.proofs.Wholes.{keeps_turn, turn_sixth, turn_seventh, turn_eighth, turn_thirteenth, turn_raised, turn_owing}
use Rattle.deadlines.proofs.laws.turn.Goals as goal

pub returns : goal.returns
returns c = record { keeps = keeps_turn; refreshes_in_time = turn_sixth; refreshes_evenly = turn_seventh; scrubs_in_step = turn_eighth; answers_the_alert = turn_thirteenth; raised = turn_raised; owing = turn_owing }
