use Rattle.deadlines.proofs.Wholes.{keeps_rest, rest_sixth, rest_thirteenth}
use Rattle.deadlines.proofs.laws.rest.Goals as goal

pub returns : goal.returns
returns c = record { keeps = keeps_rest; refreshes_in_time = rest_sixth; answers_the_alert = rest_thirteenth }
