use Rattle.trace_replay.proofs.Under.{left-offered, goes-offered}
use Rattle.trace_replay.proofs.replay_state.ReplayState.offer_next.Goals as goal

pub returns-in-Some-clause-fewer : goal.returns-in-Some-clause-fewer
returns-in-Some-clause-fewer c = left-offered c.args.self.now c.offer.new.self c.in-NextLine.line c.offer.result c.in-NextLine.is c.offer.ensures.taken c.offer.ensures.ahead c.offer.ensures.commands c.offer.ensures.finished c.offer.ensures.same

pub returns-in-Some-clause-goes_on : goal.returns-in-Some-clause-goes_on
returns-in-Some-clause-goes_on c = λ last m. goes-offered c.args.self.now c.offer.new.self c.in-NextLine.line c.offer.result last c.in-NextLine.is c.offer.ensures.ahead c.offer.ensures.same m
