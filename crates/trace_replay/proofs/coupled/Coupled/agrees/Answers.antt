use Rattle.trace_replay.specs.Coupled.{StandsFor, controller_of}
use Rattle.trace_replay.proofs.coupled.Coupled.agrees.Goals as goal

pub returns-clause-header : goal.returns-clause-header
unfolding StandsFor controller_of
returns-clause-header c = λ it h offered idle steps s. c.held.ensures.header h it.controller offered idle _ s.controller
