use Rattle.trace_replay.proofs.Agreeing.{device_log_is, places_are}
use Rattle.trace_replay.proofs.coupled.Coupled.one_log.Goals as goal

pub returns-clause-controller : goal.returns-clause-controller
returns-clause-controller c = places_are

pub returns-clause-device : goal.returns-clause-device
returns-clause-device c = device_log_is
