use Rattle.std.proofs.Common.{◌<◌}
use Rattle.fair_queue.proofs.Searching.{Left}
use Rattle.fair_queue.proofs.queues.Queues.next_port.Given as goal

abbrev pub invariant-loop : goal.invariant-loop
invariant-loop l = record { low : l.port < 4; left : Left l.self l.port l.counter }
