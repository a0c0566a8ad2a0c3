use Rattle.std.proofs.Common.{◌≡◌, ◌+◌, ◌-◌}
use Rattle.fair_queue.specs.Machine.{in_queues}
use Rattle.fair_queue.specs.Merging.{HasMerged, IsSettled}
use Rattle.fair_queue.specs.Reading.{EndsAt, waiting, unread}
use Rattle.fair_queue.proofs.admitting.merge_lines.Given as goal

abbrev pub invariant-rounds : goal.invariant-rounds
invariant-rounds g l = record {
  merged : HasMerged l.fn.cap l.count (unread l.fn.lines (g.S.Source.left l.fn.source)) (unread l.lines (g.S.Source.left l.source)) l.queues l.lines (g.K.Sink.written l.fn.sink) (g.K.Sink.written l.sink);
  settled : IsSettled l.count l.queues l.lines;
  ended : EndsAt (unread l.fn.lines (g.S.Source.left l.fn.source)) l.lines.ahead (unread l.lines (g.S.Source.left l.source));
  kept : g.S.Source.faults l.source ≡ g.S.Source.faults l.fn.source;
  kept_written : g.K.Sink.faults l.sink ≡ g.K.Sink.faults l.fn.sink;
}

abbrev pub decreases-rounds : goal.decreases-rounds
decreases-rounds g l = 1048577 - l.lines.number + (waiting l.lines.ahead + in_queues l.queues)
