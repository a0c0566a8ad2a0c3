use Rattle.std.proofs.Common.{◌≡◌, ◌+◌, ◌*◌, ◌-◌}
use Rattle.fair_queue.specs.Reading.{AreKept, Continues, EndsAt, IsSteady, waiting, unread}
use Rattle.fair_queue.proofs.admitting.fill.Given as goal

abbrev pub invariant-filling : goal.invariant-filling
invariant-filling g l = record {
  going : Continues l.fn.queues l.fn.lines (unread l.fn.lines (g.S.Source.left l.fn.source)) l.queues l.lines (unread l.lines (g.S.Source.left l.source));
  ended : EndsAt (unread l.fn.lines (g.S.Source.left l.fn.source)) l.fn.lines.ahead (unread l.fn.lines (g.S.Source.left l.fn.source))
      → EndsAt (unread l.fn.lines (g.S.Source.left l.fn.source)) l.lines.ahead (unread l.lines (g.S.Source.left l.source));
  queues : AreKept l.fn.queues l.queues;
  steady : IsSteady l.fn.queues l.fn.lines l.queues l.lines;
  kept : g.S.Source.faults l.source ≡ g.S.Source.faults l.fn.source;
}

abbrev pub decreases-filling : goal.decreases-filling
decreases-filling g l = 2 * (1048577 - l.lines.number) + waiting l.lines.ahead
