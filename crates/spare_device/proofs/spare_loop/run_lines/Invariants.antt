use Rattle.std.proofs.Common.{◌≡◌, ◌-◌}
use Rattle.ddr_io.specs.Line.{next_bytes}
use Rattle.spare_device.specs.Running.{RunsSoFar}
use Rattle.spare_device.proofs.spare_loop.run_lines.Given as goal

abbrev pub invariant-each : goal.invariant-each
invariant-each g l = record {
  runs : RunsSoFar l.dead l.header (next_bytes l.fn.reader.held (g.S.Source.left l.fn.source)) l.lines (next_bytes l.lines.reader.held (g.S.Source.left l.source)) l.device (g.K.Sink.written l.fn.sink) (g.K.Sink.written l.sink);
  counted : g.S.Source.faults l.source ≡ g.S.Source.faults l.fn.source;
  writes : g.K.Sink.faults l.sink ≡ g.K.Sink.faults l.fn.sink;
}

abbrev pub decreases-each : goal.decreases-each
decreases-each g l = 4294967296 - l.lines.number
