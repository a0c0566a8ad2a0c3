use Rattle.std.proofs.Common.{◌≡◌, ◌-◌}
use Rattle.ddr_io.specs.Line.{next_bytes}
use Rattle.ddr_cli.specs.Behind.{WrittenSoFar}
use Rattle.ddr_cli.specs.Wording.{written_as}
use Rattle.ddr_cli.proofs.writing.write_behind.Given as goal

abbrev pub invariant-each : goal.invariant-each
invariant-each g l = record {
  so_far : WrittenSoFar (written_as l.wording) l.fn.lines (next_bytes l.fn.lines.reader.held (g.S.Source.left l.fn.source)) l.lines (next_bytes l.lines.reader.held (g.S.Source.left l.source)) (g.K.Sink.written l.fn.sink) (g.K.Sink.written l.sink);
  counted : g.S.Source.faults l.source ≡ g.S.Source.faults l.fn.source;
  writes : g.K.Sink.faults l.sink ≡ g.K.Sink.faults l.fn.sink;
}

abbrev pub decreases-each : goal.decreases-each
decreases-each g l = 4294967296 - l.lines.number
