use Rattle.std.proofs.Common.{◌≡◌, ◌+◌, ◌<◌, ◌^◌}
use Rattle.ddr_io.specs.declared.line_reader.Line.TheVariants.{Text}
use Rattle.speed_bin.specs.Header.{shape_of}
use Rattle.foreign_traces.specs.Lines.{IsReport}
use Rattle.foreign_traces.proofs.report_of.write_report_of.Given as goal

abbrev pub invariant-lines : goal.invariant-lines
invariant-lines g l = record {
  goes_on : l.reader.last ≡ Text;
  room : l.progress.last + 262144 < 2 ^ 48;
  report : IsReport (shape_of l.header) l.text (g.K.Sink.written l.fn.sink) (g.K.Sink.written l.sink);
  read : g.S.Source.faults l.source ≡ g.S.Source.faults l.fn.source;
  wrote : g.K.Sink.faults l.sink ≡ g.K.Sink.faults l.fn.sink;
}
