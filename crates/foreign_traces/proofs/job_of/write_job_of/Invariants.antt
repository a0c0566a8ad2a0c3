use Rattle.std.proofs.Common.{◌≡◌, ◌≤◌}
use Rattle.ddr_io.specs.declared.line_reader.Line.TheVariants.{Text}
use Rattle.foreign_traces.specs.Formats.{shape_in}
use Rattle.foreign_traces.specs.Lines.{IsJob}
use Rattle.foreign_traces.proofs.job_of.write_job_of.Given as goal

abbrev pub invariant-lines : goal.invariant-lines
invariant-lines g l = record {
  goes_on : l.reader.last ≡ Text;
  few : l.count ≤ 1048576;
  job : IsJob (shape_in l.format) l.text l.count (g.K.Sink.written l.fn.sink) (g.K.Sink.written l.sink);
  read : g.S.Source.faults l.source ≡ g.S.Source.faults l.fn.source;
  wrote : g.K.Sink.faults l.sink ≡ g.K.Sink.faults l.fn.sink;
}
