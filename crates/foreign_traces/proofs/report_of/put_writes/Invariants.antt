use Rattle.std.proofs.Common.{◌≡◌, ℕ, ◌*◌, ◌≤◌, List, Option}
use Rattle.command_words.specs.Geometry.{Shape}
use Rattle.foreign_traces.specs.Lines.{IsReport}
use Rattle.foreign_traces.proofs.report_of.put_writes.Given as goal

abbrev pub invariant-registers : goal.invariant-registers
invariant-registers g l = record {
  clock : l.clock ≤ 65535 * l.write-index;
  report : (shape : Shape) (text : List ℕ) (before : Option (List ℕ)) → IsReport shape text before (g.K.Sink.written l.fn.sink) → IsReport shape text before (g.K.Sink.written l.sink);
  wrote : g.K.Sink.faults l.sink ≡ g.K.Sink.faults l.fn.sink;
}
