use Rattle.std.proofs.Common.{ℕ, ◌≡◌, List, length}
use Rattle.speed_bin.specs.declared.header.Header.{Header}
use Rattle.ddr_text.specs.declared.lines.TraceLine.{TraceLine}
use Rattle.reports.specs.Requests.{Request}
use Rattle.reports.specs.Runs.{Run}
use Rattle.trace_replay.specs.ReplayState.{kept_of}
use Rattle.trace_replay.proofs.Answering.{Remains}
use Rattle.trace_replay.proofs.answers.put_answers.Given as goal

abbrev pub invariant-answers : goal.invariant-answers
invariant-answers g l = record {
  remains : (h : Header) (trace : List TraceLine) (run : Run) (before : ℕ) (rs : List Request) → l.initial.held ≡ kept_of h trace run before rs
      → Remains h trace run before rs l.held (g.K.Sink.written l.initial.sink) (g.K.Sink.written l.sink);
  kept : g.K.Sink.faults l.sink ≡ g.K.Sink.faults l.initial.sink;
}

abbrev pub decreases-answers : goal.decreases-answers
decreases-answers g l = length l.held.items
