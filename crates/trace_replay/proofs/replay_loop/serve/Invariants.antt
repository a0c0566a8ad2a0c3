use Rattle.std.proofs.Common.{◌≡◌, Option, List, ℕ}
use Rattle.ddr_io.specs.Line.{next_bytes}
use Rattle.speed_bin.specs.declared.header.Header.{Header}
use Rattle.ddr_text.specs.declared.lines.TraceLine.{TraceLine}
use Rattle.reports.specs.Runs.{Run}
use Rattle.trace_replay.specs.ReplayState.{LoopInvariant, IsUnder, MayGoOn, left_of}
use Rattle.trace_replay.proofs.replay_loop.serve.Given as goal

abbrev pub invariant-turns : goal.invariant-turns
invariant-turns g l = record {
  holds : (h : Header) × (trace : List TraceLine) × (run : Run) × LoopInvariant h l.progress trace run;
  under : (h : Header) (start before : Option (List ℕ)) → IsUnder h l.initial.progress start (next_bytes l.initial.reader.held (g.S.Source.left l.initial.source)) before (g.K.Sink.written l.initial.sink)
      → IsUnder h l.progress start (next_bytes l.reader.held (g.S.Source.left l.source)) before (g.K.Sink.written l.sink);
  going_on : MayGoOn l.progress.ahead l.reader.last;
  kept : g.S.Source.faults l.source ≡ g.S.Source.faults l.initial.source;
  kept_written : g.K.Sink.faults l.sink ≡ g.K.Sink.faults l.initial.sink;
}

abbrev pub decreases-turns : goal.decreases-turns
decreases-turns g l = left_of l.progress
