use Rattle.std.proofs.Common.{◌≡◌, ◌-◌, [], None, Option, List, ℕ}
use Rattle.ddr_io.specs.Line.{next_bytes}
use Rattle.pair_deadlines.specs.Keeping.{Resting}
use Rattle.rank_pair.specs.Accessing.{IsThere}
use Rattle.rank_pair.specs.Running.{RunsSoFar}
use Rattle.rank_pair.proofs.pair_loop.run_lines.Given as goal

abbrev pub invariant-each : goal.invariant-each
invariant-each g l = record {
  holds : RunsSoFar l.header (next_bytes l.fn.reader.held (g.S.Source.left l.fn.source)) l.lines (next_bytes l.lines.reader.held (g.S.Source.left l.source)) l.pair None (g.K.Sink.written l.sink);
  goes : (before : Option (List ℕ)) → IsThere l.fn.pair l.header [] Resting before (g.K.Sink.written l.fn.sink)
      → RunsSoFar l.header (next_bytes l.fn.reader.held (g.S.Source.left l.fn.source)) l.lines (next_bytes l.lines.reader.held (g.S.Source.left l.source)) l.pair before (g.K.Sink.written l.sink);
  counted : g.S.Source.faults l.source ≡ g.S.Source.faults l.fn.source;
  writes : g.K.Sink.faults l.sink ≡ g.K.Sink.faults l.fn.sink;
}

abbrev pub decreases-each : goal.decreases-each
decreases-each g l = 1048577 - l.lines.lines
