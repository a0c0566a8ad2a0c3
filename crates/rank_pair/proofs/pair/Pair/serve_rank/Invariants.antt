use Rattle.std.proofs.Common.{◌≡◌, ℕ, ◌-◌, ◌^◌, List, Option}
use Rattle.speed_bin.specs.declared.header.Header.{Header}
use Rattle.pair_deadlines.specs.Keeping.{Serving}
use Rattle.pair_reports.specs.declared.rank_line.RankLine.{RankLine}
use Rattle.rank_bus.specs.Standing.{now_of}
use Rattle.rank_pair.specs.Under.{IsSomewhere, IsUnder, Mark, Moved}
use Rattle.rank_pair.proofs.pair.Pair.serve_rank.Given as goal

abbrev pub invariant-turns : goal.invariant-turns
invariant-turns g l = record {
  holds : IsSomewhere l.self (Serving l.rank) (g.K.Sink.written l.sink);
  goes : (h : Header) (trace : List RankLine) (mark : Mark) (until : ℕ) (before : Option (List ℕ)) → IsUnder l.initial.self h trace mark until (Serving l.rank) before (g.K.Sink.written l.initial.sink)
      → IsUnder l.self h trace mark until (Serving l.rank) before (g.K.Sink.written l.sink);
  moved : Moved l.initial.self.bus l.self.bus;
  kept : g.K.Sink.faults l.sink ≡ g.K.Sink.faults l.initial.sink;
}

abbrev pub decreases-turns : goal.decreases-turns
decreases-turns g l = 2 ^ 40 - now_of l.self.bus
