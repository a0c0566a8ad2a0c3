use Rattle.std.proofs.Common.{◌≡◌, ℕ, ◌-◌, ◌^◌, [], ◌∷◌, ◌++◌, List, Option}
use Rattle.ddr_text.specs.declared.lines.TraceLine.TheVariants.{Idle}
use Rattle.speed_bin.specs.Header.{shape_of}
use Rattle.speed_bin.specs.declared.header.Header.{Header}
use Rattle.pair_deadlines.specs.Keeping.{Resting}
use Rattle.pair_reports.specs.declared.rank_line.RankLine.{RankLine}
use Rattle.rank_bus.specs.Standing.{now_of}
use Rattle.rank_pair.specs.Accessing.{IsThere}
use Rattle.rank_pair.specs.Job.{IsPairTrace}
use Rattle.rank_pair.specs.Under.{IsUnder, Mark}
use Rattle.rank_pair.proofs.pair.Pair.idle.Given as goal

abbrev pub invariant-waits : goal.invariant-waits
invariant-waits g l = record {
  holds : (h : Header) × (trace : List RankLine) × (mark : Mark) × (before : Option (List ℕ)) × IsUnder l.self h trace mark l.target Resting before (g.K.Sink.written l.sink);
  goes : (h : Header) (front : List RankLine) (it : RankLine) (before : Option (List ℕ)) → IsThere l.fn.self h front Resting before (g.K.Sink.written l.fn.sink) → it.line ≡ Idle l.clocks → IsPairTrace (shape_of h) (front ++ it ∷ [])
      → IsUnder l.self h (front ++ it ∷ []) (record { front = front; since = now_of l.fn.self.bus }) l.target Resting before (g.K.Sink.written l.sink);
  kept : g.K.Sink.faults l.sink ≡ g.K.Sink.faults l.fn.sink;
}

abbrev pub decreases-waits : goal.decreases-waits
decreases-waits g l = 2 ^ 40 - now_of l.self.bus
