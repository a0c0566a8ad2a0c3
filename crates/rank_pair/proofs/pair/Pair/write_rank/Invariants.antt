use Rattle.std.proofs.Common.{◌≡◌, ℕ, ◌≤◌, List, Option, length}
use Rattle.speed_bin.specs.Registers.{register_writes}
use Rattle.speed_bin.specs.declared.header.Header.{Header}
use Rattle.rank_pair.specs.Writing.{IsWritten, written_after, written_before}
use Rattle.rank_pair.proofs.pair.Pair.write_rank.Given as goal

abbrev pub invariant-loop-register : goal.invariant-loop-register
invariant-loop-register g l = record {
  holds : (h : Header) × (before : Option (List ℕ)) × (l.writes ≡ register_writes h.settings) × IsWritten l.self h (written_after l.rank l.register-index) before (g.K.Sink.written l.sink);
  goes : (h : Header) (before : Option (List ℕ)) → l.writes ≡ register_writes h.settings → IsWritten l.initial.self h (written_before l.rank) before (g.K.Sink.written l.initial.sink)
      → IsWritten l.self h (written_after l.rank l.register-index) before (g.K.Sink.written l.sink);
  reached : l.register-index ≤ length l.writes;
  kept : g.K.Sink.faults l.sink ≡ g.K.Sink.faults l.initial.sink;
}
