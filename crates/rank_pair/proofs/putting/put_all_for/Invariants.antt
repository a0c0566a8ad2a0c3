use Rattle.std.proofs.Common.{◌≡◌, take}
use Rattle.std.specs.List.{flat_map}
use Rattle.std.specs.Io.KnownBytes.{Appends}
use Rattle.rank_pair.specs.Pairs.{spelled_by}
use Rattle.rank_pair.proofs.putting.put_all_for.Given as goal

abbrev pub invariant-loop-line : goal.invariant-loop-line
invariant-loop-line g l = record {
  written : Appends (g.K.Sink.written l.initial.sink) (g.K.Sink.written l.sink) (flat_map (spelled_by l.rank) (take l.line-index l.lines));
  kept : g.K.Sink.faults l.sink ≡ g.K.Sink.faults l.initial.sink;
}
