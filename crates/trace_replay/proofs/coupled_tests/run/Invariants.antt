use Rattle.std.proofs.Common.{◌≡◌, None, false}
use Rattle.trace_replay.specs.Coupled.{finished_of, header_of, pending_of}
use Rattle.trace_replay.proofs.coupled_tests.run.Given as goal

abbrev pub invariant-loop-line : goal.invariant-loop-line
invariant-loop-line l = record {
  held : header_of l.both ≡ l.header;
  pending : pending_of l.both ≡ None;
  unfinished : finished_of l.both ≡ false;
}
