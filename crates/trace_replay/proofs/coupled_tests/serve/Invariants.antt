use Rattle.std.proofs.Common.{◌≡◌, None}
use Rattle.trace_replay.specs.Coupled.{finished_of, header_of, pending_of}
use Rattle.trace_replay.proofs.coupled_tests.serve.Given as goal

abbrev pub invariant-loop : goal.invariant-loop
invariant-loop l = record {
  held : header_of l.both ≡ header_of l.initial.both;
  pending : pending_of l.both ≡ None;
  finished : finished_of l.both ≡ finished_of l.initial.both;
}
