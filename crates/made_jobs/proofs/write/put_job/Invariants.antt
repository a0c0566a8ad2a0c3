use Rattle.std.proofs.Common.{◌≡◌}
use Rattle.made_jobs.proofs.Jobs.{Written}
use Rattle.made_jobs.proofs.write.put_job.Given as goal

abbrev pub invariant-lines : goal.invariant-lines
invariant-lines g l = record {
  written : Written l.seed l.requests l.counter l.generator (g.K.Sink.written l.fn.sink) (g.K.Sink.written l.sink);
  counted : g.K.Sink.faults l.sink ≡ g.K.Sink.faults l.fn.sink;
}
