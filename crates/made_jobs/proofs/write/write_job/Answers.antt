use Rattle.std.proofs.Common.{◌∙◌, ℕ, List, Option, sym, subst}
use Rattle.ddr_io.specs.Sink.{AppendsPrefix}
use Rattle.ddr_io.specs.declared.status.Status.{Status}
use Rattle.ddr_text.specs.Stop.{WriteCause, status_of}
use Rattle.ddr_text.specs.declared.stop.Stop.{Stop}
use Rattle.ddr_text.specs.declared.stop.Stop.TheVariants.{ReadFault, WriteFault, OutOfMemory}
use Rattle.ddr_text.proofs.Outcomes.{stop-kept, stop-rose}
use Rattle.made_jobs.specs.Made.{made}
use Rattle.made_jobs.specs.Writing.{Writes}
use Rattle.made_jobs.proofs.write.write_job.Goals as goal

-- a write that stopped
writes-cut : (stop : Stop) (faults later : ℕ) (before after : Option (List ℕ)) (piece : List ℕ) → WriteCause faults later stop → AppendsPrefix before after piece → Writes (status_of stop) before after piece
writes-cut ReadFault faults later before after piece cause cut = absurd cause
writes-cut WriteFault faults later before after piece cause cut = cut
writes-cut OutOfMemory faults later before after piece cause cut = cut

pub returns-in-Err-clause-bytes : goal.returns-in-Err-clause-bytes
returns-in-Err-clause-bytes g c =
    subst (λ (s : Status). Writes s (g.K.Sink.written c.args.sink.now) (g.K.Sink.written c.put_job.new.sink) (made c.args.seed c.args.requests)) (sym c.status.ensures)
    (writes-cut c.in-Err.stop (g.K.Sink.faults c.args.sink.now) (g.K.Sink.faults c.put_job.new.sink) (g.K.Sink.written c.args.sink.now) (g.K.Sink.written c.put_job.new.sink) (made c.args.seed c.args.requests) c.in-Err.ensures.cause c.in-Err.ensures.writes_a_prefix)

pub returns-in-Err-clause-fault : goal.returns-in-Err-clause-fault
returns-in-Err-clause-fault g c = λ is. stop-rose c.in-Err.stop (g.K.Sink.faults c.args.sink.now) (g.K.Sink.faults c.put_job.new.sink) c.in-Err.ensures.cause (sym c.status.ensures ∙ is)

pub returns-in-Err-clause-faults_kept : goal.returns-in-Err-clause-faults_kept
returns-in-Err-clause-faults_kept g c = λ other. stop-kept c.in-Err.stop (g.K.Sink.faults c.args.sink.now) (g.K.Sink.faults c.put_job.new.sink) c.in-Err.ensures.cause (λ is. other (c.status.ensures ∙ is))
