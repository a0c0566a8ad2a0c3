-- A made job that is replayed is not refused, and what is written is the end of its report.
use Rattle.std.proofs.Common.{◌≡◌, ◌∙◌, ◌≤◌, ℕ, false, is_some, Option, Some, None, List, ◌∷◌, ◌++◌, inr, refl, sym, ap, subst}
use Rattle.std.specs.List.{flat_map}
use Rattle.ddr_io.specs.declared.status.Status.{Status}
use Rattle.ddr_io.specs.declared.status.Status.TheVariants as status
use Rattle.ddr_text.specs.Io.{io}
use Rattle.ddr_text.specs.Spelling.{spelled}
use Rattle.ddr_text.specs.declared.lines.ReportLine.TheVariants.{End as EndLine}
use Rattle.ddr_text.specs.declared.lines.TraceLine.{TraceLine}
use Rattle.speed_bin.specs.declared.header.Header.{Header}
use Rattle.made_jobs.specs.Made.{opening, made, made_trace}
use Rattle.made_jobs.specs.Replayed.{made_header}
use Rattle.made_jobs.specs.Writing.{Writes}
use Rattle.reports.specs.Stats.{stats}
use Rattle.ddr_text.specs.ReportParts.{refusal_lines}
use Rattle.trace_replay.specs.Ending.{end_lines}
use Rattle.trace_replay.specs.Replay.{IsUnrefused, RunAnswers, refusal_of}
use Rattle.trace_replay.specs.Job.{IsJobOf}
use Rattle.ddr_text.specs.Stop.{WriteCause, status_of as stop_status}
use Rattle.trace_replay.specs.declared.ending.Ending.{Ending}
use Rattle.trace_replay.specs.declared.replay_loop.Ended.TheVariants.{Finished, Refused as RefusedOpening}
use Rattle.ddr_text.specs.declared.stop.Stop.{Stop}
use Rattle.ddr_text.specs.declared.stop.Stop.TheVariants as stops
use Rattle.ddr_cli.specs.Made.{IsMadeEnd, MadeAnswers}
use Rattle.ddr_cli.proofs.MadeJob.{Laws, made_is_job}

-- the opening of a made job is not refused
pub not_refused : Laws → (seed requests : ℕ) → requests ≤ 1048576 → (bytes : List ℕ) → bytes ≡ made seed requests
    → ((h : Header) (text : List ℕ) (trace : List TraceLine) → IsJobOf (Some bytes) h text trace None → IsUnrefused RefusedOpening) → ⊥
not_refused laws seed requests few bytes same complete =
    complete made_header opening (made_trace seed requests) (subst (λ (b : List ℕ). IsJobOf (Some b) made_header opening (made_trace seed requests) None) (sym same) (made_is_job laws seed requests few))

none_some : (refused : Option ℕ) → false ≡ is_some refused → refused ≡ None
none_some None e = refl
none_some (Some reason) e = absurd cc

-- a run of it that is finished has no refusal, and this ends its report
pub is_made_end : Laws → (seed requests : ℕ) → requests ≤ 1048576 → (bytes : List ℕ) (ending : Ending) (left before after : Option (List ℕ)) → bytes ≡ made seed requests
    → RunAnswers (Finished ending) (io (Some bytes) left before after)
    → ((h : Header) (text : List ℕ) (trace : List TraceLine) → IsJobOf (Some bytes) h text trace None → IsUnrefused (Finished ending))
    → IsMadeEnd seed requests (flat_map spelled (end_lines ending))
is_made_end laws seed requests few bytes ending left before after same (h, text, trace, refused, job, within, served) complete =
    let own = subst (λ (b : List ℕ). IsJobOf (Some b) made_header opening (made_trace seed requests) None) (sym same) (made_is_job laws seed requests few) in
    let all : ending.refusal ≡ None = complete made_header opening (made_trace seed requests) own in
    let none : refused ≡ None = none_some refused (sym (ap is_some all) ∙ served.shown) in
    record {
      header = h;
      text = text;
      trace = trace;
      run = served.run;
      clock = ending.clock;
      job = subst (λ (b : List ℕ). IsJobOf (Some b) h text trace None) same (subst (λ (r : Option ℕ). IsJobOf (Some bytes) h text trace r) none job);
      is_run = served.is_run;
      promises = served.promises;
      lines = ap (flat_map spelled) (served.ends ∙ ap (λ (r : Option ℕ). stats h trace served.run ++ EndLine ending.clock ∷ refusal_lines (refusal_of trace r)) none);
    }

pub run_answers : (answer : Status) (seed requests : ℕ) (before after : Option (List ℕ)) (bytes : List ℕ) → IsMadeEnd seed requests bytes → Writes answer before after bytes → MadeAnswers answer seed requests before after
run_answers status.Ok seed requests before after bytes is writes = (bytes, is, writes)
run_answers status.WriteFault seed requests before after bytes is writes = (bytes, is, writes)
run_answers status.OutOfMemory seed requests before after bytes is writes = inr (bytes, is, writes)
run_answers status.Refused seed requests before after bytes is writes = absurd writes
run_answers status.Usage seed requests before after bytes is writes = absurd writes
run_answers status.ReadFault seed requests before after bytes is writes = absurd writes
run_answers status.Broken seed requests before after bytes is writes = absurd writes

-- only a write fault leaves another count of the sink
pub end_kept : (stop : Stop) (answer : Status) (before after : ℕ) → answer ≡ stop_status stop → WriteCause before after stop → (answer ≡ status.WriteFault → ⊥) → after ≡ before
end_kept stops.ReadFault answer before after e cause other = absurd cause
end_kept stops.WriteFault answer before after e cause other = absurd (other e)
end_kept stops.OutOfMemory answer before after e cause other = cause
