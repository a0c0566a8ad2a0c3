-- Why serving stopped, and what was written then.
use Rattle.std.proofs.Common.{◌≡◌, ◌∙◌, ℕ, refl, sym, Option, None, List, Bool, true, false, subst}
use Rattle.std.specs.List.{flat_map}
use Rattle.speed_bin.specs.declared.header.Header.{Header}
use Rattle.ddr_text.specs.Spelling.{spelled}
use Rattle.speed_bin.specs.Header.{shape_of}
use Rattle.reports.specs.Report.{report}
use Rattle.ddr_text.specs.declared.lines.TraceLine.{TraceLine}
use Rattle.reports.specs.Runs.{Run}
use Rattle.trace_replay.proofs.Under.{under-none}
use Rattle.trace_replay.specs.ReplayState.{LoopInvariant, IsUnder, IsOver, IsStoppedByReadFault, IsBegun, TurnAfter}
use Rattle.ddr_io.specs.Faults.{Rose}
use Rattle.ddr_io.specs.declared.status.Status.{Status}
use Rattle.ddr_io.specs.declared.status.Status.TheVariants as status
use Rattle.trace_replay.specs.Replay.{StopsServing, StopCause}
use Rattle.ddr_text.specs.Stop.{ReadCause, WriteCause, status_of}
use Rattle.trace_replay.specs.declared.replay_state.ReplayState.{ReplayState}
use Rattle.ddr_text.specs.declared.stop.Stop.{Stop}
use Rattle.ddr_text.specs.declared.stop.Stop.TheVariants.{ReadFault, WriteFault, OutOfMemory}
use Rattle.ddr_text.proofs.Prefixes.{prefix-whole}
use Rattle.trace_replay.proofs.LoopTrace.{front-taken}

left-begun : (h : Header) (start left before written : Option (List ℕ)) → IsStoppedByReadFault h start left before written → IsBegun h start before written
left-begun h start left before written k = record {
  trace = k.trace;
  run = k.run;
  traced = k.traced;
  sound = k.sound;
  read = front-taken (shape_of h) k.trace start left k.read;
  wrote = prefix-whole before written (flat_map spelled (report h k.trace k.run)) k.wrote;
}

pub stops-reading : (stop : Stop) (h : Header) (a b : ℕ) (start left before written : Option (List ℕ)) → ReadCause a b stop → IsStoppedByReadFault h start left before written → StopsServing stop h start left before written
stops-reading ReadFault h a b start left before written cause k = k
stops-reading WriteFault h a b start left before written cause k = absurd cause
stops-reading OutOfMemory h a b start left before written cause k = left-begun h start left before written k

pub stops-writing : (stop : Stop) (h : Header) (a b : ℕ) (start left before written : Option (List ℕ)) → WriteCause a b stop → IsBegun h start before written → StopsServing stop h start left before written
stops-writing ReadFault h a b start left before written cause k = absurd cause
stops-writing WriteFault h a b start left before written cause k = k
stops-writing OutOfMemory h a b start left before written cause k = k

-- a replay that holds, of bytes that are not known
pub under-any : (h : Header) (p : ReplayState) (trace : List TraceLine) (run : Run) (left written : Option (List ℕ)) → LoopInvariant h p trace run → IsUnder h p None left None written
under-any h p trace run left written k =
    let u = under-none h p trace run left k in
    record { trace = u.trace; run = u.run; holds = u.holds; read = u.read; wrote = tt }

pub turned-over : (b : Bool) (h : Header) (p : ReplayState) (start left before written : Option (List ℕ)) → b ≡ false → TurnAfter b h p start left before written → IsOver h p start left before written
turned-over b h p start left before written e k = subst (λ c. TurnAfter c h p start left before written) e k

pub turned-under : (b : Bool) (h : Header) (p : ReplayState) (start left before written : Option (List ℕ)) → b ≡ true → TurnAfter b h p start left before written → IsUnder h p start left before written
turned-under b h p start left before written e k = subst (λ c. TurnAfter c h p start left before written) e k

-- ---- Causes

-- the cause of a stop while reading, where no fault was counted before and none of the sink
pub read-cause : (stop : Stop) (before read read_after wrote wrote_after : ℕ) → read ≡ before → wrote_after ≡ wrote → ReadCause read read_after stop → StopCause before read_after wrote wrote_after stop
read-cause ReadFault before read read_after wrote wrote_after same kept cause = (subst (λ n. Rose n read_after) same cause, kept)
read-cause WriteFault before read read_after wrote wrote_after same kept cause = absurd cause
read-cause OutOfMemory before read read_after wrote wrote_after same kept cause = (cause ∙ same, kept)

-- the cause of a stop while writing, where no fault was counted before and none of the source
pub write-cause : (stop : Stop) (before wrote wrote_after read read_after : ℕ) → wrote ≡ before → read_after ≡ read → WriteCause wrote wrote_after stop → StopCause read read_after before wrote_after stop
write-cause ReadFault before wrote wrote_after read read_after same kept cause = absurd cause
write-cause WriteFault before wrote wrote_after read read_after same kept cause = (subst (λ n. Rose n wrote_after) same cause, kept)
write-cause OutOfMemory before wrote wrote_after read read_after same kept cause = (kept, cause ∙ same)

pub cause-at-once : (stop : Stop) (read wrote : ℕ) → stop ≡ OutOfMemory → StopCause read read wrote wrote stop
cause-at-once stop read wrote is = subst (λ (s : Stop). StopCause read read wrote wrote s) (sym is) (refl, refl)

-- only a read fault leaves another count of the source
pub stop-reads-kept : (stop : Stop) (answer : Status) (read read_after wrote wrote_after : ℕ) → answer ≡ status_of stop → StopCause read read_after wrote wrote_after stop → (answer ≡ status.ReadFault → ⊥) → read_after ≡ read
stop-reads-kept ReadFault answer read read_after wrote wrote_after e cause other = absurd (other e)
stop-reads-kept WriteFault answer read read_after wrote wrote_after e cause other = cause.1
stop-reads-kept OutOfMemory answer read read_after wrote wrote_after e cause other = cause.0

-- only a write fault leaves another count of the sink
pub stop-writes-kept : (stop : Stop) (answer : Status) (read read_after wrote wrote_after : ℕ) → answer ≡ status_of stop → StopCause read read_after wrote wrote_after stop → (answer ≡ status.WriteFault → ⊥) → wrote_after ≡ wrote
stop-writes-kept ReadFault answer read read_after wrote wrote_after e cause other = cause.1
stop-writes-kept WriteFault answer read read_after wrote wrote_after e cause other = absurd (other e)
stop-writes-kept OutOfMemory answer read read_after wrote wrote_after e cause other = cause.1

pub end-writes-kept : (stop : Stop) (answer : Status) (before after : ℕ) → answer ≡ status_of stop → WriteCause before after stop → (answer ≡ status.WriteFault → ⊥) → after ≡ before
end-writes-kept ReadFault answer before after e cause other = absurd cause
end-writes-kept WriteFault answer before after e cause other = absurd (other e)
end-writes-kept OutOfMemory answer before after e cause other = cause
