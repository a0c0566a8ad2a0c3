-- What a replay answers, by the bytes that its source had and has left, and those that its sink got.
use Rattle.std.specs.Prelude.{ℕ, ⊤, ◌≡◌, ◌⊎◌, true, false, List, ◌∷◌, ◌++◌, ◌+◌, length, Some, None, IsSome, is_some}
use Rattle.std.specs.List.{flat_map}
use Rattle.std.specs.declared.option.Option.{Option}
use Rattle.std.specs.Io.KnownBytes.{Appends, Keeps}
use Rattle.command_words.specs.Geometry.{Shape}
use Rattle.ddr_io.specs.Faults.{Rose}
use Rattle.ddr_io.specs.Sink.{AppendsPrefix}
use Rattle.ddr_io.specs.declared.status.Status.{Status}
use Rattle.ddr_io.specs.declared.status.Status.TheVariants as status
use Rattle.speed_bin.specs.Header.{shape_of}
use Rattle.ddr_text.specs.Io.{Io}
use Rattle.ddr_text.specs.Opening.{IsUnopened}
use Rattle.ddr_text.specs.Outcome.{RefusesLine}
use Rattle.ddr_text.specs.Spelling.{spelled}
use Rattle.ddr_text.specs.declared.lines.TraceLine.{TraceLine}
use Rattle.ddr_text.specs.declared.lines.ReportLine.TheVariants.{End as EndLine, Refused as RefusedLine}
use Rattle.reports.specs.Runs.{Run}
use Rattle.reports.specs.Report.{report}
use Rattle.reports.specs.Stats.{stats}
use Rattle.reports.specs.Sound.{IsRun}
use Rattle.reports.specs.Headline.{Headline}
use Rattle.ddr_text.specs.ReportParts.{Refusal, refusal_lines}
use Rattle.reports.specs.Whole.{whole, IsStartOf, IsUnfinishedOf}
use Rattle.speed_bin.specs.declared.header.Header.{Header}
use Rattle.trace_replay.specs.Ending.{end_lines}
use Rattle.trace_replay.specs.Job.{trace_of, IsJobOf, IsPartOf, IsUsedUp, IsNoJob, IsTrace}
use Rattle.trace_replay.specs.ReplayState.{IsStoppedByReadFault, IsBegun}
use Rattle.trace_replay.specs.Reading.{IsTakenBy}
use Rattle.ddr_text.specs.Stop.{status_of}
use Rattle.trace_replay.specs.declared.ending.Ending.{Ending}
use Rattle.trace_replay.specs.declared.replay_loop.Ended.{Ended}
use Rattle.trace_replay.specs.declared.replay_loop.Ended.TheVariants.{Finished, Stopped, Refused as RefusedOpening}
use Rattle.ddr_text.specs.declared.stop.Stop.{Stop}
use Rattle.ddr_text.specs.declared.stop.Stop.TheVariants.{ReadFault, WriteFault, OutOfMemory}

-- ---- What is written

-- the refusal of the line behind a trace
abbrev pub refusal_of : List TraceLine → Option ℕ → Option Refusal
refusal_of trace None = None
refusal_of trace (Some reason) = Some (record { line = length trace + 1; reason = reason })

-- the report of a finished run of the job was written, and what it promises
pub record Reports (h : Header) (text : List ℕ) (trace : List TraceLine) (refused : Option ℕ) (before after : Option (List ℕ)) : Type 0 where
  pub run : Run
  pub clock : ℕ
  pub is_run : IsRun h trace run clock
  pub promises : Headline h trace run clock
  pub wrote : Appends before after (text ++ flat_map spelled (whole h trace run clock (refusal_of trace refused)))

-- a started report was written
abbrev pub Starts : Header → List ℕ → List TraceLine → Option ℕ → Option (List ℕ) → Option (List ℕ) → Type 0
Starts h text trace refused before after = (bytes : List ℕ) × IsStartOf spelled h text trace (refusal_of trace refused) bytes × Appends before after bytes

-- whole lines of a started report were written, in which at most 64 requests of the trace are not served
abbrev pub StandsAfterReadFault : Header → List ℕ → List TraceLine → Option (List ℕ) → Option (List ℕ) → Type 0
StandsAfterReadFault h text trace before after = (bytes : List ℕ) × IsUnfinishedOf spelled h text trace 64 bytes × Appends before after bytes

-- ---- The answer

-- where the job is this one
abbrev pub JobAnswers : Status → Header → List ℕ → List TraceLine → Option ℕ → Option (List ℕ) → Option (List ℕ) → Option (List ℕ) → Option (List ℕ) → Type 0
JobAnswers status.Ok h text trace refused left left_after before after = (refused ≡ None) × IsUsedUp left left_after × Reports h text trace refused before after
JobAnswers status.Refused h text trace refused left left_after before after = IsSome refused × Reports h text trace refused before after
JobAnswers status.WriteFault h text trace refused left left_after before after = Starts h text trace refused before after
JobAnswers status.OutOfMemory h text trace refused left left_after before after = Starts h text trace refused before after
JobAnswers status.ReadFault h text trace refused left left_after before after = ⊥
JobAnswers status.Usage h text trace refused left left_after before after = ⊥
JobAnswers status.Broken h text trace refused left left_after before after = ⊥

-- where the trace is that of the bytes that were taken
abbrev pub PartAnswers : Status → Header → List ℕ → List TraceLine → Option (List ℕ) → Option (List ℕ) → Type 0
PartAnswers status.ReadFault h text trace before after = StandsAfterReadFault h text trace before after
PartAnswers status.Ok h text trace before after = ⊥
PartAnswers status.Refused h text trace before after = ⊥
PartAnswers status.WriteFault h text trace before after = ⊥
PartAnswers status.OutOfMemory h text trace before after = ⊥
PartAnswers status.Usage h text trace before after = ⊥
PartAnswers status.Broken h text trace before after = ⊥

-- where reading stopped before the trace: by a fault, where the bytes that were taken open no job
abbrev pub StopAnswers : Status → Option (List ℕ) → Option (List ℕ) → Option (List ℕ) → Option (List ℕ) → Type 0
StopAnswers status.ReadFault left left_after before after = IsUnopened left left_after × Keeps before after
StopAnswers status.OutOfMemory left left_after before after = Keeps before after
StopAnswers status.Ok left left_after before after = ⊥
StopAnswers status.Refused left left_after before after = ⊥
StopAnswers status.WriteFault left left_after before after = ⊥
StopAnswers status.Usage left left_after before after = ⊥
StopAnswers status.Broken left left_after before after = ⊥

-- ---- Behind the opening

-- this trace and this refusal stand in the known bytes behind the opening
abbrev pub IsTraced : Shape → Option (List ℕ) → List TraceLine → Option ℕ → Type 0
IsTraced g None trace refused = ⊤
IsTraced g (Some bytes) trace refused = trace_of g bytes ≡ record { lines = trace; refused = refused }

-- what is answered, by the bytes behind the opening: of the whole trace, or of the lines that were taken
abbrev pub TraceAnswers : Status → Header → List ℕ → Option (List ℕ) → Option (List ℕ) → Option (List ℕ) → Option (List ℕ) → Type 0
TraceAnswers answer h text start left before after =
    ((trace : List TraceLine) × (refused : Option ℕ)
    × IsTraced (shape_of h) start trace refused × IsTrace (shape_of h) trace × JobAnswers answer h text trace refused start left before after)
    ⊎ ((trace : List TraceLine) × IsTakenBy (shape_of h) trace start left × IsTrace (shape_of h) trace × PartAnswers answer h text trace before after)

-- what was written where serving stopped: by a read fault whole lines, and else lines that may be cut off
abbrev pub StopsServing : Stop → Header → Option (List ℕ) → Option (List ℕ) → Option (List ℕ) → Option (List ℕ) → Type 0
StopsServing ReadFault h start left before written = IsStoppedByReadFault h start left before written
StopsServing WriteFault h start left before written = IsBegun h start before written
StopsServing OutOfMemory h start left before written = IsBegun h start before written

-- the cause of a stop while reading and writing, by the counts of faults of the source and of the sink: a fault of the one
-- and none of the other, or want of memory and no fault
abbrev pub StopCause : ℕ → ℕ → ℕ → ℕ → Stop → Type 0
StopCause read read_after wrote wrote_after ReadFault = Rose read read_after × (wrote_after ≡ wrote)
StopCause read read_after wrote wrote_after WriteFault = Rose wrote wrote_after × (read_after ≡ read)
StopCause read read_after wrote wrote_after OutOfMemory = (read_after ≡ read) × (wrote_after ≡ wrote)

-- ---- The end

-- The trace was served to its last turn, and all lines of the report were written but those that end it.
pub record IsServed (h : Header) (text : List ℕ) (trace : List TraceLine) (refused : Option ℕ) (start left before written : Option (List ℕ)) (ending : Ending) : Type 0 where
  pub run : Run
  pub used_up : refused ≡ None → IsUsedUp start left
  pub is_run : IsRun h trace run ending.clock
  pub promises : Headline h trace run ending.clock
  pub wrote : Appends before written (text ++ flat_map spelled (report h trace run))
  pub ends : end_lines ending ≡ stats h trace run ++ EndLine ending.clock ∷ refusal_lines (refusal_of trace refused)
  pub shown : is_some ending.refusal ≡ is_some refused

-- the same, by the bytes behind the opening
abbrev pub TraceServed : Header → List ℕ → Option (List ℕ) → Option (List ℕ) → Option (List ℕ) → Option (List ℕ) → Ending → Type 0
TraceServed h text start left before written ending =
    (trace : List TraceLine) × (refused : Option ℕ)
    × IsTraced (shape_of h) start trace refused × IsTrace (shape_of h) trace × IsServed h text trace refused start left before written ending

-- how the replay of a job ended whose opening is accepted, by the bytes behind the opening
abbrev pub TraceEnds : Ended → Header → List ℕ → Option (List ℕ) → Option (List ℕ) → Option (List ℕ) → Option (List ℕ) → Type 0
TraceEnds (Finished ending) h text start left before written = TraceServed h text start left before written ending
TraceEnds (Stopped stop) h text start left before written = TraceAnswers (status_of stop) h text start left before written
TraceEnds RefusedOpening h text start left before written = ⊥

-- what was written of a job whose opening is refused
abbrev pub OpeningEnds : Ended → ℕ → Option (List ℕ) → Option (List ℕ) → Type 0
OpeningEnds (Finished ending) reason before written = ⊥
OpeningEnds (Stopped stop) reason before written = RefusesLine (status_of stop) 0 reason before written
OpeningEnds RefusedOpening reason before written = Appends before written (spelled (RefusedLine 0 reason))

-- the cause of a stop, if that is how it ended
abbrev pub EndCause : ℕ → ℕ → ℕ → ℕ → Ended → Type 0
EndCause read read_after wrote wrote_after (Finished ending) = ⊤
EndCause read read_after wrote wrote_after (Stopped stop) = StopCause read read_after wrote wrote_after stop
EndCause read read_after wrote wrote_after RefusedOpening = ⊤

-- no fault was counted, unless something stopped
abbrev pub EndKept : ℕ → ℕ → ℕ → ℕ → Ended → Type 0
EndKept read read_after wrote wrote_after (Finished ending) = (read_after ≡ read) × (wrote_after ≡ wrote)
EndKept read read_after wrote wrote_after (Stopped stop) = ⊤
EndKept read read_after wrote wrote_after RefusedOpening = (read_after ≡ read) × (wrote_after ≡ wrote)

-- nothing of the job was refused
abbrev pub IsUnrefused : Ended → Type 0
IsUnrefused (Finished ending) = ending.refusal ≡ None
IsUnrefused (Stopped stop) = ⊤
IsUnrefused RefusedOpening = ⊥

-- the answer once the end of a report was written, as far as it was
abbrev pub EndAnswers : Status → Ending → Option (List ℕ) → Option (List ℕ) → Type 0
EndAnswers status.Ok ending before after = (is_some ending.refusal ≡ false) × Appends before after (flat_map spelled (end_lines ending))
EndAnswers status.Refused ending before after = (is_some ending.refusal ≡ true) × Appends before after (flat_map spelled (end_lines ending))
EndAnswers status.WriteFault ending before after = AppendsPrefix before after (flat_map spelled (end_lines ending))
EndAnswers status.OutOfMemory ending before after = AppendsPrefix before after (flat_map spelled (end_lines ending))
EndAnswers status.ReadFault ending before after = ⊥
EndAnswers status.Usage ending before after = ⊥
EndAnswers status.Broken ending before after = ⊥

-- ---- The answer to a job

-- The bytes that the source had are a job, which was answered so; or a read fault came in its trace; or its opening is
-- refused; or reading stopped before the trace, and nothing was written: by a fault only where the bytes that were taken
-- open no job.
abbrev pub Answers : Status → Io → Type 0
Answers answer io =
    ((h : Header) × (text : List ℕ) × (trace : List TraceLine) × (refused : Option ℕ)
    × IsJobOf io.had h text trace refused × IsTrace (shape_of h) trace × JobAnswers answer h text trace refused io.had io.left io.written_before io.written_after)
    ⊎ (((h : Header) × (text : List ℕ) × (trace : List TraceLine)
    × IsPartOf io.had io.left h text trace × IsTrace (shape_of h) trace × PartAnswers answer h text trace io.written_before io.written_after)
    ⊎ (((reason : ℕ) × IsNoJob io.had reason × RefusesLine answer 0 reason io.written_before io.written_after)
    ⊎ StopAnswers answer io.had io.left io.written_before io.written_after))

-- ---- How a replay ended

-- The bytes that the source had are a job, whose run is finished, and whose report was written but for the lines that end it;
-- or its opening is refused, and the X line was written; or it stopped.
abbrev pub RunAnswers : Ended → Io → Type 0
RunAnswers (Finished ending) io =
    (h : Header) × (text : List ℕ) × (trace : List TraceLine) × (refused : Option ℕ)
    × IsJobOf io.had h text trace refused × IsTrace (shape_of h) trace × IsServed h text trace refused io.had io.left io.written_before io.written_after ending
RunAnswers RefusedOpening io = (reason : ℕ) × IsNoJob io.had reason × Appends io.written_before io.written_after (spelled (RefusedLine 0 reason))
RunAnswers (Stopped stop) io = Answers (status_of stop) io
