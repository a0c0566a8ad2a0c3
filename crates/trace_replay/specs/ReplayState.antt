-- How far a replay is: what it holds of the trace so far and its run, and what was read and written then.
use Rattle.std.specs.Prelude.{ℕ, ⊤, ◌≡◌, ◌≢◌, ◌+◌, ◌-◌, ◌*◌, ◌<◌, ◌≤◌, Bool, true, false, Option, Some, None, List, [], ◌∷◌, map, length}
use Rattle.std.specs.List.{flat_map}
use Rattle.std.specs.Io.KnownBytes.{Appends}
use Rattle.command_words.specs.declared.command.Command.{Command}
use Rattle.speed_bin.specs.Header.{IsAccepted, shape_of}
use Rattle.speed_bin.specs.declared.header.Header.{Header}
use Rattle.error_scrub.specs.declared.cells.LineRead.{LineRead}
use Rattle.requests.specs.Queue.{waiting}
use Rattle.requests.specs.declared.request.Kind.{Kind}
use Rattle.requests.specs.declared.request.Kind.TheVariants.{Read as Reads, Write as Writes}
use Rattle.requests.specs.declared.request.RequestId.{RequestId}
use Rattle.scheduler.specs.Controller.{number_of}
use Rattle.ddr_io.specs.Sink.{AppendsPrefix}
use Rattle.ddr_io.specs.declared.line_reader.Line.{Line}
use Rattle.ddr_io.specs.declared.line_reader.Line.TheVariants.{Text}
use Rattle.ddr_text.specs.Spelling.{spelled}
use Rattle.ddr_text.specs.declared.lines.ReportLine.{ReportLine}
use Rattle.ddr_text.specs.declared.lines.ReportLine.TheVariants.{Value as ValueLine}
use Rattle.ddr_text.specs.declared.lines.TraceLine.{TraceLine}
use Rattle.ddr_text.specs.declared.lines.TraceLine.TheVariants.{Read, Write, Flip, Idle}
use Rattle.reports.specs.Requests.{Request, requests}
use Rattle.reports.specs.Runs.{Run, Step as RunStep, log_of, is_served, unserved, ready, held}
use Rattle.reports.specs.Delivered.{bytes_for, device_steps}
use Rattle.reports.specs.Offered.{asked, offered, controller_steps}
use Rattle.reports.specs.Readings.{reading_of}
use Rattle.reports.specs.Report.{report}
use Rattle.speed_bin.specs.Log.{last_clock}
use Rattle.reports.specs.Sound.{Sound, IsRun}
use Rattle.reports.specs.Underway.{Ahead as Following, Unknown as UnknownLine, Next, Ended, IsUnderway, IsOffered, IsIssued}
use Rattle.trace_replay.specs.Coupled.{Step, StandsFor, pending_of, from_of, until_of, finished_of, issued_as, controller_steps as numbered_steps, device_steps as stored_steps}
use Rattle.trace_replay.specs.Counts.{counts_of}
use Rattle.trace_replay.specs.RequestBuffer.{Kept, request_at, replaced, with_outcome}
use Rattle.trace_replay.specs.Job.{MOST, IsTrace}
use Rattle.trace_replay.specs.Reading.{IsTally, IsMore, IsRead, IsTakenBy, IsFront}
use Rattle.trace_replay.specs.declared.request_buffer.HeldRequest.{HeldRequest}
use Rattle.trace_replay.specs.declared.request_buffer.Outcome.{Outcome}
use Rattle.trace_replay.specs.declared.request_buffer.Outcome.TheVariants.{Unserved, Wrote, Found}
use Rattle.trace_replay.specs.declared.replay_state.Ahead.{Ahead}
use Rattle.trace_replay.specs.declared.replay_state.Ahead.TheVariants.{Unknown, NextLine, Passes, End, Refused}
use Rattle.trace_replay.specs.declared.replay_state.ReplayState.{ReplayState}
use Rattle.requests.specs.declared.request.Request.{Request as Asked}
use Rattle.trace_replay.specs.declared.trace_lines.Tally.{Tally}
use Rattle.trace_replay.specs.declared.trace_lines.Next.{Next as FoundNext}
use Rattle.trace_replay.specs.declared.trace_lines.Next.TheVariants.{Found as FoundLine, End as NoLine, Refused as RefusedLine}

-- ---- The line ahead

-- what is known of the lines behind
abbrev pub following : Ahead → Following
following Unknown = UnknownLine
following (NextLine line) = Next line
following (Passes clocks) = Next (Idle clocks)
following End = Ended
following (Refused reason) = Ended

-- the clocks that pass for the line ahead
abbrev pub passing : Ahead → ℕ
passing Unknown = 0
passing (NextLine line) = 0
passing (Passes clocks) = clocks
passing End = 0
passing (Refused reason) = 0

-- what was found is the line ahead
abbrev pub found_as : FoundNext → Ahead
found_as (FoundLine line) = NextLine line
found_as NoLine = End
found_as (RefusedLine reason) = Refused reason

-- the line ahead is known
abbrev pub IsKnown : Ahead → Type 0
IsKnown ahead = ahead ≢ Unknown

-- the reader goes on, while more lines may come
abbrev pub MayGoOn : Ahead → Line → Type 0
MayGoOn Unknown last = last ≡ Text
MayGoOn (NextLine line) last = last ≡ Text
MayGoOn (Passes clocks) last = last ≡ Text
MayGoOn End last = ⊤
MayGoOn (Refused reason) last = ⊤

-- ---- A request

-- the line asks for this request, and brings these bytes
abbrev pub Asks : TraceLine → Asked → Option (List ℕ) → Type 0
Asks (Read line) request bytes = (request.line ≡ line) × (request.kind ≡ Reads) × (bytes ≡ None)
Asks (Write line brought) request bytes = (request.line ≡ line) × (request.kind ≡ Writes) × (bytes ≡ Some brought)
Asks (Flip line device bit) request bytes = ⊥
Asks (Idle clocks) request bytes = ⊥

-- the line ahead asks for it
pub record IsAsked (ahead : Ahead) (request : Asked) (bytes : Option (List ℕ)) : Type 0 where
  pub line : TraceLine
  pub waits : ahead ≡ NextLine line
  pub asks : Asks line request bytes

-- the line ahead was taken
abbrev pub tally_with : Tally → ℕ → Tally
tally_with tally clocks = record { lines = tally.lines + 1; clocks = tally.clocks + clocks }

abbrev pub taken : ReplayState → ℕ → ReplayState
taken p clocks = record p { tally = tally_with p.tally clocks; ahead = Unknown }

-- ---- What it holds

-- what came of a request
abbrev pub outcome_of : Kind → Bool → LineRead → Outcome
outcome_of kind false read = Unserved
outcome_of Reads true read = Found read
outcome_of Writes true read = Wrote

-- what is kept of a request
abbrev pub kept_as : Header → List TraceLine → Run → Request → HeldRequest
kept_as h trace run r = record {
  number = r.number;
  request = asked r;
  bytes = bytes_for trace (Some r);
  outcome = outcome_of r.kind (is_served r.number run) (reading_of h trace run r);
}

-- these requests are kept, and so many stand before them
abbrev pub kept_of : Header → List TraceLine → Run → ℕ → List Request → Kept
kept_of h trace run before rs = record { first = before + 1; items = map (kept_as h trace run) rs }

-- the requests from the oldest unserved one on are kept
abbrev pub IsKept : Kept → Header → List TraceLine → Run → Type 0
IsKept kept h trace run = kept ≡ kept_of h trace run (length (ready (requests trace) run)) (held (requests trace) run)

-- what is known of the end and of the line ahead
abbrev pub IsAhead : ReplayState → List TraceLine → Run → Header → ℕ → Ahead → Type 0
IsAhead p trace run h now Unknown = finished_of p.coupled ≡ false
IsAhead p trace run h now (NextLine line) = (finished_of p.coupled ≡ false) × IsMore p.g p.tally line
IsAhead p trace run h now (Passes clocks) =
    (finished_of p.coupled ≡ false) × IsMore p.g p.tally (Idle clocks) × (waiting h (offered trace) (controller_steps trace run) ≡ [])
    × (until_of p.coupled ≡ now + clocks)
IsAhead p trace run h now End = ⊤
IsAhead p trace run h now (Refused reason) = ⊤

-- the trace so far and its run: all but the controller and the device
pub record Follows (h : Header) (p : ReplayState) (trace : List TraceLine) (run : Run) : Type 0 where
  pub accepted : IsAccepted h
  pub geometry : p.g ≡ shape_of h
  pub traced : IsTrace (shape_of h) trace
  pub tally : IsTally p.tally trace
  pub kept : IsKept p.held h trace run
  pub done : ℕ
  pub now : ℕ
  pub underway : IsUnderway h trace done now run (following p.ahead)
  pub past : now ≤ from_of p.coupled
  pub ahead : IsAhead p trace run h now p.ahead

-- the steps of both ends are those of the run
pub record AreOf (h : Header) (trace : List TraceLine) (run : Run) (steps : List Step) : Type 0 where
  pub controller : numbered_steps steps ≡ controller_steps trace run
  pub device : stored_steps steps ≡ device_steps h trace run

-- both ends of the bus stand for the run
pub record BothStand (h : Header) (p : ReplayState) (trace : List TraceLine) (run : Run) : Type 0 where
  pub steps : List Step
  pub are_of : AreOf h trace run steps
  pub stands : StandsFor p.coupled h (offered trace) (p.tally.clocks + passing p.ahead) steps

-- between two turns
pub record LoopInvariant (h : Header) (p : ReplayState) (trace : List TraceLine) (run : Run) : Type 0 where
  pub follows : Follows h p trace run
  pub both : BothStand h p trace run
  pub none_pending : pending_of p.coupled ≡ None
  pub last : p.last ≡ last_clock (log_of run)
  pub commands : p.commands ≡ length (log_of run)
  pub counts : p.counts ≡ counts_of h (log_of run)

-- a command was issued, and is pending
pub record IsIssuing (h : Header) (p : ReplayState) (trace : List TraceLine) (run : Run) (clock : ℕ) (command : Command) (id : Option RequestId) : Type 0 where
  pub follows : Follows h p trace run
  pub both : BothStand h p trace run
  pub is_pending : pending_of p.coupled ≡ Some (issued_as clock command id)
  pub issued : IsIssued h trace run (following p.ahead) follows.now clock command (number_of id)
  pub passed : clock < from_of p.coupled
  pub commands : p.commands ≡ length (log_of run)
  pub counts : p.counts ≡ counts_of h (log_of run)

-- the command was delivered, and the answers that are due are not written yet
pub record IsDelivered (h : Header) (p : ReplayState) (trace : List TraceLine) (run : Run) (step : RunStep) : Type 0 where
  pub accepted : IsAccepted h
  pub geometry : p.g ≡ shape_of h
  pub traced : IsTrace (shape_of h) trace
  pub tally : IsTally p.tally trace
  pub kept : p.held ≡ kept_of h trace (step ∷ run) (length (ready (requests trace) run)) (held (requests trace) run)
  pub done : ℕ
  pub now : ℕ
  pub underway : IsUnderway h trace done now (step ∷ run) (following p.ahead)
  pub past : now ≤ from_of p.coupled
  pub ahead : IsAhead p trace (step ∷ run) h now p.ahead
  pub both : BothStand h p trace (step ∷ run)
  pub none_pending : pending_of p.coupled ≡ None
  pub commands : p.commands ≡ length (log_of run)
  pub counts : p.counts ≡ counts_of h (log_of (step ∷ run))

-- after an idle turn: no request waits, the idle target is reached, and the end is not announced
pub record IsResting (h : Header) (p : ReplayState) (trace : List TraceLine) (run : Run) : Type 0 where
  pub holds : LoopInvariant h p trace run
  pub none_waits : waiting h (offered trace) (controller_steps trace run) ≡ []
  pub filled : IsOffered h trace run (following p.ahead)
  pub unfinished : finished_of p.coupled ≡ false
  pub reached : until_of p.coupled ≤ from_of p.coupled

-- the number and the reason of the line that was refused, where one was
abbrev pub Refuses : Ahead → ℕ → Option (ℕ × ℕ) → Type 0
Refuses Unknown lines refusal = refusal ≡ None
Refuses (NextLine line) lines refusal = refusal ≡ None
Refuses (Passes clocks) lines refusal = refusal ≡ None
Refuses End lines refusal = refusal ≡ None
Refuses (Refused reason) lines refusal = refusal ≡ Some (lines + 1, reason)

-- ---- What is kept

-- the bytes that the request with this number brings
abbrev pub bytes_in : Option HeldRequest → Option (List ℕ)
bytes_in None = None
bytes_in (Some it) = it.bytes

abbrev pub bytes_at : Kept → Option ℕ → Option (List ℕ)
bytes_at kept None = None
bytes_at kept (Some id) = bytes_in (request_at kept id)

-- what came of a request, by what its command found
abbrev pub outcome_with : Option LineRead → Outcome
outcome_with None = Wrote
outcome_with (Some read) = Found read

-- what is kept, once this came of the request with this number
abbrev pub noted_in : Kept → ℕ → Outcome → Option HeldRequest → Kept
noted_in kept id outcome None = kept
noted_in kept id outcome (Some it) = replaced kept id (with_outcome it outcome)

abbrev pub noted : Kept → Option ℕ → Outcome → Kept
noted kept None outcome = kept
noted kept (Some id) outcome = noted_in kept id outcome (request_at kept id)

-- the D line of a request that was served
abbrev pub lines_for : ℕ → ℕ → Outcome → List ReportLine
lines_for number line Unserved = []
lines_for number line Wrote = []
lines_for number line (Found read) = ValueLine number line read.bytes read.state ∷ []

abbrev pub answer_lines : HeldRequest → List ReportLine
answer_lines it = lines_for it.number it.request.line it.outcome

-- ---- What was read and written

-- The replay is under way: the lines of the trace so far were read, and the report lines of its run were written.
pub record IsUnder (h : Header) (p : ReplayState) (start left before written : Option (List ℕ)) : Type 0 where
  pub trace : List TraceLine
  pub run : Run
  pub holds : LoopInvariant h p trace run
  pub read : IsRead (shape_of h) trace p.ahead start left
  pub wrote : Appends before written (flat_map spelled (report h trace run))

-- and the controller was offered what it may be before the next barrier
pub record IsReady (h : Header) (p : ReplayState) (start left before written : Option (List ℕ)) : Type 0 where
  pub under : IsUnder h p start left before written
  pub filled : IsOffered h under.trace under.run (following p.ahead)

-- and no request waits
pub record IsAtRest (h : Header) (p : ReplayState) (start left before written : Option (List ℕ)) : Type 0 where
  pub under : IsUnder h p start left before written
  pub rests : IsResting h p under.trace under.run

-- the run is finished
pub record IsOver (h : Header) (p : ReplayState) (start left before written : Option (List ℕ)) : Type 0 where
  pub under : IsUnder h p start left before written
  pub finished : IsRun h under.trace under.run (from_of p.coupled)
  pub last : following p.ahead ≡ Ended

-- the lines of a run of the first lines of the trace were written, perhaps cut off
pub record IsBegun (h : Header) (start before written : Option (List ℕ)) : Type 0 where
  pub trace : List TraceLine
  pub run : Run
  pub traced : IsTrace (shape_of h) trace
  pub sound : Sound h trace run
  pub read : IsFront (shape_of h) trace start
  pub wrote : AppendsPrefix before written (flat_map spelled (report h trace run))

-- a read fault: whole lines were written, and of the requests of the bytes that were taken at most 64 are not served
pub record IsStoppedByReadFault (h : Header) (start left before written : Option (List ℕ)) : Type 0 where
  pub trace : List TraceLine
  pub run : Run
  pub traced : IsTrace (shape_of h) trace
  pub sound : Sound h trace run
  pub read : IsTakenBy (shape_of h) trace start left
  pub few : length (unserved (requests trace) run) ≤ 64
  pub wrote : Appends before written (flat_map spelled (report h trace run))

-- what a turn leaves: it goes on, or the run is finished
abbrev pub TurnAfter : Bool → Header → ReplayState → Option (List ℕ) → Option (List ℕ) → Option (List ℕ) → Option (List ℕ) → Type 0
TurnAfter true h p start left before written = IsUnder h p start left before written
TurnAfter false h p start left before written = IsOver h p start left before written

-- ---- How much is left

-- steps of the barrier ahead
abbrev pub rest_of : Bool → Ahead → ℕ
rest_of true ahead = 0
rest_of false Unknown = 2
rest_of false (NextLine line) = 2
rest_of false (Passes clocks) = 1
rest_of false End = 2
rest_of false (Refused reason) = 2

-- a bound on the turns to come
unfoldable pub left_of : ReplayState → ℕ
left_of p = (2200000000 - p.commands) + 3 * (MOST - p.tally.lines) + rest_of (finished_of p.coupled) p.ahead
