-- A run by the policy, step by step: how many lines of the trace were taken, what the controller keeps, and the run so far
-- settle what comes next.
use Rattle.std.specs.Prelude.{ℕ, zero, suc, ◌≡◌, ◌⊎◌, ⊤, Bool, true, false, Option, Some, None, List, [], ◌∷◌, length, slice_get, take}
use Rattle.command_words.specs.declared.command.Command.{Command}
use Rattle.speed_bin.specs.declared.header.Header.{Header}
use Rattle.requests.specs.Queue.{waiting, IsFull}
use Rattle.requests.specs.declared.request.RequestId.{RequestId}
use Rattle.requests.specs.declared.waiting.Waiting.{Waiting}
use Rattle.scheduler.specs.Controller.{number_of}
use Rattle.scheduler.specs.Policy.{Hidden, IsTurn, at_first, idled, ended}
use Rattle.scheduler.specs.declared.turn.Turn.{Turn}
use Rattle.scheduler.specs.declared.turn.Turn.TheVariants.{Issue, Idle as IdleTurn, Done}
use Rattle.ddr_text.specs.declared.lines.TraceLine.{TraceLine}
use Rattle.ddr_text.specs.declared.lines.TraceLine.TheVariants.{Flip, Idle}
use Rattle.reports.specs.Requests.{request_of}
use Rattle.reports.specs.Runs.{Run, Flips, log_of}
use Rattle.reports.specs.Offered.{offered, controller_steps}
use Rattle.reports.specs.Underway.{issue}

-- ---- How far a run is

-- the controller is offered requests, and turns; or its last turn was Idle
pub data Phase : Type 0 where
  Offering : Phase
  Resting : Phase

pub record Progress : Type 0 where
  -- so many lines of the trace were taken
  pub taken : ℕ
  -- the clocks of the I line behind them pass
  pub passes : Bool
  pub phase : Phase
  -- what the controller keeps between turns
  pub hidden : Hidden
  pub run : Run

abbrev pub at_start : Progress
at_start = record { taken = 0; passes = false; phase = Offering; hidden = at_first; run = [] }

-- the lines that were taken
abbrev pub lines_of : List TraceLine → Progress → List TraceLine
lines_of trace p = take p.taken trace

-- the requests that wait
abbrev pub waits_in : Header → List TraceLine → Progress → List Waiting
waits_in h trace p = waiting h (offered (lines_of trace p)) (controller_steps (lines_of trace p) p.run)

-- no more can be offered
abbrev pub IsFilled : Header → List TraceLine → Progress → Type 0
IsFilled h trace p = IsFull (length (offered (lines_of trace p))) (waits_in h trace p)

-- the line is no request, or there is none
abbrev pub IsBarrier : Option TraceLine → Type 0
IsBarrier None = ⊤
IsBarrier (Some line) = request_of 0 line ≡ []

-- the controller was offered what it may be before the next F or I line, and turns
abbrev pub MayTurn : Header → List TraceLine → Progress → Type 0
MayTurn h trace p = (p.phase ≡ Offering) × (IsFilled h trace p ⊎ IsBarrier (slice_get trace p.taken))

-- the turn is the one that the policy asks for
abbrev pub Turns : Header → List TraceLine → Progress → Turn → Hidden → Type 0
Turns h trace p turn next = IsTurn h p.hidden (waits_in h trace p) (log_of p.run) turn next

-- ---- What comes next

pub data Goes (h : Header) (trace : List TraceLine) (before after : Progress) : Type 0 where
  -- the next line is a request that may be offered: it is taken
  Offers : (line : TraceLine) → before.phase ≡ Offering → slice_get trace before.taken ≡ Some line → (request_of 0 line ≡ [] → ⊥) → (IsFilled h trace before → ⊥)
      → after ≡ record before { taken = suc before.taken } → Goes h trace before after
  -- a turn issues a command
  IssuesOne : (clock : ℕ) (command : Command) (id : Option RequestId) (next : Hidden) → MayTurn h trace before → Turns h trace before (Issue clock command id) next
      → after ≡ record before { hidden = next; run = issue (lines_of trace before) clock command (number_of id) ∷ before.run } → Goes h trace before after
  -- a turn is Idle
  Rests : (next : Hidden) → MayTurn h trace before → Turns h trace before IdleTurn next → after ≡ record before { phase = Resting; hidden = next } → Goes h trace before after
  -- and then the F line behind those that were taken is carried out
  TurnsBit : (line device bit : ℕ) → before.phase ≡ Resting → slice_get trace before.taken ≡ Some (Flip line device bit)
      → after ≡ record before { taken = suc before.taken; phase = Offering; run = Flips (suc before.taken) ∷ before.run } → Goes h trace before after
  -- or the clocks of the I line begin to pass
  BeginsIdle : (clocks : ℕ) → before.phase ≡ Resting → before.passes ≡ false → slice_get trace before.taken ≡ Some (Idle clocks)
      → after ≡ record before { passes = true; phase = Offering; hidden = idled before.hidden clocks } → Goes h trace before after
  -- or they have passed
  EndsIdle : (clocks : ℕ) → before.phase ≡ Resting → before.passes ≡ true → slice_get trace before.taken ≡ Some (Idle clocks)
      → after ≡ record before { taken = suc before.taken; passes = false; phase = Offering } → Goes h trace before after
  -- or no line is left, and the end is announced
  EndsTrace : before.phase ≡ Resting → slice_get trace before.taken ≡ None → after ≡ record before { phase = Offering; hidden = ended before.hidden } → Goes h trace before after

-- what so many steps from the start leave
abbrev pub Reaches : ℕ → Header → List TraceLine → Progress → Type 0
Reaches zero h trace p = p ≡ at_start
Reaches (suc steps) h trace p = (before : Progress) × (Reaches steps h trace before) × Goes h trace before p

-- ---- Runs

-- the run is what the policy asks for so far
pub record IsByPolicy (h : Header) (trace : List TraceLine) (run : Run) : Type 0 where
  pub steps : ℕ
  pub progress : Progress
  pub reached : Reaches steps h trace progress
  pub is_run : progress.run ≡ run

-- and it is over: the next turn is Done, at this clock
pub record EndsByPolicy (h : Header) (trace : List TraceLine) (run : Run) (clock : ℕ) : Type 0 where
  pub so_far : IsByPolicy h trace run
  pub may_turn : MayTurn h trace so_far.progress
  pub next : Hidden
  pub is_done : Turns h trace so_far.progress Done next
  pub at_clock : next.from ≡ clock
