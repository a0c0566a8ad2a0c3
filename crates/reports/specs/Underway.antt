-- A run that is under way, while its trace is read line by line: what it keeps from turn to turn.
use Rattle.std.specs.Prelude.{ℕ, ◌≡◌, ◌≤◌, ◌⊎◌, nat_lt, Bool, true, IsTrue, IfSome, ⊤, Option, None, List, [], ◌∷◌, ◌++◌, length, reverse, sum, take, drop}
use Rattle.std.specs.List.{list_all}
use Rattle.command_words.specs.declared.command.Command.{Command}
use Rattle.speed_bin.specs.Page.{keeps_page}
use Rattle.speed_bin.specs.Rules.{broken_at_end}
use Rattle.speed_bin.specs.declared.header.Header.{Header}
use Rattle.device_core.specs.Legal.{IsLegal}
use Rattle.requests.specs.Choice.{IsChosen}
use Rattle.requests.specs.Order.{IsServing}
use Rattle.requests.specs.Queue.{waiting, span, AreKnown, IsFull}
use Rattle.ddr_text.specs.declared.lines.TraceLine.{TraceLine}
use Rattle.reports.specs.Requests.{request_of, requests, flips}
use Rattle.reports.specs.Runs.{Step, Issues, Run, log_of, flipped, held}
use Rattle.reports.specs.Barriers.{Serving, servings, idle_clocks, is_past, AreApart}
use Rattle.reports.specs.Offered.{offered, ranked, controller_steps}
use Rattle.reports.specs.Sound.{Sound, IsShort}
use Rattle.reports.specs.Window.{AreRequests, KeepsWindow}

-- What is known of the lines behind those that were taken: nothing, the next line, or that there are none.
pub data Ahead : Type 0 where
  Unknown : Ahead
  Next : TraceLine → Ahead
  Ended : Ahead

-- lines that may stand there
abbrev pub MayFollow : Ahead → List TraceLine → Type 0
MayFollow Unknown more = ⊤
MayFollow (Next line) [] = ⊥
MayFollow (Next line) (first ∷ more) = first ≡ line
MayFollow Ended [] = ⊤
MayFollow Ended (first ∷ more) = ⊥

-- no further request may be offered now: the next line is an F or I line, or there is none
abbrev pub IsStopped : Ahead → Type 0
IsStopped Unknown = ⊥
IsStopped (Next line) = request_of 0 line ≡ []
IsStopped Ended = ⊤

-- since a request was served, the clocks of the I lines among the first n lines have passed
abbrev pub is_waited : List TraceLine → ℕ → ℕ → Serving → Bool
is_waited trace n now serving = is_past (idle_clocks (drop serving.number (take n trace))) serving.clock now

-- The first n lines of the trace are done: all their requests are served, their F lines carried out, and the clocks of
-- their I lines have passed. The lines behind them are requests, of which some may be served.
pub record IsUnderway (h : Header) (trace : List TraceLine) (n now : ℕ) (run : Run) (ahead : Ahead) : Type 0 where
  pub sound : Sound h trace run
  pub within : n ≤ length trace
  pub block : AreRequests (drop n trace)
  pub done : held (requests (take n trace)) run ≡ []
  pub flips : reverse (flipped run) ≡ flips (take n trace)
  pub window : (more : List TraceLine) → MayFollow ahead more → KeepsWindow h (trace ++ more) run
  pub apart : AreApart trace (servings run)
  pub past : IsTrue (list_all (λ serving. nat_lt serving.clock now) (servings run))
  pub waited : IsTrue (list_all (is_waited trace n now) (servings run))
  pub idle : sum (idle_clocks (take n trace)) ≤ now

-- the controller was offered what it may be before the next barrier
abbrev pub IsOffered : Header → List TraceLine → Run → Ahead → Type 0
IsOffered h trace run ahead = IsFull (length (offered trace)) (waiting h (offered trace) (controller_steps trace run)) ⊎ IsStopped ahead

-- The command at this clock is one that a controller issues after the run, for the request with this number by order: it is
-- legal, an RD or WR serves the next request of its line, and it is chosen by the requests that wait, of which none more
-- could be offered. An RD or WR comes no earlier than `now`.
pub record IsIssued (h : Header) (trace : List TraceLine) (run : Run) (ahead : Ahead) (now clock : ℕ) (command : Command) (id : Option ℕ) : Type 0 where
  pub legal : IsLegal h clock command (log_of run)
  pub serving : IsServing h (offered trace) (controller_steps trace run) command id
  pub known : AreKnown (offered trace) (controller_steps trace run)
  pub few : length (waiting h (offered trace) (controller_steps trace run)) ≤ 32
  pub within : span (length (offered trace)) (waiting h (offered trace) (controller_steps trace run)) ≤ 64
  pub filled : IsOffered h trace run ahead
  pub chosen : IsChosen h (waiting h (offered trace) (controller_steps trace run)) (log_of run) clock command id
  pub late : IfSome id (λ number. now ≤ clock)

-- the step that it is
abbrev pub issue : List TraceLine → ℕ → Command → Option ℕ → Step
issue trace clock command id = Issues (record { issued = record { clock = clock; command = command }; request = ranked trace id })

-- where a run ends: no rule is broken at the end, the open page was kept, and the run is short
pub record IsEnded (h : Header) (trace : List TraceLine) (run : Run) (clock : ℕ) : Type 0 where
  pub rules : broken_at_end h clock (log_of run) ≡ None
  pub page : keeps_page (log_of run) ≡ true
  pub short : IsShort h trace run clock
