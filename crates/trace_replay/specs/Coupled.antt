-- What a controller and a device at two ends of a bus stand for: one list that both agree on. The newest step stands first.
use Rattle.std.specs.Prelude.{ℕ, ◌≡◌, ◌+◌, ◌<◌, ◌≤◌, ◌^◌, Bool, true, false, Option, Some, None, List, [], ◌∷◌, max, is_some, option_map, IsTrue, ⊤}
use Rattle.command_words.specs.declared.command.Command.{Command}
use Rattle.command_words.specs.declared.geometry.Place.{Place}
use Rattle.speed_bin.specs.Alert.{alert}
use Rattle.command_words.specs.Kinds.{is_wr}
use Rattle.speed_bin.specs.Log.{Issued, Log}
use Rattle.speed_bin.specs.Marks.{stays_inside}
use Rattle.speed_bin.specs.Rules.{all_closed, broken, broken_at_end}
use Rattle.speed_bin.specs.declared.header.Header.{Header}
use Rattle.requests.specs.Choice.{IsChosen, IsPrompt}
use Rattle.requests.specs.Queue.{Step as NumberedStep, waiting}
use Rattle.requests.specs.declared.request.Request.{Request}
use Rattle.requests.specs.declared.request.RequestId.{RequestId}
use Rattle.scheduler.specs.Controller.{AtRest, number_of, StandsFor as ControllerFor, header_of as controller_header, from_of as controller_from, until_of as controller_until, finished_of as controller_finished}
use Rattle.scheduler.specs.declared.state.State.{State as Controller}
use Rattle.scheduler.specs.declared.turn.Turn.{Turn}
use Rattle.scheduler.specs.declared.turn.Turn.TheVariants.{Issue, Idle, Done}
use Rattle.device_core.specs.Standing.{StandsFor as DeviceFor}
use Rattle.device_core.specs.Steps.{Step as DeviceStep, Issues as Gives, Flips as Turns}
use Rattle.device_core.specs.Held.{Held as DeviceHeld}
use Rattle.trace_replay.specs.declared.ends.Pending.{Pending}
use Rattle.trace_replay.specs.declared.ends.Ends.{Ends}

-- ---- The list

-- a command that went from the controller to the device, the number of the request that it serves, and the bytes that
-- came with it
pub record Delivered : Type 0 where
  pub issued : Issued
  pub id : Option ℕ
  pub bytes : Option (List ℕ)

-- a step delivers a command, or turns a stored bit: that of a place, a device and a bit of its codeword
pub data Step : Type 0 where
  Delivers : Delivered → Step
  Flips : Place → ℕ → ℕ → Step

-- the commands at their clocks
abbrev pub log_of : List Step → Log
log_of [] = []
log_of (Delivers d ∷ steps) = d.issued ∷ log_of steps
log_of (Flips place device bit ∷ steps) = log_of steps

-- the list of the controller, which knows neither bytes nor turned bits
abbrev pub controller_steps : List Step → List NumberedStep
controller_steps [] = []
controller_steps (Delivers d ∷ steps) = record { issued = d.issued; id = d.id } ∷ controller_steps steps
controller_steps (Flips place device bit ∷ steps) = controller_steps steps

-- the list of the device, which knows no requests
abbrev pub device_steps : List Step → List DeviceStep
device_steps [] = []
device_steps (Delivers d ∷ steps) = Gives (record { issued = d.issued; bytes = d.bytes }) ∷ device_steps steps
device_steps (Flips place device bit ∷ steps) = Turns place device bit ∷ device_steps steps

-- the list with what is pending
abbrev pub with_pending : Option NumberedStep → List NumberedStep → List NumberedStep
with_pending None log = log
with_pending (Some step) log = step ∷ log

-- the step, once it is delivered with these bytes
abbrev pub delivered : NumberedStep → Option (List ℕ) → Step
delivered step bytes = Delivers (record { issued = step.issued; id = step.id; bytes = bytes })

-- ---- The relation

-- a command that was issued, as a step
abbrev pub issued_as : ℕ → Command → Option RequestId → NumberedStep
issued_as clock command id = record { issued = record { clock = clock; command = command }; id = number_of id }

abbrev pub step_of : Pending → NumberedStep
step_of it = issued_as it.clock it.command it.id

-- the pending command is one that the device may be given: it has a clock of the bus, an ACT opens one of the header's
-- rows, and all fourteen rules hold
pub record IsDue (h : Header) (log : Log) (step : NumberedStep) : Type 0 where
  pub in_time : step.issued.clock < 2 ^ 48
  pub row : IsTrue (stays_inside h step.issued.command)
  pub rules : broken h step.issued.clock step.issued.command log ≡ None

abbrev pub IsDueIfAny : Header → Log → Option NumberedStep → Type 0
IsDueIfAny h log None = ⊤
IsDueIfAny h log (Some step) = IsDue h log step

-- both ends agree on the list. The controller has issued the pending command already, and the alert that it is told next
-- is that of the list.
pub record Keeps (c : Ends) (h : Header) (offered : List Request) (idle : ℕ) (steps : List Step) : Type 0 where
  pub controller : ControllerFor h c.controller offered idle (with_pending (option_map step_of c.pending) (controller_steps steps))
  pub device : DeviceFor c.device h (device_steps steps)
  pub alert : c.alert ≡ is_some (alert h (log_of steps))
  pub due : IsDueIfAny h (log_of steps) (option_map step_of c.pending)

-- controller and device stand for the list; how is their own affair
unfoldable pub StandsFor : Ends → Header → List Request → ℕ → List Step → Type 0
StandsFor c h offered idle steps = Keeps c h offered idle steps

-- they stand for some list
abbrev pub StandsForSome : Ends → Type 0
StandsForSome c = ∥ ((h : Header) × (offered : List Request) × (idle : ℕ) × (steps : List Step) × StandsFor c h offered idle steps) ∥₁

-- ---- What it shows

-- its two ends
unfoldable pub controller_of : Ends → Controller
controller_of c = c.controller

unfoldable pub device_of : Ends → DeviceHeld
device_of c = c.device

-- the command that was issued and not delivered yet
unfoldable pub pending_of : Ends → Option NumberedStep
pending_of c = option_map step_of c.pending

-- the alert that the controller is told next
unfoldable pub alert_of : Ends → Bool
alert_of c = c.alert

-- the header that it holds
abbrev pub header_of : Ends → Header
header_of c = controller_header (controller_of c)

-- the clock before which no more commands come
abbrev pub from_of : Ends → ℕ
from_of c = controller_from (controller_of c)

-- the idle target
abbrev pub until_of : Ends → ℕ
until_of c = controller_until (controller_of c)

-- no more requests come
abbrev pub finished_of : Ends → Bool
finished_of c = controller_finished (controller_of c)

-- a command is pending, and bytes come with it exactly where it is a WR
pub record IsAwaited (pending : Option NumberedStep) (bytes : Option (List ℕ)) : Type 0 where
  pub step : NumberedStep
  pub is_pending : pending ≡ Some step
  pub with_bytes : is_some bytes ≡ is_wr step.issued.command

-- ---- What a turn leaves

-- the step that a turn issues
abbrev pub issued_in : Turn → Option NumberedStep
issued_in (Issue clock command id) = Some (issued_as clock command id)
issued_in Idle = None
issued_in Done = None

-- the command that a turn issued is pending
pub record Issues (clock : ℕ) (command : Command) (id : Option RequestId) (from until : ℕ) (finished : Bool) (h : Header) (new : Ends) (offered : List Request) (idle : ℕ) (steps : List Step) : Type 0 where
  -- it comes no sooner than the turn began
  pub late : from ≤ clock
  -- the device may be given it: all fourteen rules hold at its place
  pub due : IsDue h (log_of steps) (issued_as clock command id)
  -- it is what the waiting requests, or what is due, ask for
  pub chosen : IsChosen h (waiting h offered (controller_steps steps)) (log_of steps) clock command (number_of id)
  -- a column, an ACT or a PREpb comes as soon as it may
  pub prompt : IsPrompt h from (log_of steps) clock command
  -- where nothing waits and nothing is due, it is the last precharge
  pub busy : AtRest h (max from until) offered (controller_steps steps) → (finished ≡ true) × (all_closed (log_of steps) ≡ false)
  -- the next command comes one clock later at the least
  pub now : from_of new ≡ clock + 1
  pub stands : StandsFor new h offered idle steps
  pub is_pending : pending_of new ≡ Some (issued_as clock command id)

-- a turn that issued nothing
pub record Rests (from until : ℕ) (h : Header) (new : Ends) (offered : List Request) (idle : ℕ) (steps : List Step) : Type 0 where
  pub rest : AtRest h (max from until) offered (controller_steps steps)
  pub now : from_of new ≡ max from until
  pub stands : StandsFor new h offered idle steps
  pub none_pending : pending_of new ≡ None

-- what a turn leaves that began with this least clock, this idle target, and this announcement of the end
abbrev pub After : Turn → ℕ → ℕ → Bool → Header → Ends → List Request → ℕ → List Step → Type 0
After (Issue clock command id) from until finished h new offered idle steps = Issues clock command id from until finished h new offered idle steps
After Idle from until finished h new offered idle steps = Rests from until h new offered idle steps × (finished ≡ false)
After Done from until finished h new offered idle steps = Rests from until h new offered idle steps × (finished ≡ true) × (broken_at_end h (max from until) (log_of steps) ≡ None)
