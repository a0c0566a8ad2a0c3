-- What a checked device stands for: an auditor and a device that go through one list of steps, in which every command was judged
-- before the device was given it. The auditor is one command ahead where a WR waits for its bytes.
use Rattle.std.specs.Prelude.{ℕ, ◌≡◌, ◌<◌, ◌^◌, ⊤, true, false, Option, Some, None, option_map, is_some, List, ◌∷◌}
use Rattle.bank_state.specs.Standing.{StandsFor as BanksFor}
use Rattle.command_words.specs.Geometry.{Shape}
use Rattle.command_words.specs.Kinds.{is_wr}
use Rattle.command_words.specs.declared.command.Command.{Command}
use Rattle.command_words.specs.declared.command.Command.TheVariants.{Rd}
use Rattle.ddr_text.specs.AcceptedReport.{IsReportLine}
use Rattle.ddr_text.specs.declared.lines.ReportLine.TheVariants.{Issued as IssuedLine}
use Rattle.device_core.specs.Held.{Held}
use Rattle.device_core.specs.Standing.{StandsFor as DeviceFor, HasBytes, with_command}
use Rattle.device_core.specs.Steps.{Step, log_of}
use Rattle.device_core.specs.Stored.{changes_of, line_at, reading}
use Rattle.error_scrub.specs.declared.cells.LineRead.{LineRead}
use Rattle.log_auditor.specs.Auditing.{StandsFor as AuditorFor, geometry_of as auditor_geometry, has_ended}
use Rattle.log_auditor.specs.declared.judge.Judge.{Judge}
use Rattle.log_auditor.specs.declared.verdict.Rule.{Rule}
use Rattle.speed_bin.specs.Alert.{alert}
use Rattle.speed_bin.specs.Header.{shape_of}
use Rattle.speed_bin.specs.Log.{Issued as Place, Log}
use Rattle.speed_bin.specs.Rules.{broken, broken_at_end, verdict}
use Rattle.speed_bin.specs.declared.header.Header.{Header}
use Rattle.device_exec.specs.Scripts.{Phase, Ready, Waits, Ended, last_clock, placed}
use Rattle.device_exec.specs.declared.checked_device.Answer.{Answer}
use Rattle.device_exec.specs.declared.checked_device.Checked.{Checked}
use Rattle.device_exec.specs.declared.checked_device.Checked.TheVariants.{Breaks, Awaits, Done}
use Rattle.device_exec.specs.declared.checked_device.CheckedDevice.{CheckedDevice}
use Rattle.device_exec.specs.declared.checked_device.Waiting.{Waiting}
use Rattle.device_exec.specs.declared.memory.Memory.{Memory}

-- ---- The auditor

-- the auditor stands for a log in which no rule is broken
pub record IsFine (auditor : Judge) (h : Header) (log : Log) : Type 0 where
  pub stands : AuditorFor auditor h log
  pub fine : verdict h log ≡ None
  pub going_on : has_ended auditor ≡ false

-- the command was judged behind the log: it is fine, or this is the least rule that it breaks
abbrev pub Judges : Option Rule → Judge → Header → ℕ → Command → Log → Type 0
Judges None new h clock command log = IsFine new h (placed clock command ∷ log)
Judges (Some rule) new h clock command log = broken h clock command log ≡ Some rule.0

abbrev pub JudgesEnd : Option Rule → Header → ℕ → Log → Type 0
JudgesEnd None h clock log = broken_at_end h clock log ≡ None
JudgesEnd (Some rule) h clock log = broken_at_end h clock log ≡ Some rule.0

-- it stands for some such log
abbrev pub IsFineForSome : Judge → Type 0
IsFineForSome auditor = ∥ ((h : Header) × (log : Log) × IsFine auditor h log) ∥₁

-- the command is within the ranges of its line, it was judged fine behind the device's list, and has its bytes
pub record IsJudged (h : Header) (clock : ℕ) (command : Command) (bytes : Option (List ℕ)) (steps : List Step) : Type 0 where
  pub inside : IsReportLine (shape_of h) (IssuedLine clock command)
  pub fine : verdict h (placed clock command ∷ log_of steps) ≡ None
  pub with_bytes : HasBytes command bytes

-- ---- The device

-- the device, its open rows and its alert are those of the steps
pub record BothStand (it : Memory) (h : Header) (steps : List Step) : Type 0 where
  pub device : DeviceFor it.device h steps
  pub banks : BanksFor it.banks (log_of steps)
  pub geometry : it.geometry ≡ shape_of h
  pub raised : it.raised ≡ is_some (alert h (log_of steps))

-- the device stands for a list behind which the command was judged
abbrev pub MayGive : Held → ℕ → Command → Option (List ℕ) → Type 0
MayGive device clock command bytes = ∥ ((h : Header) × (steps : List Step) × DeviceFor device h steps × IsJudged h clock command bytes steps) ∥₁

-- the same of the device with its open rows
abbrev pub MayTake : Memory → ℕ → Command → Option (List ℕ) → Type 0
MayTake it clock command bytes = ∥ ((h : Header) × (steps : List Step) × BothStand it h steps × IsJudged h clock command bytes steps) ∥₁

-- the line that an RD reads, and None for other commands
abbrev pub line_read : Header → Command → Log → Option ℕ
line_read h (Rd bank column) log = Some (line_at h bank column log)
line_read h _ log = None

-- an RD's line and what is read there, and None for other commands
abbrev pub answered : Header → Command → List Step → Option Answer
answered h (Rd bank column) steps =
    Some (record { line = line_at h bank column (log_of steps); read = reading (changes_of h steps) (line_at h bank column (log_of steps)) })
answered h _ steps = None

-- a line and what is read there, where there are both
abbrev pub answer_of : Option ℕ → Option LineRead → Option Answer
answer_of (Some line) (Some read) = Some (record { line = line; read = read })
answer_of (Some line) None = None
answer_of None read = None

-- ---- Both

abbrev pub place_in : Waiting → Place
place_in waiting = placed waiting.clock waiting.command

-- no rule was broken so far; behind the end nothing is judged any more
abbrev pub Audits : Judge → Header → List Step → Phase → Type 0
Audits auditor h steps Ready = IsFine auditor h (log_of steps)
Audits auditor h steps (Waits place) = IsFine auditor h (place ∷ log_of steps)
Audits auditor h steps (Ended clock) = ⊤

abbrev pub waiting_in : Phase → Option Place
waiting_in Ready = None
waiting_in (Waits place) = Some place
waiting_in (Ended clock) = None

-- what waits is a WR whose numbers are in their ranges
abbrev pub IsAwaited : Header → Phase → Type 0
IsAwaited h Ready = ⊤
IsAwaited h (Waits place) = (is_wr place.command ≡ true) × IsReportLine (shape_of h) (IssuedLine place.clock place.command)
IsAwaited h (Ended clock) = ⊤

pub record Keeps (it : CheckedDevice) (h : Header) (steps : List Step) (phase : Phase) : Type 0 where
  pub shape : auditor_geometry it.auditor ≡ shape_of h
  pub auditor : Audits it.auditor h steps phase
  pub memory : BothStand it.memory h steps
  pub waiting : option_map place_in it.waiting ≡ waiting_in phase
  pub awaited : IsAwaited h phase
  pub last : it.last ≡ last_clock (log_of steps)

-- the checked device stands for the steps that its device was given, and for what may come next; how is its own affair
unfoldable pub StandsFor : CheckedDevice → Header → List Step → Phase → Type 0
StandsFor it h steps phase = Keeps it h steps phase

-- ---- What it may be given

-- the shape of the subchannel, in which the numbers of a line are
unfoldable pub geometry_of : CheckedDevice → Shape
geometry_of it = auditor_geometry it.auditor

-- it stands for some list, no WR waits, and the end was not taken
abbrev pub IsReady : CheckedDevice → Type 0
IsReady it = ∥ ((h : Header) × (steps : List Step) × StandsFor it h steps Ready) ∥₁

-- it stands for some list, and a WR waits for its bytes
abbrev pub AwaitsBytes : CheckedDevice → Type 0
AwaitsBytes it = ∥ ((h : Header) × (steps : List Step) × (place : Place) × StandsFor it h steps (Waits place)) ∥₁

-- ---- What came of it

-- what came of a command behind these steps
abbrev pub Commands : Checked → CheckedDevice → Header → ℕ → Command → List Step → Type 0
Commands (Breaks rule) new h clock command steps = broken h clock command (log_of steps) ≡ Some rule.0
Commands Awaits new h clock command steps =
    (broken h clock command (log_of steps) ≡ None) × (is_wr command ≡ true) × StandsFor new h steps (Waits (placed clock command))
Commands (Done answer) new h clock command steps =
    (broken h clock command (log_of steps) ≡ None) × (is_wr command ≡ false) × StandsFor new h (with_command clock command None steps) Ready
    × (answer ≡ answered h command steps)

-- what came of the end
abbrev pub Ends : Option Rule → CheckedDevice → Header → ℕ → List Step → Type 0
Ends None new h clock steps = (broken_at_end h clock (log_of steps) ≡ None) × StandsFor new h steps (Ended clock)
Ends (Some rule) new h clock steps = broken_at_end h clock (log_of steps) ≡ Some rule.0
