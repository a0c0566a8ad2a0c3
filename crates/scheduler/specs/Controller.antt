-- What a controller stands for: the requests that it was offered, the clocks of its idle lines, and the log of what it
-- issued, each place with the number of the request that it serves.
use Rattle.std.specs.Prelude.{◌≡◌, ℕ, ◌+◌, ◌<◌, ◌≤◌, ◌^◌, Bool, true, false, ◌&&◌, ◌||◌, Option, Some, None, List, [], ◌∷◌, length, map, max, is_some, IsTrue, ⊤}
use Rattle.command_words.specs.Command.{bank_number}
use Rattle.command_words.specs.declared.command.Command.{Command}
use Rattle.command_words.specs.declared.command.Command.TheVariants.{RfmAb, RfmSb}
use Rattle.speed_bin.specs.Alert.{alert}
use Rattle.speed_bin.specs.Header.{IsAccepted}
use Rattle.speed_bin.specs.Log.{Log, open_at}
use Rattle.speed_bin.specs.Registers.{register_writes}
use Rattle.speed_bin.specs.Rules.{all_closed, broken, broken_at_end, is_wanted, rule_1, verdict}
use Rattle.speed_bin.specs.declared.header.Header.{Header}
use Rattle.refresh_plan.specs.Debts.{IsNothingDue}
use Rattle.requests.specs.Choice.{IsChosen, IsPrompt}
use Rattle.requests.specs.Queue.{Step, places, waiting}
use Rattle.requests.specs.Requested.{Requested}
use Rattle.requests.specs.declared.request.Request.{Request}
use Rattle.requests.specs.declared.request.RequestId.{RequestId}
use Rattle.requests.specs.declared.waiting.Waiting.{Waiting}
use Rattle.deadlines.specs.Standing.{Keeps}
use Rattle.deadlines.specs.Tasks.{task_covers}
use Rattle.deadlines.specs.Turns.{IsEcsDue}
use Rattle.deadlines.specs.declared.task.Task.{Task}
use Rattle.deadlines.specs.declared.task.Task.TheVariants.{RfmAll, Ecs, RefAll, RefSame, RfmSame}
use Rattle.scheduler.specs.Ledger.{StandsFor as LedgerStandsFor}
use Rattle.scheduler.specs.Policy.{Hidden}
use Rattle.scheduler.specs.declared.state.State.{State}
use Rattle.scheduler.specs.declared.turn.Turn.{Turn}
use Rattle.scheduler.specs.declared.turn.Turn.TheVariants.{Issue, Idle, Done}

-- ---- What it keeps

-- The alert was seen, or it came with the last command, one clock before the least one of the next.
abbrev pub IsSeen : Option ℕ → ℕ → Option ℕ → Type 0
IsSeen (Some raised) from alert = alert ≡ Some raised
IsSeen None from None = ⊤
IsSeen None from (Some raised) = raised + 1 ≡ from

-- a task that is set has its cause
abbrev pub IsTasked : Header → Log → ℕ → Option Task → Type 0
IsTasked h log from None = ⊤
IsTasked h log from (Some RfmAll) = alert h log ≡ None → ⊥
IsTasked h log from (Some Ecs) = IsEcsDue h log
IsTasked h log from (Some RefAll) = IsNothingDue h from log → ⊥
IsTasked h log from (Some (RefSame address)) = (address < 4) × (IsNothingDue h from log → ⊥)
IsTasked h log from (Some (RfmSame address)) = IsTrue (is_wanted h (RfmSb address) log)

abbrev pub is_covered : Option Task → ℕ → Bool
is_covered None b = false
is_covered (Some task) b = task_covers task b

-- the queue is empty
abbrev pub none_wait : List Waiting → Bool
none_wait [] = true
none_wait (w ∷ ws) = false

-- a bank may be closed for the task that is set, or for good once the end was announced and nothing waits
abbrev pub excused : Option Task → Bool → List Waiting → ℕ → Bool
excused task finished queue b = is_covered task b || (finished && none_wait queue)

-- the bank of each request
abbrev pub banks_of : List Waiting → List ℕ
banks_of ws = map (λ w. bank_number w.place.bank) ws

pub record BetweenTurns (h : Header) (c : State) (offered : List Request) (idle : ℕ) (log : List Step) : Type 0 where
  pub accepted : IsAccepted h
  pub header : c.header ≡ h
  pub writes : c.writes.items ≡ register_writes h.settings
  pub ledger : LedgerStandsFor c.ledger h (places log)
  pub seen : IsSeen c.alert c.ledger.from (alert h (places log))
  pub count : c.offered ≡ length offered
  pub requested : Requested h offered log c.queue.items (excused c.task c.finished c.queue.items)
  pub deadlines : Keeps h (places log) c.task c.ledger.from c.until idle (banks_of c.queue.items) (length offered)
  pub tasked : IsTasked h (places log) c.ledger.from c.task
  pub starting : length log ≤ 8 → (b : ℕ) → b < 32 → open_at b (places log) ≡ None
  pub untasked : length log < 8 → c.task ≡ None
  pub sound : verdict h (places log) ≡ None
  pub last : IsTrue (rule_1 c.ledger.from (places log))
  pub long : length log ≤ c.ledger.from
  pub near : c.ledger.from < 2 ^ 48
  pub target : c.until < 2 ^ 47

-- the controller stands for them; how is its own affair
unfoldable pub StandsFor : Header → State → List Request → ℕ → List Step → Type 0
StandsFor h c offered idle log = BetweenTurns h c offered idle log

-- it stands for some list
abbrev pub StandsForSome : State → Type 0
StandsForSome c = ∥ ((h : Header) × (offered : List Request) × (idle : ℕ) × (log : List Step) × StandsFor h c offered idle log) ∥₁

-- it stands for some list after which an alert is raised, or not, as it is told
abbrev pub IsTold : State → Bool → Type 0
IsTold c raised = ∥ ((h : Header) × (offered : List Request) × (idle : ℕ) × (log : List Step) × (StandsFor h c offered idle log) × (raised ≡ is_some (alert h (places log)))) ∥₁

-- ---- What it shows

-- the header that it holds
unfoldable pub header_of : State → Header
header_of c = c.header

-- the clock before which no more commands come
unfoldable pub from_of : State → ℕ
from_of c = c.ledger.from

-- the idle target
unfoldable pub until_of : State → ℕ
until_of c = c.until

-- the task that is set
unfoldable pub task_of : State → Option Task
task_of c = c.task

-- no more requests come
unfoldable pub finished_of : State → Bool
finished_of c = c.finished

-- what it keeps between turns, beside the waiting requests and the log
abbrev pub hidden_of : State → Hidden
hidden_of c = record { task = task_of c; from = from_of c; until = until_of c; finished = finished_of c }

abbrev pub number_of : Option RequestId → Option ℕ
number_of None = None
number_of (Some id) = Some id.0

-- ---- What a turn leaves

-- nothing is due at this clock: no alert is raised, no ECS is due, no refresh is due at the clock, and no RFM is wanted
pub record IsCalm (h : Header) (clock : ℕ) (log : Log) : Type 0 where
  pub no_alert : alert h log ≡ None
  pub no_scrub : IsEcsDue h log → ⊥
  pub no_refresh : IsNothingDue h clock log
  pub no_management : is_wanted h RfmAb log ≡ false

-- no request waits, no register write is left, and nothing is due at this clock
pub record AtRest (h : Header) (clock : ℕ) (offered : List Request) (log : List Step) : Type 0 where
  pub none_waits : waiting h offered log ≡ []
  pub started : 8 ≤ length log
  pub calm : IsCalm h clock (places log)

-- the command that a turn issued
pub record Issues (clock : ℕ) (command : Command) (id : Option ℕ) (from until : ℕ) (finished : Bool) (h : Header) (new : State) (offered : List Request) (idle : ℕ) (log : List Step) : Type 0 where
  -- all fourteen rules hold at its place
  pub right : broken h clock command (places log) ≡ None
  -- it is what the waiting requests, or what is due, ask for
  pub chosen : IsChosen h (waiting h offered log) (places log) clock command id
  -- no command comes before the least clock, and a column, an ACT or a PREpb comes as soon as it may
  pub late : from ≤ clock
  pub prompt : IsPrompt h from (places log) clock command
  -- where nothing waits and nothing is due, it is the last precharge
  pub busy : AtRest h (max from until) offered log → (finished ≡ true) × (all_closed (places log) ≡ false)
  -- the next command comes one clock later at the least
  pub now : from_of new ≡ clock + 1
  pub stands : StandsFor h new offered idle (record { issued = record { clock = clock; command = command }; id = id } ∷ log)

-- a turn that issued nothing
pub record Rests (from until : ℕ) (h : Header) (new : State) (offered : List Request) (idle : ℕ) (log : List Step) : Type 0 where
  pub rest : AtRest h (max from until) offered log
  pub now : from_of new ≡ max from until
  pub stands : StandsFor h new offered idle log

-- what a turn leaves that began with this least clock, this idle target, and this announcement of the end
abbrev pub After : Turn → ℕ → ℕ → Bool → Header → State → List Request → ℕ → List Step → Type 0
After (Issue clock command id) from until finished h new offered idle log = Issues clock command (number_of id) from until finished h new offered idle log
After Idle from until finished h new offered idle log = Rests from until h new offered idle log × (finished ≡ false)
After Done from until finished h new offered idle log = Rests from until h new offered idle log × (finished ≡ true) × (broken_at_end h (max from until) (places log) ≡ None)
