-- Where a step of the policy begins, and what it knows of the command that it issues.
use Rattle.std.specs.Prelude.{◌≡◌, ℕ, ◌+◌, ◌<◌, ◌≤◌, ◌^◌, Bool, true, false, Option, Some, None, List, [], ◌∷◌, length, max, slice_get, replicate, IsTrue, IsSome, if◌then◌else◌}
use Rattle.std.specs.List.{remove}
use Rattle.command_words.specs.declared.command.Command.{Command}
use Rattle.command_words.specs.declared.command.Command.TheVariants.{RfmAb}
use Rattle.speed_bin.specs.Alert.{alert}
use Rattle.command_words.specs.Kinds.{is_mrw, is_rfm_all}
use Rattle.speed_bin.specs.Log.{Log}
use Rattle.speed_bin.specs.Rules.{MayFollow, is_wanted, all_closed, rule_9, rule_10, rule_12, rule_14}
use Rattle.speed_bin.specs.declared.header.Header.{Header}
use Rattle.bank_state.specs.Standing.{Fits}
use Rattle.refresh_plan.specs.Debts.{IsNothingDue}
use Rattle.refresh_plan.specs.declared.due_refresh.Due.{Due}
use Rattle.refresh_plan.specs.declared.due_refresh.Due.TheVariants.{All, Same}
use Rattle.requests.specs.Choice.{IsChosen, IsPrompt, IsSoonest}
use Rattle.requests.specs.Owed.{SparesOwed}
use Rattle.requests.specs.Queue.{Step, places}
use Rattle.requests.specs.Requested.{Requested}
use Rattle.requests.specs.declared.request.Request.{Request}
use Rattle.requests.specs.declared.waiting.Waiting.{Waiting}
use Rattle.deadlines.specs.Turns.{Decides, IsEcsDue, Turn}
use Rattle.deadlines.specs.declared.task.Task.{Task}
use Rattle.deadlines.specs.declared.task.Task.TheVariants.{RfmAll, RefAll, RefSame}
use Rattle.scheduler.specs.Choice.{IsBest, command_for}
use Rattle.scheduler.specs.Controller.{BetweenTurns, IsCalm, IsTasked, AtRest, banks_of, excused}
use Rattle.scheduler.specs.Ledger.{StandsFor as LedgerStandsFor}
use Rattle.scheduler.specs.Policy.{Hidden, Sets}
use Rattle.scheduler.specs.declared.choice.Candidate.{Candidate}
use Rattle.scheduler.specs.declared.choice.Class.{Class}
use Rattle.scheduler.specs.declared.choice.Class.TheVariants.{Column, Activate, Precharge}
use Rattle.scheduler.specs.declared.state.State.{State}
use Rattle.scheduler.specs.declared.task.Errand.{Errand}

-- the controller stands for the log, and has seen the alert
pub record IsAwake (c : State) (h : Header) (offered : List Request) (idle : ℕ) (log : List Step) : Type 0 where
  pub holds : BetweenTurns h c offered idle log
  pub seen : c.alert ≡ alert h (places log)

-- the controller with this least clock of the next command
abbrev pub with_from : ℕ → State → State
with_from from c = record c { ledger = record c.ledger { from = from } }

-- what it keeps between turns, by its fields
abbrev pub hidden_in : State → Hidden
hidden_in c = record { task = c.task; from = c.ledger.from; until = c.until; finished = c.finished }

-- ---- A command that is to be issued

-- All that is known of a command before it is issued, at this clock and for this request, by a turn that began with this
-- least clock, this idle target and this announcement of the end. It leaves this task and this queue.
pub record IsReady (c : State) (from until : ℕ) (finished : Bool) (h : Header) (offered : List Request) (idle : ℕ) (log : List Step) (clock : ℕ) (command : Command) (id : Option ℕ) (next : Option Task) (queue : List Waiting) : Type 0 where
  pub holds : BetweenTurns h (with_from from c) offered idle log
  pub seen : c.alert ≡ alert h (places log)
  pub waited : from ≤ c.ledger.from
  pub late : c.ledger.from ≤ clock
  pub near : clock + 1 < 2 ^ 48
  pub soon : clock + 1 ≤ max from until + 2 ^ 15
  pub turn : Turn h (places log) c.task from c.until (banks_of c.queue.items) (record { clock = clock; command = command }) next (banks_of queue)
  pub follows : MayFollow h.timing clock command (places log)
  pub fits : Fits command (places log)
  pub ninth : IsTrue (rule_9 h command (places log))
  pub tenth : IsTrue (rule_10 h command (places log))
  pub twelfth : IsTrue (rule_12 h clock command (places log))
  pub fourteenth : IsTrue (rule_14 h command (places log))
  pub spares : SparesOwed command (places log)
  pub requested : Requested h offered (record { issued = record { clock = clock; command = command }; id = id } ∷ log) queue (excused next c.finished queue)
  pub tasked : IsTasked h (record { clock = clock; command = command } ∷ places log) (clock + 1) next
  pub starting : length log < 8 → is_mrw command ≡ true
  pub untasked : length log < 8 → next ≡ None
  pub chosen : IsChosen h c.queue.items (places log) clock command id
  pub prompt : IsPrompt h from (places log) clock command
  pub busy : AtRest h (max from until) offered log → (finished ≡ true) × (all_closed (places log) ≡ false)

-- that of a command that serves no request, at its e
pub record IsReadySoon (c : State) (from until : ℕ) (finished : Bool) (h : Header) (offered : List Request) (idle : ℕ) (log : List Step) (command : Command) (next : Option Task) : Type 0 where
  pub ledger : LedgerStandsFor c.ledger h (places log)
  pub ready : (clock : ℕ) → IsSoonest h (places log) c.ledger.from command clock → IsReady c from until finished h offered idle log clock command None next c.queue.items

abbrev pub id_for : Class → Waiting → Option ℕ
id_for Column w = Some w.id
id_for Activate w = None
id_for Precharge w = None

-- a column takes its request out of the queue
abbrev pub queue_after : Class → List Waiting → ℕ → List Waiting
queue_after Column ws at = remove ws at
queue_after Activate ws at = ws
queue_after Precharge ws at = ws

-- that of a candidate
pub record IsReadyFor (c : State) (from until : ℕ) (finished : Bool) (h : Header) (offered : List Request) (idle : ℕ) (log : List Step) (candidate : Candidate) (next : Option Task) : Type 0 where
  pub inside : candidate.at < length c.queue.items
  pub soon : candidate.clock + 1 ≤ max from until + 2 ^ 15
  pub ready : (w : Waiting) → slice_get c.queue.items candidate.at ≡ Some w
      → IsReady c from until finished h offered idle log candidate.clock (command_for candidate.class w) (id_for candidate.class w) next (queue_after candidate.class c.queue.items candidate.at)

-- what a command leaves of the alert
abbrev pub alert_left : Command → Option ℕ → Option ℕ
alert_left command raised = if is_rfm_all command then None else raised

-- ---- The task of a turn

-- all banks are asked
abbrev pub all_asked : List Bool
all_asked = replicate 32 true

-- the choice is the best candidate of all banks, and there is none where no request waits
abbrev pub IsChoice : State → Header → Log → Option Candidate → Type 0
IsChoice c h log None = c.queue.items ≡ []
IsChoice c h log (Some candidate) = IsBest h c.queue.items log c.ledger.from all_asked candidate

-- the e0 of a choice
abbrev pub soonest_in : Option Candidate → ℕ → ℕ → ℕ
soonest_in None from until = max from until
soonest_in (Some candidate) from until = candidate.clock

-- no task is set and none is due at e0. While an alert is raised there is a candidate, within the alert's window.
pub record IsFree (c : State) (h : Header) (log : Log) (choice : Option Candidate) (soonest : ℕ) : Type 0 where
  pub untasked : c.task ≡ None
  pub no_scrub : IsEcsDue h log → ⊥
  pub no_refresh : IsNothingDue h soonest log
  pub no_management : is_wanted h RfmAb log ≡ false
  pub candidate : (raised : ℕ) → alert h log ≡ Some raised → IsSome choice
  pub window : (raised : ℕ) → alert h log ≡ Some raised → soonest ≤ raised + h.timing.nabo

-- what is so while the alert that was raised at this clock is not answered yet
pub record MayWait (c : State) (h : Header) (log : Log) (choice : Option Candidate) (soonest raised : ℕ) : Type 0 where
  pub untasked : c.task ≡ None
  pub candidate : IsSome choice
  pub window : soonest ≤ raised + h.timing.nabo
  pub no_scrub : IsEcsDue h log → ⊥
  pub no_refresh : IsNothingDue h soonest log
  pub no_management : is_wanted h RfmAb log ≡ false

-- a reason to answer the alert that was raised at this clock
pub data Urges (c : State) (h : Header) (log : Log) (choice : Option Candidate) (soonest raised : ℕ) : Type 0 where
  UrgesTask : IsSome c.task → Urges c h log choice soonest raised
  UrgesAlone : choice ≡ None → Urges c h log choice soonest raised
  UrgesWindow : raised + h.timing.nabo < soonest → Urges c h log choice soonest raised
  UrgesScrub : IsEcsDue h log → Urges c h log choice soonest raised
  UrgesRefresh : (IsNothingDue h soonest log → ⊥) → Urges c h log choice soonest raised
  UrgesRfm : IsTrue (is_wanted h RfmAb log) → Urges c h log choice soonest raised

-- no alert has to be answered
abbrev pub IsPatient : State → Header → Log → Option Candidate → ℕ → Type 0
IsPatient c h log choice soonest = (raised : ℕ) → alert h log ≡ Some raised → MayWait c h log choice soonest raised

-- the task of a refresh that is due
abbrev pub refresh_task : Due → Task
refresh_task All = RefAll
refresh_task (Same address) = RefSame address

-- a task is served from this clock on
pub record IsErrand (c : State) (h : Header) (log : Log) (soonest : ℕ) (errand : Errand) : Type 0 where
  pub decides : Decides h log c.task c.ledger.from c.until errand.task errand.start
  pub late : c.ledger.from ≤ errand.start
  pub early : errand.start ≤ soonest
  pub tasked : IsTasked h log errand.start (Some errand.task)
  pub cause : IsCalm h soonest log → ⊥

-- why a task is served: an alert has to be answered, or a task was set before, or what is due sets one
pub data IsCaused (c : State) (h : Header) (log : Log) (choice : Option Candidate) (soonest : ℕ) (errand : Errand) : Type 0 where
  ByAlert : (raised : ℕ) → alert h log ≡ Some raised → Urges c h log choice soonest raised → errand ≡ record { task = RfmAll; start = c.ledger.from } → IsCaused c h log choice soonest errand
  BySetTask : (task : Task) → IsPatient c h log choice soonest → c.task ≡ Some task → errand ≡ record { task = task; start = c.ledger.from } → IsCaused c h log choice soonest errand
  ByDue : IsPatient c h log choice soonest → c.task ≡ None → Sets h log c.ledger.from soonest (Some errand) → IsCaused c h log choice soonest errand

-- where a task is served
pub record IsServing (c : State) (h : Header) (offered : List Request) (idle : ℕ) (log : List Step) (errand : Errand) : Type 0 where
  pub awake : IsAwake c h offered idle log
  pub started : 8 ≤ length log
  pub choice : Option Candidate
  pub is_choice : IsChoice c h (places log) choice
  pub errand_is : IsErrand c h (places log) (soonest_in choice c.ledger.from c.until) errand

-- where nothing waits and nothing is due
pub record IsResting (c : State) (h : Header) (offered : List Request) (idle : ℕ) (log : List Step) : Type 0 where
  pub awake : IsAwake c h offered idle log
  pub started : 8 ≤ length log
  pub none_waits : c.queue.items ≡ []
  pub free : IsFree c h (places log) None (max c.ledger.from c.until)
