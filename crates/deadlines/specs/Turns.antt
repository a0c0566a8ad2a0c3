-- One turn of the controller that issues a place, as a relation by cases after its policy. Each field is a test that the
-- turn makes, or what a part of the controller says of the log.
-- `now` is the clock before which no command is issued, `until` the idle target, and `waiting` has the bank of each
-- waiting request, by its number, in the order in which they were offered.
use Rattle.std.specs.Prelude.{ℕ, ◌+◌, ◌/◌, ◌<◌, ◌≤◌, ◌≡◌, ◌≢◌, ◌↔◌, Bool, true, false, ◌||◌, ◌==◌, List, [], ◌∷◌, ◌++◌, length, Option, Some, None, max, IsTrue}
use Rattle.command_words.specs.Command.{bank_number, covers}
use Rattle.command_words.specs.declared.place.Bank.{Bank}
use Rattle.command_words.specs.declared.command.Command.{Command}
use Rattle.command_words.specs.declared.command.Command.TheVariants.{Act, PrePb, PreAb}
use Rattle.speed_bin.specs.Alert.{alert}
use Rattle.command_words.specs.Kinds.{is_mrw}
use Rattle.speed_bin.specs.Log.{Log, Issued, open_at, refs, scrubs}
use Rattle.speed_bin.specs.Rules.{rule_10}
use Rattle.speed_bin.specs.declared.header.Header.{Header}
use Rattle.speed_bin.specs.declared.settings.RefreshMode.{RefreshMode}
use Rattle.refresh_plan.specs.Debts.{IsNothingDue, IsMostBehind}
use Rattle.requests.specs.Choice.{IsSoonest}
use Rattle.requests.specs.Owed.{is_column, owed}
use Rattle.deadlines.specs.Tasks.{task_covers, precharge_of, command_of}
use Rattle.deadlines.specs.declared.task.Task.{Task}
use Rattle.deadlines.specs.declared.task.Task.TheVariants.{RfmAll, Ecs, RefAll, RefSame, RfmSame}

-- ---- What is due

-- an ECS is due: fewer stand in the log than its refreshes of address 0 allow
abbrev pub IsEcsDue : Header → Log → Type 0
IsEcsDue h log = (h.settings.ecs_every ≢ 0) × (scrubs log < refs 0 log / h.settings.ecs_every)

-- the least clock at which a refresh is due: at each clock before it nothing is due, and at no other
abbrev pub IsNextDue : Header → Log → ℕ → Type 0
IsNextDue h log due = (clock : ℕ) → ((clock < due) ↔ IsNothingDue h clock log)

-- the clock that a turn looks forward to: the idle target, or the least one of some candidate
pub data LooksTo (h : Header) (log : Log) (now until soonest : ℕ) : Type 0 where
  Target : soonest ≡ max now until → LooksTo h log now until soonest
  Candidate : (command : Command) → IsSoonest h log now command soonest → LooksTo h log now until soonest

-- a refresh is due at the clock that the turn looks forward to, and the turn starts where it falls due, or at `now` where
-- that is later
pub record StartsWhenDue (h : Header) (log : Log) (now until start : ℕ) : Type 0 where
  pub soonest : ℕ
  pub looks : LooksTo h log now until soonest
  pub is_due : IsNothingDue h soonest log → ⊥
  pub due : ℕ
  pub next : IsNextDue h log due
  pub starts : start ≡ max now due

-- ---- The task of a turn

-- the task that a turn serves, where `task` was set before, and the clock from which its command is issued
pub data Decides (h : Header) (log : Log) (task : Option Task) (now until : ℕ) (chosen : Task) (start : ℕ) : Type 0 where
  -- an alert is raised: all banks are managed, whatever was set before
  BacksOff : (raised : ℕ) → alert h log ≡ Some raised → chosen ≡ RfmAll → start ≡ now → Decides h log task now until chosen start
  -- the task was set before
  GoesOn : alert h log ≡ None → task ≡ Some chosen → start ≡ now → Decides h log task now until chosen start
  -- an ECS is due
  Scrubs : alert h log ≡ None → task ≡ None → IsEcsDue h log → chosen ≡ Ecs → start ≡ now → Decides h log task now until chosen start
  -- a refresh of all banks is due
  RefreshesAll : alert h log ≡ None → task ≡ None → (IsEcsDue h log → ⊥) → h.settings.refresh ≡ RefreshMode.All → chosen ≡ RefAll → StartsWhenDue h log now until start → Decides h log task now until chosen start
  -- a refresh of one address is due: the first of those that are most behind
  RefreshesSame : (address clock : ℕ) → alert h log ≡ None → task ≡ None → (IsEcsDue h log → ⊥) → h.settings.refresh ≡ RefreshMode.Same → IsMostBehind h clock log address → chosen ≡ RefSame address → StartsWhenDue h log now until start → Decides h log task now until chosen start
  -- neither is due, and an RFM of one address is wanted
  ManagesSame : (address soonest : ℕ) → alert h log ≡ None → task ≡ None → (IsEcsDue h log → ⊥) → now ≤ soonest → IsNothingDue h soonest log → chosen ≡ RfmSame address → start ≡ now → Decides h log task now until chosen start

-- ---- Requests

-- some waiting request is of the bank
unfoldable pub has_request : List ℕ → ℕ → Bool
has_request [] b = false
has_request (bank ∷ waiting) b = (bank == b) || has_request waiting b

-- the column takes one of the waiting requests away, of its own bank
pub record Takes (command : Command) (waiting later : List ℕ) : Type 0 where
  pub bank : ℕ
  pub older : List ℕ
  pub newer : List ℕ
  pub covered : covers command bank ≡ true
  pub before : waiting ≡ older ++ (bank ∷ newer)
  pub left : later ≡ older ++ newer

-- what a command is that is issued for a request
pub data Serves (command : Command) (log : Log) (waiting later : List ℕ) : Type 0 where
  -- a RD or WR
  Column : is_column command ≡ true → Takes command waiting later → Serves command log waiting later
  -- an ACT of a closed bank for which a request waits
  Activates : (bank : Bank) (row : ℕ) → command ≡ Act bank row → bank_number bank < 32 → open_at (bank_number bank) log ≡ None → has_request waiting (bank_number bank) ≡ true → later ≡ waiting → Serves command log waiting later
  -- a PREpb of an open bank that is not owed
  Precharges : (bank : Bank) → command ≡ PrePb bank → bank_number bank < 32 → (open_at (bank_number bank) log ≡ None → ⊥) → owed (bank_number bank) log ≡ false → later ≡ waiting → Serves command log waiting later

-- ---- A command for a task that goes on

-- what a command is that is issued for a task, which then goes on
pub data Advances (task : Task) (command : Command) (log : Log) (waiting later : List ℕ) : Type 0 where
  -- a column of an owed bank that the task covers
  OwedColumn : (b : ℕ) → b < 32 → is_column command ≡ true → covers command b ≡ true → owed b log ≡ true → task_covers task b ≡ true → Takes command waiting later → Advances task command log waiting later
  -- its precharge, where an open bank is covered and none that is owed
  Shuts : (b : ℕ) → b < 32 → task_covers task b ≡ true → (open_at b log ≡ None → ⊥) → ((i : ℕ) → i < 32 → task_covers task i ≡ true → owed i log ≡ false) → command ≡ precharge_of task → later ≡ waiting → Advances task command log waiting later

-- ---- A turn

-- the turn issues this place, leaves the task `next`, and the waiting requests `later`
pub data Turn (h : Header) (log : Log) (task : Option Task) (now until : ℕ) (waiting : List ℕ) (place : Issued) (next : Option Task) (later : List ℕ) : Type 0 where
  -- one of the eight register writes
  WritesRegister : length log < 8 → is_mrw place.command ≡ true → IsSoonest h log now place.command place.clock → next ≡ None → later ≡ waiting → Turn h log task now until waiting place next later
  -- a command for a task, which then goes on
  ServesTask : (chosen : Task) (start : ℕ) → 8 ≤ length log → Decides h log task now until chosen start → IsSoonest h log start place.command place.clock → Advances chosen place.command log waiting later → next ≡ Some chosen → Turn h log task now until waiting place next later
  -- a task's own command: its banks are closed, and an RFM of one address is wanted
  EndsTask : (chosen : Task) (start : ℕ) → 8 ≤ length log → Decides h log task now until chosen start → IsSoonest h log start place.command place.clock → place.command ≡ command_of chosen → ((b : ℕ) → b < 32 → task_covers chosen b ≡ true → open_at b log ≡ None) → IsTrue (rule_10 h place.command log) → next ≡ None → later ≡ waiting → Turn h log task now until waiting place next later
  -- a command for a request, before anything is due; while an alert is raised it comes within the window
  ServesRequest : 8 ≤ length log → task ≡ None → (IsEcsDue h log → ⊥) → IsNothingDue h place.clock log → ((raised : ℕ) → alert h log ≡ Some raised → place.clock ≤ raised + h.timing.nabo) → IsSoonest h log now place.command place.clock → Serves place.command log waiting later → next ≡ None → Turn h log task now until waiting place next later
  -- the PREab after the last request, where a bank is open
  ClosesAtEnd : (b : ℕ) → 8 ≤ length log → task ≡ None → alert h log ≡ None → (IsEcsDue h log → ⊥) → IsNothingDue h (max now until) log → IsSoonest h log (max now until) place.command place.clock → place.command ≡ PreAb → b < 32 → (open_at b log ≡ None → ⊥) → waiting ≡ [] → next ≡ None → later ≡ [] → Turn h log task now until waiting place next later
