-- A turn in numbers. `Turn` speaks of debts, as the plan of the refreshes does; here what is due are numbers that are
-- counted from the log.
use Rattle.std.specs.Prelude.{ℕ, ◌+◌, ◌*◌, ◌<◌, ◌≤◌, ◌≡◌, ◌⊎◌, true, false, ◌||◌, ◌++◌, List, ◌∷◌, length, Option, Some, None, max}
use Rattle.command_words.specs.Command.{bank_number, covers}
use Rattle.command_words.specs.declared.place.Bank.{Bank}
use Rattle.command_words.specs.declared.command.Command.{Command}
use Rattle.command_words.specs.declared.command.Command.TheVariants.{Act, PreAb}
use Rattle.speed_bin.specs.Alert.{alert}
use Rattle.speed_bin.specs.Gap.{n_max, n_close, n_tail}
use Rattle.command_words.specs.Kinds.{Closes, effect, is_act, is_precharge, is_mrw, is_nop}
use Rattle.speed_bin.specs.Log.{Issued, Log, open_at, refs}
use Rattle.speed_bin.specs.declared.header.Header.{Header}
use Rattle.requests.specs.Choice.{IsSoonest}
use Rattle.requests.specs.Owed.{is_column, owed}
use Rattle.deadlines.specs.Tasks.{task_covers, command_of}
use Rattle.deadlines.specs.Rounds.{next_due, ecs_due}
use Rattle.deadlines.specs.Timely.{IsTurnOf}
use Rattle.deadlines.specs.Turns.{has_request}
use Rattle.deadlines.specs.declared.task.Task.{Task}
use Rattle.deadlines.specs.declared.task.Task.TheVariants.{RfmAll, Ecs, RefAll, RefSame, RfmSame}

-- what the deadlines need of an accepted header
pub record Slack (h : Header) : Type 0 where
  pub some_nrp : 1 ≤ h.timing.nrp
  pub some_nrfc : 1 ≤ h.timing.nrfc
  pub some_nrfcsb : 1 ≤ h.timing.nrfcsb
  pub some_necs : 1 ≤ h.timing.necs
  pub fifth : n_tail h.timing + h.timing.nabo + 12 * (n_max h.timing + n_close h.timing) ≤ 2 * h.timing.nrefi
  pub sixth : 2 * (max h.timing.nrfc (4 * h.timing.nrfcsb) + 5 * h.timing.nrp + h.timing.necs) ≤ h.timing.nrefi

-- one command for a task. A precharge covers an open bank and shuts all banks of the task.
pub data Advances (h : Header) (task : Task) (log : Log) (now : ℕ) (place : Issued) : Type 0 where
  Column : (b : ℕ) → b < 32 → is_column place.command ≡ true → covers place.command b ≡ true → owed b log ≡ true → task_covers task b ≡ true → Advances h task log now place
  Shut : (b : ℕ) → b < 32 → is_precharge place.command ≡ true → task_covers task b ≡ true → (open_at b log ≡ None → ⊥) → ((i : ℕ) → task_covers task i ≡ true → effect i place.command ≡ Closes) → Advances h task log now place

-- the task that a turn finds or sets, and the clock from which its command is issued
pub data Decides (h : Header) (log : Log) (task : Option Task) (now : ℕ) (chosen : Task) (start : ℕ) : Type 0 where
  Backs_off : (a : ℕ) → alert h log ≡ Some a → chosen ≡ RfmAll → start ≡ now → Decides h log task now chosen start
  Goes_on : alert h log ≡ None → task ≡ Some chosen → start ≡ now → Decides h log task now chosen start
  Scrubs : alert h log ≡ None → task ≡ None → ecs_due h log ≡ true → chosen ≡ Ecs → start ≡ now → Decides h log task now chosen start
  Refreshes_all : alert h log ≡ None → task ≡ None → ecs_due h log ≡ false → chosen ≡ RefAll → refs 0 log ≡ refs 3 log → start ≡ max now (next_due h log) → Decides h log task now chosen start
  Refreshes_same : (address : ℕ) → alert h log ≡ None → task ≡ None → ecs_due h log ≡ false → chosen ≡ RefSame address → IsTurnOf address log → start ≡ max now (next_due h log) → Decides h log task now chosen start
  Manages_same : (address : ℕ) → alert h log ≡ None → task ≡ None → ecs_due h log ≡ false → now < next_due h log → chosen ≡ RfmSame address → start ≡ now → Decides h log task now chosen start

-- the place that a turn issues
pub data Issues (h : Header) (log : Log) (task : Option Task) (now : ℕ) (place : Issued) (next : Option Task) : Type 0 where
  -- a register write
  Writes : is_mrw place.command ≡ true → length log < 8 → alert h log ≡ None → task ≡ None → next ≡ None → place.clock ≤ next_due h log → IsSoonest h log now place.command place.clock → Issues h log task now place next
  -- a command for a task, which then goes on
  Serves : (chosen : Task) (start : ℕ) → Decides h log task now chosen start → IsSoonest h log start place.command place.clock → Advances h chosen log start place → next ≡ Some chosen → Issues h log task now place next
  -- a task's own command
  Ends : (chosen : Task) (start : ℕ) → Decides h log task now chosen start → IsSoonest h log start place.command place.clock → place.command ≡ command_of chosen → ((b : ℕ) → b < 32 → task_covers chosen b ≡ true → open_at b log ≡ None) → next ≡ None → Issues h log task now place next
  -- a column, an ACT or a PREpb for a request, before a refresh is due
  Freely : task ≡ None → next ≡ None → ecs_due h log ≡ false → place.clock < next_due h log → ((a : ℕ) → alert h log ≡ Some a → place.clock ≤ a + h.timing.nabo) → (is_act place.command || (is_column place.command || is_precharge place.command)) ≡ true → IsSoonest h log now place.command place.clock → Issues h log task now place next
  -- the PREab after the last request
  Finally : (start : ℕ) → task ≡ None → next ≡ None → alert h log ≡ None → ecs_due h log ≡ false → now ≤ start → start < next_due h log → place.command ≡ PreAb → IsSoonest h log start place.command place.clock → Issues h log task now place next

-- the clock from which a turn's command is issued: now, or where a refresh is due at e0 the later of now and next_due, or
-- after the last request the later of now and the idle target; e0 is the later of now and the idle target, or the
-- soonest clock of a candidate
pub data Reaches (h : Header) (log : Log) (now until start : ℕ) : Type 0 where
  Now : start ≡ now → Reaches h log now until start
  Due : (e0 : ℕ) (c : Command) → start ≡ max now (next_due h log) → next_due h log ≤ e0 → (e0 ≡ max now until) ⊎ IsSoonest h log now c e0 → Reaches h log now until start
  Target : start ≡ max now until → Reaches h log now until start

-- what a turn does to the banks of the waiting requests: a column takes one away, of its own bank
pub record Queued (place : Issued) (waiting later : List ℕ) : Type 0 where
  pub column : is_column place.command ≡ true → (k : ℕ) × (before after : List ℕ) × (waiting ≡ before ++ (k ∷ after)) × (later ≡ before ++ after) × (covers place.command k ≡ true)
  pub other : is_column place.command ≡ false → later ≡ waiting
  pub act : (bank : Bank) (row : ℕ) → place.command ≡ Act bank row → has_request waiting (bank_number bank) ≡ true
  pub no_nop : is_nop place.command ≡ false
