-- What the controller keeps for rules 6 to 8.
use Rattle.std.specs.Prelude.{ℕ, suc, ◌+◌, ◌*◌, ◌/◌, ◌%◌, ◌<◌, ◌≤◌, ◌≡◌, ◌⊎◌, true, false, Option, Some, None}
use Rattle.command_words.specs.declared.command.Command.{Command}
use Rattle.speed_bin.specs.Alert.{alert}
use Rattle.speed_bin.specs.Gap.{n_col}
use Rattle.command_words.specs.Kinds.{needs_closed}
use Rattle.speed_bin.specs.Log.{Log, open_at, refs, scrubs, last_clock}
use Rattle.speed_bin.specs.Rules.{MayFollow}
use Rattle.speed_bin.specs.declared.header.Header.{Header}
use Rattle.requests.specs.Owed.{owed_count}
use Rattle.deadlines.specs.Stages.{Stage}
use Rattle.deadlines.specs.Rounds.{Rounds, next_due, ecs_due, round, begun, per_task, limit, when}
use Rattle.deadlines.specs.declared.task.Task.{Task}
use Rattle.deadlines.specs.declared.task.Task.TheVariants.{RfmAll, Ecs, RefAll, RefSame, RfmSame}

-- it is the turn of this address to be refreshed: those before it were refreshed in this round
pub record IsTurnOf (address : ℕ) (log : Log) : Type 0 where
  pub inside : address < 4
  pub waits : refs address log ≡ refs 3 log
  pub earlier : (i : ℕ) → i < address → refs i log ≡ suc (refs 3 log)

-- the time of the tasks that may come beside this one before its round goes on
abbrev pub beside : Header → Task → ℕ
beside h RfmAll = per_task h
beside h Ecs = 2 * per_task h
beside h RefAll = 2 * per_task h
beside h (RefSame address) = 2 * per_task h
beside h (RfmSame address) = 3 * per_task h

-- all banks are closed and no alert is raised
pub record Quiet (h : Header) (log : Log) : Type 0 where
  pub shut : (b : ℕ) → b < 32 → open_at b log ≡ None
  pub calm : alert h log ≡ None

-- how far the controller is with what a round of refreshes needs, and that there is time for it
pub data Phase (h : Header) (log : Log) (task : Option Task) (now : ℕ) : Type 0 where
  -- between tasks: an alert may still come
  Busy : task ≡ None → last_clock log + owed_count log * n_col h.timing + when (ecs_due h log) (per_task h) + 2 * per_task h ≤ limit h log → Phase h log task now
  -- between tasks with all banks closed: what needs closed banks can follow at x
  Calm : task ≡ None → Quiet h log → (x : ℕ) → now ≤ x → ((c : Command) → needs_closed c ≡ true → MayFollow h.timing x c log) → x + when (ecs_due h log) h.timing.necs ≤ next_due h log + 2 * h.timing.nrefi + round log * h.timing.nrfcsb + when (begun log) h.timing.necs → Phase h log task now
  -- in a task, whose commands come at y at the latest, but for the columns that are owed
  Within : (own : Task) → task ≡ Some own → (y : ℕ) → Stage h own log now y → y + owed_count log * n_col h.timing + when (ecs_due h log) (per_task h) + beside h own ≤ limit h log + per_task h → Phase h log task now

-- what a task that is set rests on
pub data Ready (h : Header) (log : Log) (now : ℕ) (own : Task) : Type 0 where
  ForRefAll : own ≡ RefAll → ecs_due h log ≡ false → refs 0 log ≡ refs 3 log → next_due h log ≤ now → Ready h log now own
  ForRefSame : (address : ℕ) → own ≡ RefSame address → ecs_due h log ≡ false → IsTurnOf address log → next_due h log ≤ now → Ready h log now own
  ForEcs : own ≡ Ecs → ecs_due h log ≡ true → Ready h log now own
  ForRfmAll : own ≡ RfmAll → Ready h log now own
  ForRfmSame : (address : ℕ) → own ≡ RfmSame address → Ready h log now own

-- refreshes and ECS commands come in time, and none too early
pub record Timely (h : Header) (log : Log) (task : Option Task) (now : ℕ) : Type 0 where
  pub rounds : Rounds log
  -- no idle turn passes the clock at which a refresh is due
  pub fresh : (now ≤ last_clock log + 1) ⊎ (now ≤ next_due h log)
  -- a round begins when it is due, and no refresh comes early
  pub begins_late : (refs 0 log ≡ refs 3 log) ⊎ (next_due h log ≤ last_clock log)
  pub not_early : refs 0 log * h.timing.nrefi ≤ last_clock log
  -- a bank that was refreshed in this round is closed
  pub opened : (b : ℕ) → b < 32 → (open_at b log ≡ None → ⊥) → refs (b % 4) log ≡ refs 3 log
  -- the ECS commands keep step with the refreshes of address 0
  pub scrubbed : 1 ≤ h.settings.ecs_every → scrubs log ≤ refs 0 log / h.settings.ecs_every
  pub scrubs_soon : 1 ≤ h.settings.ecs_every → refs 0 log / h.settings.ecs_every ≤ suc (scrubs log)
  -- a task that is set has its cause, and there is time for it
  pub ready : (own : Task) → task ≡ Some own → Ready h log now own
  pub phase : Phase h log task now
