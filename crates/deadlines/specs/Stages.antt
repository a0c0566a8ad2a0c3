-- How far a task is from its own command.
use Rattle.std.specs.Prelude.{ℕ, ◌+◌, ◌<◌, ◌≤◌, ◌≡◌, true, None}
use Rattle.command_words.specs.declared.command.Command.{Command}
use Rattle.command_words.specs.Kinds.{is_precharge, needs_closed}
use Rattle.speed_bin.specs.Log.{Log, open_at}
use Rattle.speed_bin.specs.Rules.{MayFollow}
use Rattle.speed_bin.specs.declared.header.Header.{Header}
use Rattle.requests.specs.Owed.{is_column}
use Rattle.deadlines.specs.Blocking.{n_pre}
use Rattle.deadlines.specs.Tasks.{task_covers}
use Rattle.deadlines.specs.declared.task.Task.{Task}

-- all that a task needs can follow: its columns at x, then its precharge, then its own command
pub record Closing (h : Header) (log : Log) (now x : ℕ) : Type 0 where
  pub by_now : now ≤ x
  pub columns : (c : Command) → is_column c ≡ true → MayFollow h.timing x c log
  pub precharges : (c : Command) → is_precharge c ≡ true → MayFollow h.timing (x + n_pre h.timing) c log
  pub closers : (c : Command) → needs_closed c ≡ true → MayFollow h.timing (x + n_pre h.timing + h.timing.nrp) c log

-- its banks are closed, and its own command can follow at y
pub record Closed (h : Header) (task : Task) (log : Log) (now y : ℕ) : Type 0 where
  pub by_now : now ≤ y
  pub shut : (b : ℕ) → b < 32 → task_covers task b ≡ true → open_at b log ≡ None
  pub closers : (c : Command) → needs_closed c ≡ true → MayFollow h.timing y c log

-- but for the columns that are owed, the task's commands come at y at the latest
pub data Stage (h : Header) (task : Task) (log : Log) (now y : ℕ) : Type 0 where
  Before : (x : ℕ) → Closing h log now x → x + n_pre h.timing + h.timing.nrp ≤ y → Stage h task log now y
  After : Closed h task log now y → Stage h task log now y
