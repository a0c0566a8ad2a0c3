-- Which banks a task asks for their columns.
use Rattle.std.specs.Prelude.{ℕ, Bool, ◌&&◌, List}
use Rattle.deadlines.specs.Tasks.{task_covers}
use Rattle.deadlines.specs.declared.task.Task.{Task}
use Rattle.scheduler.specs.Ledger.{owes}

-- the bank is owed, and the task covers it
abbrev pub is_asked_for : Task → List Bool → ℕ → Bool
is_asked_for task banks b = owes banks b && task_covers task b
