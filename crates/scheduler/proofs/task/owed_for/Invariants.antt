use Rattle.std.proofs.Common.{◌≡◌, ℕ, ◌<◌, length}
use Rattle.scheduler.specs.Choice.{is_asked}
use Rattle.scheduler.specs.Task.{is_asked_for}
use Rattle.scheduler.proofs.task.owed_for.Given as goal

abbrev pub invariant-loop-number : goal.invariant-loop-number
invariant-loop-number l = record {
  long : length l.asked ≡ 32;
  done : (b : ℕ) → b < l.number → is_asked l.asked b ≡ is_asked_for l.task l.owed b;
}
