use Rattle.std.proofs.Common.{ℕ, ◌+◌, ◌<◌, ◌≤◌, slice_index}
use Rattle.refresh_plan.proofs.debts.is_close_to_all.Given as goal

abbrev pub invariant-loop-other : goal.invariant-loop-other
invariant-loop-other l = (b : ℕ) → b < l.other-index → l.count ≤ slice_index l.counts b + 1
