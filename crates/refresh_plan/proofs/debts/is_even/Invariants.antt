use Rattle.std.proofs.Common.{ℕ, ◌+◌, ◌<◌, ◌≤◌, slice_index}
use Rattle.refresh_plan.proofs.debts.is_even.Given as goal

abbrev pub invariant-loop-count : goal.invariant-loop-count
invariant-loop-count l = (a : ℕ) → a < l.count-index → (b : ℕ) → b < 4 → slice_index l.counts a ≤ slice_index l.counts b + 1
