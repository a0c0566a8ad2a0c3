use Rattle.std.proofs.Common.{ℕ, ◌+◌, ◌<◌, ◌≤◌, slice_index}
use Rattle.refresh_plan.proofs.debts.Plan.is_on_time.Given as goal

abbrev pub invariant-loop-count : goal.invariant-loop-count
invariant-loop-count l = (a : ℕ) → a < l.count-index → (l.passed ≤ slice_index l.counts a + 4) × (slice_index l.counts a ≤ l.passed + 4)
