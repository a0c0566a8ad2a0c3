use Rattle.std.proofs.Common.{ℕ, ◌<◌, ◌≤◌, slice_index}
use Rattle.refresh_plan.proofs.debts.Plan.most_behind.Given as goal

abbrev pub invariant-loop-address : goal.invariant-loop-address
invariant-loop-address l = record {
  in_range : l.best < l.address;
  fewest : (other : ℕ) → other < l.address → slice_index l.self-inside.refreshes l.best ≤ slice_index l.self-inside.refreshes other;
  first : (other : ℕ) → other < l.best → slice_index l.self-inside.refreshes l.best < slice_index l.self-inside.refreshes other;
}
