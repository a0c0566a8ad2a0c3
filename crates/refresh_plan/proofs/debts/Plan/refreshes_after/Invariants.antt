use Rattle.std.proofs.Common.{◌≡◌, ℕ, ◌+◌, ◌<◌, ◌≤◌, cond, length, slice_index}
use Rattle.command_words.specs.Kinds.{refreshes}
use Rattle.refresh_plan.proofs.debts.Plan.refreshes_after.Given as goal

abbrev pub invariant-loop-address : goal.invariant-loop-address
invariant-loop-address l = record {
  long : length l.counts ≡ length l.initial.counts;
  done : (a : ℕ) → a < l.address → slice_index l.counts a ≡ slice_index l.initial.counts a + cond (refreshes a l.command) 1 0;
  left : (a : ℕ) → l.address ≤ a → slice_index l.counts a ≡ slice_index l.initial.counts a;
}
