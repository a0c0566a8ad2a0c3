use Rattle.std.proofs.Common.{◌≡◌, ◌<◌, ℕ, false}
use Rattle.row_activity.specs.Standing.{bank_at}
use Rattle.row_activity.proofs.activity.Activity.is_hot.Given as goal

abbrev pub invariant-loop-number : goal.invariant-loop-number
invariant-loop-number l = (b : ℕ) → b < l.number → (bank_at l.self.banks.items b).is_hot ≡ false
