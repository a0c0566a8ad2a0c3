use Rattle.std.proofs.Common.{◌≡◌, ℕ, ◌<◌, false}
use Rattle.rfm_counts.specs.Held.{is_high_at}
use Rattle.judged_logs.proofs.rolling.Rolling.is_wanted.Given as goal

abbrev pub invariant-loop-address : goal.invariant-loop-address
invariant-loop-address l = (other : ℕ) → other < l.address → is_high_at l.self other ≡ false
