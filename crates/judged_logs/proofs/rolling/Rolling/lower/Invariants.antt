use Rattle.std.proofs.Common.{◌≡◌, ℕ, ◌<◌, ◌≤◌, length, slice_index}
use Rattle.rfm_counts.specs.Held.{lowered}
use Rattle.judged_logs.proofs.rolling.Rolling.lower.Given as goal

abbrev pub invariant-loop-number : goal.invariant-loop-number
invariant-loop-number l = record {
  kept : l.address ≡ l.initial.address;
  raaimt : l.self-inside.raaimt ≡ l.initial.self-inside.raaimt;
  raammt : l.self-inside.raammt ≡ l.initial.self-inside.raammt;
  banks : length l.self-inside.counts ≡ length l.initial.self-inside.counts;
  done : (b : ℕ) → b < l.number → slice_index l.self-inside.counts b ≡ lowered l.address l.by b (slice_index l.initial.self-inside.counts b);
  left : (b : ℕ) → l.number ≤ b → slice_index l.self-inside.counts b ≡ slice_index l.initial.self-inside.counts b;
}
