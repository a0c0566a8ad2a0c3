use Rattle.std.proofs.Common.{[], rules}
use Rattle.trace_replay.specs.Coupled.{StandsFor}
use Rattle.trace_replay.proofs.coupled.Coupled.new.Goals as goal

pub invariant_of-result : goal.invariant_of-result
unfolding StandsFor
invariant_of-result c = ∣ (c.args.header.now, [], 0, [], search rules) ∣₁
