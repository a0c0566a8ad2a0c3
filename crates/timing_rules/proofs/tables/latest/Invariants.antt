use Rattle.std.proofs.Common.{◌≡◌, if◌then◌else◌, slice_index}
use Rattle.timing_rules.specs.Reach.{most_below}
use Rattle.timing_rules.specs.Scope.{is_within}
use Rattle.timing_rules.proofs.tables.latest.Given as goal

abbrev pub invariant-banks : goal.invariant-banks
invariant-banks l = l.most ≡ most_below l.b (λ b. if is_within l.scope b then slice_index l.table b else 0)
