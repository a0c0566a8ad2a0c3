use Rattle.row_order.proofs.MarkLemmas.{is_empty_set, no_mark}
use Rattle.row_order.proofs.levels.LevelSet.new.Goals as goal

pub invariant_of-result : goal.invariant_of-result
invariant_of-result c = is_empty_set

pub returns : goal.returns
returns c = no_mark
