use Rattle.std.proofs.Common.{◌∙◌, sym}
use Rattle.row_order.proofs.StandingLemmas.{level_is}
use Rattle.row_order.proofs.order.same_counts.Goals as goal

pub returns : goal.returns
returns c = λ it row list other low one two. sym (level_is it list row one low) ∙ level_is it other row two low
