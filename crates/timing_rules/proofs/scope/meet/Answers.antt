use Rattle.std.proofs.Common.{◌∙◌}
use Rattle.timing_rules.proofs.Meet.{meet_by_scopes}
use Rattle.timing_rules.proofs.scope.meet.Goals as goal

pub returns : goal.returns
returns c = c.overlap.ensures ∙ meet_by_scopes c.args.first.now c.args.second.now c.scope_of.result c.scope_of-2.result c.scope_of.ensures.in_range c.scope_of-2.ensures.in_range c.scope_of.ensures.covers c.scope_of-2.ensures.covers
