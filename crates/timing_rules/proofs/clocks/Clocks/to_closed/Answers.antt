use Rattle.std.proofs.Common.{◌∙◌, max, ap}
use Rattle.timing_rules.specs.Blocks.{floor_block}
use Rattle.timing_rules.specs.Reach.{reach}
use Rattle.timing_rules.proofs.GapReaches.{closed_reach}
use Rattle.timing_rules.proofs.clocks.Clocks.to_closed.Goals as goal

pub returns : goal.returns
returns c = λ t log s second kind same.
    let self = c.args.self.now in
    c.max.ensures
    ∙ ap (λ n. max n c.latest.result) s.floor
    ∙ ap (λ n. max (reach (floor_block self.timing) log) n) c.latest.ensures
    ∙ closed_reach self.timing second c.args.scope self.closed log kind same s.closed
