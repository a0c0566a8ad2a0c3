use Rattle.std.proofs.Common.{◌∙◌, max, sym, ap}
use Rattle.timing_rules.specs.Blocks.{floor_block}
use Rattle.timing_rules.specs.Reach.{reach}
use Rattle.timing_rules.proofs.GapReaches.{pre_reach}
use Rattle.timing_rules.proofs.clocks.Clocks.to_precharge.Goals as goal

pub returns : goal.returns
returns c = λ t log s.
    let self = c.args.self.now in
    c.max.ensures
    ∙ ap (λ n. max n c.in_bank.result) s.floor
    ∙ ap (λ n. max (reach (floor_block self.timing) log) n) (c.in_bank.ensures.entry ∙ s.precharges.each _ c.in_bank.ensures.in_range)
    ∙ sym (pre_reach self.timing c.args.bank log c.in_bank.ensures.in_range)
