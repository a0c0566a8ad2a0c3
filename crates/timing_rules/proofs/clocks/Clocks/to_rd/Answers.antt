use Rattle.std.proofs.Common.{◌∙◌, sym}
use Rattle.timing_rules.proofs.GapReaches.{rd_reach, four_kept}
use Rattle.timing_rules.proofs.clocks.Clocks.to_rd.Goals as goal

pub returns : goal.returns
returns c = λ t log s column.
    let self = c.args.self.now in
    four_kept self.floor self.rd c.in_group.result c.in_bank.result c.max-there.result c.max.result c.max-2.result _ _ _ _
    c.max-there.ensures c.max.ensures c.max-2.ensures s.floor s.rd
    (c.in_group.ensures.entry ∙ s.rd_groups.each c.args.bank.group c.in_group.ensures.in_range)
    (c.in_bank.ensures.entry ∙ s.columns.each _ c.in_bank.ensures.in_range)
    ∙ sym (rd_reach self.timing c.args.bank column log c.in_bank.ensures.in_range)
