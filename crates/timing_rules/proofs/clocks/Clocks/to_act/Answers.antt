use Rattle.std.proofs.Common.{◌∙◌, sym}
use Rattle.timing_rules.proofs.GapReaches.{act_reach, four_kept}
use Rattle.timing_rules.proofs.clocks.Clocks.to_act.Goals as goal

pub returns : goal.returns
returns c = λ t log s row.
    let self = c.args.self.now in
    four_kept self.floor self.act c.in_group.result c.in_bank.result c.max-there.result c.max.result c.max-2.result _ _ _ _
    c.max-there.ensures c.max.ensures c.max-2.ensures s.floor s.act
    (c.in_group.ensures.entry ∙ s.act_groups.each c.args.bank.group c.in_group.ensures.in_range)
    (c.in_bank.ensures.entry ∙ s.act_banks.each _ c.in_bank.ensures.in_range)
    ∙ sym (act_reach self.timing c.args.bank row log c.in_bank.ensures.in_range)
