use Rattle.std.proofs.Common.{◌∙◌}
use Rattle.timing_rules.proofs.Table.{bank_gap, address_gap, all_gap}
use Rattle.timing_rules.proofs.gaps.after_precharge.Goals as goal

pub returns-clause-bank : goal.returns-clause-bank
returns-clause-bank c = λ bank together. (cc) ∙ bank_gap c.args.timing.now bank c.args.second.now c.args.together together

pub returns-clause-address : goal.returns-clause-address
returns-clause-address c = λ address together. (cc) ∙ address_gap c.args.timing.now address c.args.second.now c.args.together together

pub returns-clause-all : goal.returns-clause-all
returns-clause-all c = λ together. (cc) ∙ all_gap c.args.timing.now c.args.second.now c.args.together together
