use Rattle.std.proofs.Common.{◌∙◌, ◌+◌, ◌&&◌}
use Rattle.command_words.specs.Kinds.{is_rd, is_wr, is_precharge}
use Rattle.timing_rules.proofs.Table.{wr_gap, chain_5, entry}
use Rattle.timing_rules.proofs.gaps.after_wr.Goals as goal

pub returns-clause-gap : goal.returns-clause-gap
returns-clause-gap c = λ bank column same together.
    let t = c.args.timing.now in
    let second = c.args.second.now in
    let chain = chain_5 (entry (is_wr second) (t.nccd_s)) (entry (is_wr second && c.args.same_group) (t.nccd_l_wr)) (entry (is_rd second) (t.ncwl + 8 + t.nwtr_s)) (entry (is_rd second && c.args.same_group) (t.ncwl + 8 + t.nwtr_l)) (entry (is_precharge second && c.args.together) (t.ncwl + 8 + t.nwr)) in
    (cc) ∙ wr_gap t bank column second c.args.same_group c.args.together same together
