use Rattle.std.proofs.Common.{◌∙◌, ◌+◌, ◌-◌, ◌&&◌}
use Rattle.command_words.specs.Kinds.{is_rd, is_wr, is_precharge}
use Rattle.timing_rules.proofs.Table.{rd_gap, chain_4, entry}
use Rattle.timing_rules.proofs.gaps.after_rd.Goals as goal

pub returns-clause-gap : goal.returns-clause-gap
returns-clause-gap c = λ bank column same together.
    let t = c.args.timing.now in
    let second = c.args.second.now in
    let chain = chain_4 (entry (is_rd second) (t.nccd_s)) (entry (is_rd second && c.args.same_group) (t.nccd_l)) (entry (is_wr second) (t.ncl + 10 - t.ncwl)) (entry (is_precharge second && c.args.together) (t.nrtp)) in
    (cc) ∙ rd_gap t bank column second c.args.same_group c.args.together same together
