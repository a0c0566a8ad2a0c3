use Rattle.std.proofs.Common.{◌∙◌, ◌&&◌, ◌||◌}
use Rattle.command_words.specs.Kinds.{is_act, is_rd, is_wr, is_precharge}
use Rattle.timing_rules.proofs.Table.{act_gap, chain_5, entry}
use Rattle.timing_rules.proofs.gaps.after_act.Goals as goal

pub returns-clause-gap : goal.returns-clause-gap
returns-clause-gap c = λ bank row same together.
    let t = c.args.timing.now in
    let second = c.args.second.now in
    let chain = chain_5 (entry (is_act second) (t.nrrd_s)) (entry (is_act second && c.args.same_group) (t.nrrd_l)) (entry (is_act second && c.args.together) (t.nrc)) (entry ((is_rd second || is_wr second) && c.args.together) (t.nrcd)) (entry (is_precharge second && c.args.together) (t.nras)) in
    (cc) ∙ act_gap t bank row second c.args.same_group c.args.together same together
