use Rattle.std.proofs.Common.{sym, ◌∙◌, ap, arith, drop, get_or, ◌+◌}
use Rattle.std.proofs.lemmas.List.{drop_all, drop_more}
use Rattle.ddr_text.specs.Fields.{value_from}
use Rattle.ddr_text.proofs.Values.{value_ends, value_whole}
use Rattle.ddr_text.proofs.fields.value_of.Goals as goal

pub returns : goal.returns
returns c =
    sym (value_whole c.loop-digit.value (omega arith))
    ∙ ap (value_from c.loop-digit.value) (sym (drop_all c.loop-digit.digit-index c.args.digits.now (omega arith)))
    ∙ c.loop-digit.invariant.same

pub returns-in-None : goal.returns-in-None
returns-in-None c =
    let at = c.loop-digit.digit-index in
    let digits = c.args.digits.now in
    sym (value_ends c.loop-digit.value (get_or digits at 0) (drop (at + 1) digits) (sym c.with_digit.ensures.value ∙ c.in-None.is))
    ∙ ap (value_from c.loop-digit.value) (sym (drop_more digits at 0 (omega arith)))
    ∙ c.loop-digit.invariant.same
