use Rattle.std.proofs.Common.{rules, ◌∙◌, sym, arith}
use Rattle.std.proofs.lemmas.List.{length-set}
use Rattle.ddr_text.proofs.BytePairs.{values_small, values_step, read_whole}
use Rattle.ddr_text.proofs.byte_digits.bytes_at_once.Goals as goal

pub digits-preserved : goal.digits-preserved
digits-preserved c =
    let i = c.digits.invariant in
    record {
      long = length-set c.digits.values c.digits.k c.value_of.result ∙ i.long;
      values = values_step c.args.field.now c.digits.values c.digits.k c.value_of.result c.digits.bad c.is_digit.result
          (let t = c.digits-test.true in let l = i.long in omega (arith, t, l))
          i.values (λ good. c.value_of.ensures (sym c.is_digit.ensures ∙ good));
    }

pub returns : goal.returns
returns c =
    let values = c.digits.invariant.values c.if-bad.false in
    let all = c.digits-test.false in
    read_whole c.args.field.now c.digits.values c.paired.result c.digits.k (search rules) (search rules) all values
    (c.paired.ensures (values_small c.args.field.now c.digits.values c.digits.k all values))
