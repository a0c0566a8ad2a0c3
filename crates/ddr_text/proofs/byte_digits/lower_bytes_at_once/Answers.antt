use Rattle.std.proofs.Common.{rules, ◌∙◌, sym, arith}
use Rattle.std.proofs.lemmas.List.{length-set}
use Rattle.ddr_text.proofs.BytePairs.{lower_step, values_small, values_step, read_lower}
use Rattle.ddr_text.proofs.byte_digits.lower_bytes_at_once.Goals as goal

pub digits-preserved : goal.digits-preserved
digits-preserved c =
    let i = c.digits.invariant in
    record {
      long = length-set c.digits.values c.digits.k c.lower_value_of.result ∙ i.long;
      values = values_step c.args.field.now c.digits.values c.digits.k c.lower_value_of.result c.digits.bad c.is_lower.result
          (let t = c.digits-test.true in let l = i.long in omega (arith, t, l))
          i.values (λ good. c.lower_value_of.ensures (sym c.is_lower.ensures ∙ good));
      lower = lower_step c.args.field.now c.digits.k c.digits.bad c.is_lower.result i.lower (λ good. sym c.is_lower.ensures ∙ good);
    }

pub returns : goal.returns
returns c =
    let values = c.digits.invariant.values c.if-bad.false in
    let all = c.digits-test.false in
    read_lower c.args.field.now c.digits.values c.paired.result c.digits.k (search rules) (search rules) all values (c.digits.invariant.lower c.if-bad.false)
    (c.paired.ensures (values_small c.args.field.now c.digits.values c.digits.k all values))
