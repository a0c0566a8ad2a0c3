use Rattle.std.proofs.Common.{◌∙◌, arith}
use Rattle.std.proofs.lemmas.List.{length-set}
use Rattle.ddr_text.proofs.BytePairs.{pairs_step}
use Rattle.ddr_text.proofs.byte_digits.paired.Goals as goal

pub pairs-preserved : goal.pairs-preserved
pairs-preserved c =
    let i = c.pairs.invariant in
    let t = c.pairs-test.true in
    let l = i.long in
    record {
      long = length-set c.pairs.bytes c.pairs.k c.joined.result ∙ l;
      pairs = λ small. pairs_step c.args.values.now c.pairs.bytes c.pairs.k c.joined.result (omega (arith, t, l)) (omega (arith, t))
          small (i.pairs small) c.joined.ensures;
    }

pub returns : goal.returns
returns c = λ small j low. let t = c.pairs-test.false in c.pairs.invariant.pairs small j (omega (arith, t, low))
