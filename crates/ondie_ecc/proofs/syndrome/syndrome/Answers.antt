use Rattle.std.proofs.Common.{◌≡◌, ◌*◌, ◌∙◌, ap, refl, sym, arith}
use Rattle.ondie_ecc.specs.Codeword.{syndrome_below, syndrome_of}
use Rattle.ondie_ecc.proofs.Bytes.{syndrome_byte}
use Rattle.ondie_ecc.proofs.syndrome.syndrome.Goals as goal

pub loop-index-init : goal.loop-index-init
unfolding syndrome_below
loop-index-init c = refl

pub loop-index-preserved : goal.loop-index-preserved
loop-index-preserved c =
    rw (c.loop-index.invariant, c.byte_syndrome-syndrome.ensures) (sym (syndrome_byte c.args.word.now c.loop-index.index))

pub returns : goal.returns
unfolding syndrome_of
returns c =
    let all : 8 * c.loop-index.index ≡ 136 = omega arith in
    c.loop-index.invariant ∙ ap (syndrome_below c.args.word.now) all
