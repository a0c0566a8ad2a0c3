use Rattle.std.proofs.Common.{◌≤◌, arith}
use Rattle.ondie_ecc.proofs.Shifts.{shifted, joined-fits}
use Rattle.ondie_ecc.proofs.codeword.join.Goals as goal

pub overflow_add-result : goal.overflow_add-result
overflow_add-result c =
    let near : c.args.count ≤ 7 = omega arith in
    rw (shifted c.args.high c.args.count near) (omega (arith, joined-fits c.run.result c.args.high c.args.count near c.run.ensures.below))

pub returns : goal.returns
returns c =
    let near : c.args.count ≤ 7 = omega arith in
    rw (shifted c.args.high c.args.count near, c.run.ensures.bits)
