use Rattle.std.proofs.Common.{arith}
use Rattle.ondie_ecc.proofs.Shifts.{seven-shifted, seven-fits}
use Rattle.ondie_ecc.proofs.codeword.seven.Goals as goal

pub overflow_add-result : goal.overflow_add-result
overflow_add-result c =
    rw (c.run-2.ensures.bits, seven-shifted c.args.high c.args.from (omega arith) (omega arith))
    (omega (arith, seven-fits c.run.result c.args.high c.args.from (omega arith) (omega arith) c.run.ensures.below))

pub returns-clause-bits : goal.returns-clause-bits
returns-clause-bits c =
    rw (c.run-2.ensures.bits, seven-shifted c.args.high c.args.from (omega arith) (omega arith), c.run.ensures.bits)

pub returns-clause-below : goal.returns-clause-below
returns-clause-below c =
    rw (c.run-2.ensures.bits, seven-shifted c.args.high c.args.from (omega arith) (omega arith))
    (seven-fits c.run.result c.args.high c.args.from (omega arith) (omega arith) c.run.ensures.below)
