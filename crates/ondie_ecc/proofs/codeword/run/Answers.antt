use Rattle.std.proofs.Common.{◌/◌, ◌^◌, arith}
use Rattle.ondie_ecc.proofs.Shifts.{masked, masked-below}
use Rattle.ondie_ecc.proofs.codeword.run.Goals as goal

pub returns-clause-bits : goal.returns-clause-bits
returns-clause-bits c = masked (c.args.byte / 2 ^ c.args.from) c.args.count (omega arith) (omega arith)

pub returns-clause-below : goal.returns-clause-below
returns-clause-below c = masked-below (c.args.byte / 2 ^ c.args.from) c.args.count (omega arith) (omega arith)
