use Rattle.std.proofs.Common.{◌/◌, arith}
use Rattle.ondie_ecc.proofs.Bytes.{moved-byte, top_fits}
use Rattle.ondie_ecc.proofs.syndrome.byte_syndrome.Goals as goal

pub overflow_mul-result-4 : goal.overflow_mul-result-4
overflow_mul-result-4 c = omega (arith, top_fits (c.positions_of-positions.result / 16) c.args.index (omega arith) (omega arith))

pub returns : goal.returns
returns c = rw c.positions_of-positions.ensures.positions (moved-byte c.args.index c.args.byte (omega arith) (omega arith))
