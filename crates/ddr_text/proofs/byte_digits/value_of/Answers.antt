use Rattle.std.proofs.Common.{arith}
use Rattle.ddr_text.proofs.EachByte.{letter-is}
use Rattle.ddr_text.proofs.byte_digits.value_of.Goals as goal

pub returns-else-digit-lt10 : goal.returns-else-digit-lt10
returns-else-digit-lt10 c = letter-is c.args.byte (omega (arith, c.ranges.byte.fits)) c.if-digit-lt10.false
