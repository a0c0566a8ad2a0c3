use Rattle.std.proofs.Common.{arith}
use Rattle.ddr_text.proofs.EachByte.{digit-is}
use Rattle.ddr_text.proofs.byte_digits.is_digit.Goals as goal

pub returns : goal.returns
returns c = digit-is c.args.byte (omega (arith, c.ranges.byte.fits))
