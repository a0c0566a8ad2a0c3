use Rattle.std.proofs.Common.{rules}
use Rattle.ddr_text.proofs.DigitPairs.{spelled_all}
use Rattle.ddr_text.proofs.byte_digits.digits_of.Goals as goal

pub returns : goal.returns
returns c = spelled_all c.args.bytes.now c.bytes.digits c.bytes.k (search rules) c.bytes.invariant.0 c.bytes-test.false c.bytes.invariant.1
