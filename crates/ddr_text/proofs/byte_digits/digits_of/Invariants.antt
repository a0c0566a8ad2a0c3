use Rattle.std.proofs.Common.{◌≡◌, length}
use Rattle.ddr_text.proofs.DigitPairs.{AreDigits}
use Rattle.ddr_text.proofs.byte_digits.digits_of.Given as goal

abbrev pub invariant-bytes : goal.invariant-bytes
invariant-bytes l = (length l.digits ≡ 128) × AreDigits l.bytes l.digits l.k
