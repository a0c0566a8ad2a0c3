use Rattle.std.proofs.Common.{◌≡◌, false, length}
use Rattle.ddr_text.specs.ByteDigits.{HaveValues}
use Rattle.ddr_text.proofs.byte_digits.bytes_at_once.Given as goal

-- where no digit was bad, each has its value
abbrev pub invariant-digits : goal.invariant-digits
invariant-digits l = record {
  long : length l.values ≡ 128;
  values : l.bad ≡ false → HaveValues l.field l.values l.k;
}
