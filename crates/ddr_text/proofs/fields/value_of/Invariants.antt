use Rattle.std.proofs.Common.{◌≡◌, ◌<◌, ◌^◌, drop}
use Rattle.ddr_text.specs.Fields.{value_of, value_from}
use Rattle.ddr_text.proofs.fields.value_of.Given as goal

-- what the value and the digits that are left make is what all digits make
abbrev pub invariant-loop-digit : goal.invariant-loop-digit
invariant-loop-digit l = record {
  same : value_from l.value (drop l.digit-index l.digits) ≡ value_of l.digits;
  fits : l.value < 2 ^ 64;
}
