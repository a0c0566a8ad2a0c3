use Rattle.std.proofs.Common.{◌≡◌, ◌<◌, ℕ, length, slice_index}
use Rattle.ddr_text.specs.ByteDigits.{ArePairs}
use Rattle.ddr_text.proofs.byte_digits.paired.Given as goal

abbrev pub invariant-pairs : goal.invariant-pairs
invariant-pairs l = record {
  long : length l.bytes ≡ 64;
  pairs : ((j : ℕ) → j < 128 → slice_index l.values j < 16) → ArePairs l.values l.bytes l.k;
}
