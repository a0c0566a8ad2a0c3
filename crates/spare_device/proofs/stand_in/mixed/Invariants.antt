use Rattle.std.proofs.Common.{◌≡◌, ◌<◌, ◌≤◌, ℕ, length, get_or}
use Rattle.std.specs.Prelude.{bit_xor}
use Rattle.spare_device.proofs.stand_in.mixed.Given as goal

abbrev pub invariant-places : goal.invariant-places
invariant-places l = record {
  counted : length l.both ≡ 16;
  done : (k : ℕ) → k < l.i → get_or l.both k 0 ≡ bit_xor (get_or l.one k 0) (get_or l.other k 0);
  left : (k : ℕ) → l.i ≤ k → get_or l.both k 0 ≡ get_or l.one k 0;
}
