-- A set of levels as bits.
use Rattle.std.specs.Prelude.{◌≡◌, ℕ, ◌<◌, ◌/◌, ◌%◌, nat_lt, if◌then◌else◌, List, length, slice_index}
use Rattle.std.specs.Int.{bit_at}

-- 64 words of 64 bits, and a bit for each word: whether it has a bit
pub record Marks : Type 0 where
  pub words : List ℕ
  pub filled : ℕ

-- the bit of a level: 1 if it is in the set, otherwise 0
unfoldable pub mark_of : Marks → ℕ → ℕ
mark_of it level = bit_at (slice_index it.words (level / 64)) (level % 64)

pub record IsMarks (it : Marks) : Type 0 where
  pub long : length it.words ≡ 64
  pub filled : (k : ℕ) → k < 64 → bit_at it.filled k ≡ (if nat_lt 0 (slice_index it.words k) then 1 else 0)
