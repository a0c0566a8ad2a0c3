-- The height of a number of rows.
use Rattle.std.specs.Prelude.{ℕ, zero, suc, ◌≤◌, ◌*◌, ◌^◌, Bool, nat_le, if◌then◌else◌}

-- the greatest number up to n at which the test holds, and 0 where there is none
abbrev pub greatest_upto : (ℕ → Bool) → ℕ → ℕ
greatest_upto test zero = 0
greatest_upto test (suc n) = if test (suc n) then suc n else greatest_upto test n

-- the greatest k with cycle ^ k <= rows * (cycle - 1) ^ k, where cycle is suc spare: with at most 65,536 rows and a
-- cycle of at most 5 it is below 64
unfoldable pub height_of : ℕ → ℕ → ℕ
height_of spare rows = greatest_upto (λ k. nat_le (suc spare ^ k) (rows * spare ^ k)) 64

-- the same in words: the greatest of all numbers k with cycle ^ k <= rows * (cycle - 1) ^ k
pub record IsHeight (spare rows height : ℕ) : Type 0 where
  pub meets : suc spare ^ height ≤ rows * spare ^ height
  pub greatest : (k : ℕ) → suc spare ^ k ≤ rows * spare ^ k → k ≤ height
