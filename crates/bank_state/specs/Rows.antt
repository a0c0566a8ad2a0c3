-- The open rows of the banks, by their numbers.
use Rattle.std.specs.Prelude.{ℕ, List, Option, None, is_some, count_by, slice_index_or}

-- the open row of a bank
abbrev pub row_of : List (Option ℕ) → ℕ → Option ℕ
row_of rows b = slice_index_or rows b None

-- how many banks are open
abbrev pub open_count : List (Option ℕ) → ℕ
open_count rows = count_by (λ row. is_some row) rows
