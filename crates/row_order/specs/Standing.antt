-- What a row order says of its list.
use Rattle.std.specs.Prelude.{◌≡◌, ℕ, ◌+◌, ◌<◌, nat_lt, if◌then◌else◌, List, [], ◌∷◌}
use Rattle.row_order.specs.Entries.{Entry, times, count_in, rows_with, IsEachBelow}
use Rattle.row_order.specs.Marks.{Marks, mark_of}
use Rattle.row_order.specs.Nodes.{Store, next_in, prev_in, level_in}
use Rattle.row_order.specs.Runs.{AreBuckets}

-- how many rows and levels there are, the nodes, and the levels whose buckets are not empty
pub record Held : Type 0 where
  pub rows : ℕ
  pub levels : ℕ
  pub store : Store
  pub used : Marks

-- what a place of a list that has none reads as: an order of no rows
abbrev pub no_order : Held
no_order = record { rows = 0; levels = 0; store = record { rows = 0; places = []; pool = []; ends = [] }; used = record { words = []; filled = 0 } }

-- 1 if there are rows, otherwise 0
abbrev pub some : List ℕ → ℕ
some [] = 0
some (r ∷ rs) = 1

pub record Keeps (it : Held) (es : List Entry) : Type 0 where
  pub once : (row : ℕ) → times row es ≡ (if nat_lt row it.rows then 1 else 0)
  pub below : IsEachBelow it.levels es
  pub counts : (row : ℕ) → row < it.rows → level_in it.store row ≡ count_in es row
  pub buckets : AreBuckets (λ k. next_in it.store k) (λ k. prev_in it.store k) it.rows it.levels es
  pub used : (level : ℕ) → level < 4096 → mark_of it.used level ≡ some (rows_with level es)

-- the row order stands for the list: each row stands in it once, with the count of its node; the bucket of each level
-- has the rows with that count in the order of the list. The order of rows with different counts is not kept.
unfoldable pub StandsFor : Held → List Entry → Type 0
StandsFor it es = Keeps it es

-- there is a list that it stands for
abbrev pub StandsForSome : Held → Type 0
StandsForSome it = ∥ ((es : List Entry) × StandsFor it es) ∥₁

-- one more change of the row can be counted: in a list that it stands for, the row's count has a level above it
pub record MayRaise (it : Held) (row : ℕ) : Type 0 where
  pub inside : row < it.rows
  pub below : ∥ ((es : List Entry) × (StandsFor it es) × (count_in es row + 1 < it.levels)) ∥₁
