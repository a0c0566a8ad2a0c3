-- What contracts see of a bank's row counters.
use Rattle.std.specs.Prelude.{◌≡◌, ℕ, ◌+◌, ◌<◌, ◌≤◌, ◌^◌, List}
use Rattle.row_order.specs.Entries.{Entry, count_in}
use Rattle.row_order.specs.Standing.{Held as Order, no_order, StandsFor as OrderStandsFor}

-- the two thresholds, the rows with their counts in the order of their last change, and how many closings and
-- mitigations there were
pub record Held : Type 0 where
  pub ath : ℕ
  pub eth : ℕ
  pub order : Order
  pub changes : ℕ

-- the row is one of the bank's
abbrev pub HasRow : Held → ℕ → Type 0
HasRow it row = row < it.order.rows

-- one more closing of the row can be counted: it is one of the bank's, and there is a level above its count
pub record MayClose (it : Held) (row : ℕ) : Type 0 where
  pub inside : row < it.order.rows
  pub below : ∥ ((es : List Entry) × (OrderStandsFor it.order es) × (count_in es row + 1 < it.order.levels)) ∥₁
  pub changes : it.changes < 2 ^ 48

-- one more mitigation can be counted
abbrev pub MayMitigate : Held → Type 0
MayMitigate it = it.changes < 2 ^ 48

-- what a place of a list that has none reads as: counters of no row
abbrev pub no_rows : Held
no_rows = record {
  ath = 0;
  eth = 0;
  order = no_order;
  changes = 0;
}

-- what a change of a row leaves: the thresholds, the rows, and one change more
pub record IsOneMore (it new : Held) : Type 0 where
  pub ath : new.ath ≡ it.ath
  pub eth : new.eth ≡ it.eth
  pub rows : new.order.rows ≡ it.order.rows
  pub levels : new.order.levels ≡ it.order.levels
  pub changes : new.changes ≡ it.changes + 1

-- the rows are 1 to 65,536, and ATH is at most 1,023
pub record IsBank (it : Held) : Type 0 where
  pub rows : (1 ≤ it.order.rows) × (it.order.rows ≤ 65536)
  pub ath : it.ath ≤ 1023
