-- What contracts see of a row order: each row of the bank with its count, in the order of the last change, the oldest
-- change first.
use Rattle.std.specs.Prelude.{◌≡◌, ℕ, zero, suc, ◌<◌, ◌≤◌, nat_eq, if◌then◌else◌, List, [], ◌∷◌, ◌++◌}

pub record Entry : Type 0 where
  pub row : ℕ
  pub count : ℕ

-- n rows from this one on in rising order, with count 0
unfoldable pub rising_from : ℕ → ℕ → List Entry
rising_from row zero = []
rising_from row (suc n) = record { row = row; count = 0 } ∷ rising_from (suc row) n

abbrev pub rising : ℕ → List Entry
rising n = rising_from 0 n

-- how often the row stands in the list
abbrev pub times : ℕ → List Entry → ℕ
times row [] = 0
times row (e ∷ es) = if nat_eq e.row row then suc (times row es) else times row es

-- the count of the row
abbrev pub count_in : List Entry → ℕ → ℕ
count_in [] row = 0
count_in (e ∷ es) row = if nat_eq e.row row then e.count else count_in es row

-- the list without the entry of the row
abbrev pub without : ℕ → List Entry → List Entry
without row [] = []
without row (e ∷ es) = if nat_eq e.row row then es else e ∷ without row es

-- the list after a change of the row: it stands last, with this count
abbrev pub changed : ℕ → ℕ → List Entry → List Entry
changed row count es = without row es ++ record { row = row; count = count } ∷ []

-- the rows with this count, in the order of the list
abbrev pub rows_with : ℕ → List Entry → List ℕ
rows_with count [] = []
rows_with count (e ∷ es) = if nat_eq e.count count then e.row ∷ rows_with count es else rows_with count es

-- each count is below this one
abbrev pub IsEachBelow : ℕ → List Entry → Type 0
IsEachBelow count [] = Unit {0}
IsEachBelow count (e ∷ es) = (e.count < count) × IsEachBelow count es

-- none is greater than this one
abbrev pub IsNoneAbove : ℕ → List Entry → Type 0
IsNoneAbove count [] = Unit {0}
IsNoneAbove count (e ∷ es) = (e.count ≤ count) × IsNoneAbove count es

-- the first of the entries with the greatest count
pub record IsFirstGreatest (es : List Entry) (e : Entry) : Type 0 where
  pub before : List Entry
  pub after : List Entry
  pub splits : es ≡ before ++ e ∷ after
  pub lower : IsEachBelow e.count before
  pub none_above : IsNoneAbove e.count after
