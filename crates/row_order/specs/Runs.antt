-- Links that agree in both directions along a list of numbers.
use Rattle.std.specs.Prelude.{◌≡◌, ℕ, ◌+◌, ◌-◌, ◌<◌, nat_eq, nat_lt, nat_le, if◌then◌else◌, List, [], ◌∷◌}
use Rattle.row_order.specs.Entries.{Entry, rows_with}

-- from a through the members of the list to z, each followed by the next, and the next preceded by it
abbrev pub IsRun : (ℕ → ℕ) → (ℕ → ℕ) → ℕ → List ℕ → ℕ → Type 0
IsRun nx pv a [] z = (nx a ≡ z) × (pv z ≡ a)
IsRun nx pv a (r ∷ rs) z = (nx a ≡ r) × (pv r ≡ a) × IsRun nx pv r rs z

-- k is none of the members
abbrev pub IsOutside : ℕ → List ℕ → Type 0
IsOutside k [] = Unit {0}
IsOutside k (r ∷ rs) = ¬ (r ≡ k) × IsOutside k rs

-- each member is below n
abbrev pub IsBelow : ℕ → List ℕ → Type 0
IsBelow n [] = Unit {0}
IsBelow n (r ∷ rs) = (r < n) × IsBelow n rs

-- the bucket of each level is the ring from its end through the rows with this count, in the order of the list
abbrev pub AreBuckets : (ℕ → ℕ) → (ℕ → ℕ) → ℕ → ℕ → List Entry → Type 0
AreBuckets nx pv rows levels es = (level : ℕ) → level < levels → IsRun nx pv (rows + level) (rows_with level es) (rows + level)

-- the links at the start: the rows in rising order in the bucket of level 0, whose end has the number `rows`, and the
-- other buckets empty
abbrev pub first_next : ℕ → ℕ → ℕ
first_next rows k = if nat_lt k rows then k + 1 else if nat_eq k rows then 0 else k

abbrev pub first_prev : ℕ → ℕ → ℕ
first_prev rows k = if nat_eq k 0 then rows else if nat_le k rows then k - 1 else k
