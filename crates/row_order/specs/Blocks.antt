-- Nodes of rows that are made when a row of their block of sixteen is first changed.
use Rattle.std.specs.Prelude.{ℕ, zero, suc, ◌+◌, ◌-◌, ◌*◌, ◌/◌, ◌%◌, ◌<◌, ◌≤◌, ◌≡◌, ◌==◌, List, [], ◌∷◌, ◌++◌, length, slice_index_or, if◌then◌else◌}
use Rattle.row_order.specs.declared.nodes.Node.{Node}
use Rattle.row_order.specs.Runs.{first_next, first_prev}

-- the node with this number at the start
abbrev pub natural : ℕ → ℕ → Node
natural rows k = record { before = first_prev rows k; after = first_next rows k; count = 0 }

-- so many of them from this one on
abbrev pub naturals : ℕ → ℕ → ℕ → List Node
naturals rows from zero = []
naturals rows from (suc n) = naturals rows from n ++ natural rows (from + n) ∷ []

-- how many blocks have nodes
abbrev pub used : List ℕ → ℕ
used [] = 0
used (x ∷ xs) = (if x == 0 then 0 else 1) + used xs

-- the place of a block's nodes in the pool, counted from 1 in blocks; 0 where it has none
abbrev pub place_of : List ℕ → ℕ → ℕ
place_of places k = slice_index_or places k 0

abbrev pub node_at : ℕ → ℕ → List Node → ℕ → Node
node_at rows place pool row = if place == 0 then natural rows row else slice_index_or pool ((place - 1) * 16 + row % 16) (natural rows row)

-- the node of a row
abbrev pub row_node : ℕ → List ℕ → List Node → ℕ → Node
row_node rows places pool row = node_at rows (place_of places (row / 16)) pool row

-- each block with nodes has a place of its own in the pool, and the pool has no others
pub record AreBlocks (places : List ℕ) (pool : List Node) : Type 0 where
  pub whole : length pool ≡ 16 * used places
  pub inside : (k : ℕ) → place_of places k ≤ used places
  pub apart : (j k : ℕ) → 0 < place_of places j → place_of places j ≡ place_of places k → j ≡ k
  pub small : length places ≤ 4096
