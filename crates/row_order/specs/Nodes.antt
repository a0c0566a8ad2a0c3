-- The nodes of the rows, and of the ends of the buckets.
use Rattle.std.specs.Prelude.{◌≡◌, ℕ, ◌-◌, ◌*◌, ◌<◌, ◌≤◌, nat_lt, if◌then◌else◌, List, length, slice_index_or, vec_capacity}
use Rattle.row_order.specs.declared.nodes.Node.{Node}
use Rattle.row_order.specs.declared.nodes.Nodes.{Nodes}
use Rattle.row_order.specs.Blocks.{natural, row_node, AreBlocks}

-- how many rows there are, the places of their blocks, the nodes of those that have any, and the ends
pub record Store : Type 0 where
  pub rows : ℕ
  pub places : List ℕ
  pub pool : List Node
  pub ends : List Node

unfoldable pub store_of : Nodes → Store
store_of it = record { rows = it.rows; places = it.places.items; pool = it.pool.items; ends = it.ends.items }

-- the node with this number: of a row, or behind the rows of an end
unfoldable pub node_in : Store → ℕ → Node
node_in it k =
    if nat_lt k it.rows then row_node it.rows it.places it.pool k
    else slice_index_or it.ends (k - it.rows) (natural it.rows k)

-- the number of the node after the node k, of the one before it, and its count
abbrev pub next_in : Store → ℕ → ℕ
next_in it k = (node_in it k).after

abbrev pub prev_in : Store → ℕ → ℕ
prev_in it k = (node_in it k).before

abbrev pub level_in : Store → ℕ → ℕ
level_in it k = (node_in it k).count

-- each row has a block and each level an end, and the pool has room for all blocks
pub record IsNodes (it : Nodes) : Type 0 where
  pub some : 0 < it.rows
  pub many : it.rows ≤ 65536
  pub levels : it.levels ≤ 2048
  pub blocks : AreBlocks it.places.items it.pool.items
  pub enough : it.rows ≤ 16 * length it.places.items
  pub room : 16 * length it.places.items ≤ vec_capacity it.pool
  pub ends : length it.ends.items ≡ it.levels

-- the links of the first n nodes are numbers of such nodes
abbrev pub AreLinked : Store → ℕ → Type 0
AreLinked it n = (k : ℕ) → k < n → (next_in it k < n) × (prev_in it k < n)
