use Rattle.std.proofs.Common.{◌≡◌, ℕ, ◌+◌, ◌-◌, ◌*◌, ◌/◌, ◌%◌, cond, nat_eq, set, sym, subst}
use Rattle.std.proofs.lemmas.List.{get_or_read}
use Rattle.row_order.specs.Blocks.{place_of, row_node}
use Rattle.row_order.proofs.BlockLemmas.{written, written_blocks}
use Rattle.row_order.proofs.blocks.put_node.Goals as goal

pub returns-clause-nodes : goal.returns-clause-nodes
returns-clause-nodes c =
    let places = c.args.places.now.items in
    let pool = c.args.pool.now.items in
    let row = c.args.row in
    let place : c.index.result.now ≡ place_of places (row / 16) = get_or_read places _ _ c.requires.low c.index.ensures 0 in
    subst (λ (p : ℕ). (k : ℕ) → row_node c.args.rows places (set pool ((p - 1) * 16 + row % 16) c.args.node) k ≡ cond (nat_eq k row) c.args.node (row_node c.args.rows places pool k)) (sym place)
    (written c.args.rows places pool row c.args.node c.requires.blocks c.requires.opened)

pub returns-clause-blocks : goal.returns-clause-blocks
returns-clause-blocks c = written_blocks c.args.places.now.items c.args.pool.now.items _ c.args.node c.requires.blocks
