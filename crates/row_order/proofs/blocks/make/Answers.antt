use Rattle.std.proofs.Common.{◌≡◌, ◌∙◌, ◌+◌, ◌*◌, length, ◌/◌, [], ◌∷◌, ◌++◌, slice_set, refl, sym, ap, subst, arith}
use Rattle.std.proofs.lemmas.List.{append_assoc}
use Rattle.row_order.specs.Blocks.{naturals, row_node, used, AreBlocks}
use Rattle.row_order.proofs.BlockLemmas.{used_below, opened_same, opened_shaped, last_place, sixteen, naturals_more}
use Rattle.row_order.proofs.blocks.make.Goals as goal

pub push_reserved-requires : goal.push_reserved-requires
push_reserved-requires c =
    let b = used_below c.args.places.now.items c.args.block c.requires.fresh c.requires.low in
    let w = c.requires.blocks.whole in
    let i = c.rows.invariant in
    let o = c.args.pool.now.ok in
    omega (arith, b, w, i.1, i.2, o, c.requires.room)

pub rows-preserved : goal.rows-preserved
rows-preserved c =
    let i = c.rows.invariant in (
      c.push_reserved.ensures.items
          ∙ ap (λ xs. xs ++ c.natural.result ∷ []) i.0
          ∙ append_assoc c.args.pool.now.items (naturals c.args.rows (c.args.block * 16) c.rows.i) (c.natural.result ∷ [])
          ∙ ap (λ n. c.args.pool.now.items ++ (naturals c.args.rows (c.args.block * 16) c.rows.i ++ n ∷ [])) c.natural.ensures
          ∙ ap (λ xs. c.args.pool.now.items ++ xs) (naturals_more c.args.rows (c.args.block * 16) c.rows.i),
      omega arith,
      omega arith,
      refl,
    )

pub overflow_cast-place : goal.overflow_cast-place
overflow_cast-place c =
    let i = c.rows.invariant in
    let e : c.rows.i ≡ 16 = sixteen c.rows.i c.rows.auto.i-end c.rows-test.false in
    let p : c.len-place.result / 16 ≡ used c.args.places.now.items + 1 = last_place (length c.args.pool.now.items) c.len-place.result (used c.args.places.now.items) c.requires.blocks.whole (let o = c.args.pool.now.ok in let l = c.len-place.ensures in omega (arith, i.1, e, o, l)) in
    let b = used_below c.args.places.now.items c.args.block c.requires.fresh c.requires.low in
    let m = c.requires.blocks.small in
    omega (arith, p, b, m)

pub returns-clause-same : goal.returns-clause-same
returns-clause-same c =
    let i = c.rows.invariant in
    let e : c.rows.i ≡ 16 = sixteen c.rows.i c.rows.auto.i-end c.rows-test.false in
    let p : c.len-place.result / 16 ≡ used c.args.places.now.items + 1 = last_place (length c.args.pool.now.items) c.len-place.result (used c.args.places.now.items) c.requires.blocks.whole (let o = c.args.pool.now.ok in let l = c.len-place.ensures in omega (arith, i.1, e, o, l)) in
    λ row. ap (λ n. row_node c.args.rows (slice_set c.args.places.now.items c.args.block n) c.rows.pool.items row) p
    ∙ ap (λ xs. row_node c.args.rows (slice_set c.args.places.now.items c.args.block (used c.args.places.now.items + 1)) xs row) (i.0 ∙ ap (λ n. c.args.pool.now.items ++ naturals c.args.rows (c.args.block * 16) n) e)
    ∙ opened_same c.args.rows c.args.places.now.items c.args.pool.now.items c.args.block c.requires.blocks c.requires.low c.requires.fresh row

pub returns-clause-blocks : goal.returns-clause-blocks
returns-clause-blocks c =
    let i = c.rows.invariant in
    let e : c.rows.i ≡ 16 = sixteen c.rows.i c.rows.auto.i-end c.rows-test.false in
    let p : c.len-place.result / 16 ≡ used c.args.places.now.items + 1 = last_place (length c.args.pool.now.items) c.len-place.result (used c.args.places.now.items) c.requires.blocks.whole (let o = c.args.pool.now.ok in let l = c.len-place.ensures in omega (arith, i.1, e, o, l)) in
    subst (λ n. AreBlocks (slice_set c.args.places.now.items c.args.block n) c.rows.pool.items) (sym p)
    (subst (λ xs. AreBlocks (slice_set c.args.places.now.items c.args.block (used c.args.places.now.items + 1)) xs) (sym (i.0 ∙ ap (λ n. c.args.pool.now.items ++ naturals c.args.rows (c.args.block * 16) n) e))
    (opened_shaped c.args.rows c.args.places.now.items c.args.pool.now.items c.args.block c.requires.blocks c.requires.low c.requires.fresh))
