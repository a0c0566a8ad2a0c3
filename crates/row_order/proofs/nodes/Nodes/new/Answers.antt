use Rattle.std.proofs.Common.{◌≡◌, ◌∙◌, ◌+◌, ◌/◌, ◌++◌, [], ◌∷◌, length, replicate, ap, arith}
use Rattle.std.proofs.lemmas.List.{length-replicate}
use Rattle.row_order.specs.Blocks.{naturals}
use Rattle.row_order.specs.Nodes.{store_of}
use Rattle.row_order.proofs.BlockLemmas.{naturals_more, length_naturals, no_blocks}
use Rattle.row_order.proofs.StoreLemmas.{at_start}
use Rattle.row_order.proofs.nodes.Nodes.new.Goals as goal

pub levels-preserved : goal.levels-preserved
levels-preserved c =
    let i = c.levels.invariant in
    let put = c.push_reserved.ensures in
    record {
      items = put.items
          ∙ ap (λ xs. xs ++ c.natural.result ∷ []) i.items
          ∙ ap (λ n. naturals c.args.rows c.args.rows c.levels.level ++ n ∷ []) c.natural.ensures
          ∙ naturals_more c.args.rows c.args.rows c.levels.level;
      long = put.len ∙ ap (λ n. n + 1) i.long;
      room = let r = i.room in let same = put.capacity in omega (arith, r, same);
    }

pub returns-clause-whole : goal.returns-clause-whole
returns-clause-whole c =
    let i = c.levels.invariant in
    let many = c.requires.rows.1 in
    let e : c.levels.level ≡ c.args.levels = (let h = c.levels.auto.level-end in let t = c.levels-test.false in omega (arith, h, t)) in
    let zeros : c.in_ok-places.places.items ≡ replicate ((c.args.rows + 15) / 16) 0 = c.in_ok-places.ensures.items_if_clones_equal (λ y h. h) in
    let long : length c.in_ok-places.places.items ≡ (c.args.rows + 15) / 16 = ap (λ xs. length xs) zeros ∙ length-replicate ((c.args.rows + 15) / 16) 0 in
    let exact = c.in_ok-pool.ensures.exact in
    record {
      some = c.requires.rows.0;
      many = many;
      levels = c.requires.levels.1;
      blocks = rw (zeros, c.in_ok-pool.ensures.items) (no_blocks ((c.args.rows + 15) / 16) (omega (arith, many)));
      enough = omega (arith, long);
      room = omega (arith, long, exact);
      ends = ap (λ xs. length xs) i.items ∙ length_naturals c.args.rows c.args.rows c.levels.level ∙ e;
    }

pub returns-clause-nodes : goal.returns-clause-nodes
unfolding store_of
returns-clause-nodes c = λ k low.
    let i = c.levels.invariant in
    let e : c.levels.level ≡ c.args.levels = (let h = c.levels.auto.level-end in let t = c.levels-test.false in omega (arith, h, t)) in
    let zeros : c.in_ok-places.places.items ≡ replicate ((c.args.rows + 15) / 16) 0 = c.in_ok-places.ensures.items_if_clones_equal (λ y h. h) in
    rw (zeros, c.in_ok-pool.ensures.items, i.items, e) (at_start c.args.rows c.args.levels ((c.args.rows + 15) / 16) k low)
