use Rattle.std.proofs.Common.{◌≡◌, ℕ, ◌+◌, ap, subst, arith}
use Rattle.row_order.specs.Nodes.{store_of, AreLinked}
use Rattle.row_order.specs.declared.nodes.Node.{Node}
use Rattle.row_order.proofs.StoreLemmas.{linked_at_start}
use Rattle.row_order.proofs.links.Links.new.Goals as goal

pub invariant_of-result : goal.invariant_of-result
invariant_of-result c =
    let made = c.in_ok-nodes.ensures in
    let all : c.args.rows + c.args.levels ≡ c.in_ok-nodes.nodes.rows + c.in_ok-nodes.nodes.levels = (let a = made.sizes.0 in let b = made.sizes.1 in omega (arith, a, b)) in
    record {
      whole = made.whole;
      some_levels = rw made.sizes.1 c.requires.levels;
      linked = subst (λ (n : ℕ). AreLinked (store_of c.in_ok-nodes.nodes) n) all (linked_at_start c.args.rows c.args.levels (store_of c.in_ok-nodes.nodes) c.requires.levels.0 made.nodes);
    }

pub returns-clause-next : goal.returns-clause-next
returns-clause-next c = λ k low. ap (λ (x : Node). x.after) (c.in_ok-nodes.ensures.nodes k low)

pub returns-clause-prev : goal.returns-clause-prev
returns-clause-prev c = λ k low. ap (λ (x : Node). x.before) (c.in_ok-nodes.ensures.nodes k low)

pub returns-clause-level : goal.returns-clause-level
returns-clause-level c = λ k low. ap (λ (x : Node). x.count) (c.in_ok-nodes.ensures.nodes k low)
