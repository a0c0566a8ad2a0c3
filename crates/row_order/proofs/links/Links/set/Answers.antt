use Rattle.std.proofs.Common.{◌≡◌, ℕ, ◌+◌, subst, arith}
use Rattle.row_order.specs.Nodes.{store_of, AreLinked}
use Rattle.row_order.proofs.StoreLemmas.{next_put, prev_put, level_put, linked_put}
use Rattle.row_order.proofs.links.Links.set.Goals as goal

pub invariant_of-self : goal.invariant_of-self
invariant_of-self c =
    let old = c.args.self.now in
    let done = c.set.ensures in
    let all : old.nodes.rows + old.nodes.levels ≡ c.set.new.self.rows + c.set.new.self.levels = (let a = done.same.0 in let b = done.same.1 in omega (arith, a, b)) in
    record {
      whole = done.whole;
      some_levels = rw done.same.1 old.some_levels;
      linked = subst (λ (n : ℕ). AreLinked (store_of c.set.new.self) n) all (linked_put (old.nodes.rows + old.nodes.levels) c.args.of c.args.node (store_of old.nodes) (store_of c.set.new.self) old.linked c.requires.links.0 c.requires.links.1 done.nodes);
    }

pub returns-clause-next : goal.returns-clause-next
returns-clause-next c =
    let old = c.args.self.now in
    next_put (old.nodes.rows + old.nodes.levels) c.args.of c.args.node (store_of old.nodes) (store_of c.set.new.self) c.set.ensures.nodes

pub returns-clause-prev : goal.returns-clause-prev
returns-clause-prev c =
    let old = c.args.self.now in
    prev_put (old.nodes.rows + old.nodes.levels) c.args.of c.args.node (store_of old.nodes) (store_of c.set.new.self) c.set.ensures.nodes

pub returns-clause-level : goal.returns-clause-level
returns-clause-level c =
    let old = c.args.self.now in
    level_put (old.nodes.rows + old.nodes.levels) c.args.of c.args.node (store_of old.nodes) (store_of c.set.new.self) c.set.ensures.nodes
