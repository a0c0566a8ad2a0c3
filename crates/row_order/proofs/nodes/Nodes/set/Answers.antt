use Rattle.std.proofs.Common.{arith}
use Rattle.row_order.specs.Nodes.{store_of}
use Rattle.row_order.proofs.StoreLemmas.{row_put, end_put}
use Rattle.row_order.proofs.nodes.Nodes.set.Goals as goal

pub returns-then-number-self-clause-whole : goal.returns-then-number-self-clause-whole
returns-then-number-self-clause-whole c =
    let old = c.requires.whole in
    let long = c.open.ensures.long in
    let opened = c.open.ensures.capacity in
    let put = c.put_node.ensures.capacity in
    let enough = old.enough in
    let room = old.room in
    record {
      some = old.some;
      many = old.many;
      levels = old.levels;
      blocks = c.put_node.ensures.blocks;
      enough = omega (arith, long, enough);
      room = omega (arith, long, opened, put, room);
      ends = old.ends;
    }

pub returns-then-number-self-clause-nodes : goal.returns-then-number-self-clause-nodes
unfolding store_of
returns-then-number-self-clause-nodes c = λ k low.
    let old = c.args.self.now in
    row_put old.rows c.args.number k old.places.items c.open.new.places.items old.pool.items c.open.new.pool.items c.put_node.new.pool.items old.ends.items c.args.node
    c.if-number-self.true c.open.ensures.same c.put_node.ensures.nodes

pub returns-else-number-self-clause-nodes : goal.returns-else-number-self-clause-nodes
unfolding store_of
returns-else-number-self-clause-nodes c = λ k low.
    let old = c.args.self.now in
    let ends = c.requires.whole.ends in
    let far = c.if-number-self.false in
    let inside = c.requires.inside in
    end_put old.rows c.args.number k old.places.items old.pool.items old.ends.items c.args.node far (omega (arith, ends, far, inside))
