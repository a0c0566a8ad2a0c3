use Rattle.std.proofs.Common.{◌∙◌, ◌<◌, ◌+◌, ap, subst, sym}
use Rattle.row_order.specs.Nodes.{store_of, prev_in, level_in}
use Rattle.row_order.specs.declared.nodes.Node.{Node}
use Rattle.row_order.proofs.StoreLemmas.{same_put}
use Rattle.row_order.proofs.links.Links.set_after.Goals as goal

pub set-requires-clause-links : goal.set-requires-clause-links
set-requires-clause-links c =
    let old = c.args.self.now in (
      c.requires.inside.1,
      subst (λ (x : Node). x.before < old.nodes.rows + old.nodes.levels) (sym c.get-before.ensures) (old.linked c.args.of c.requires.inside.0).1,
    )

pub returns-clause-prev : goal.returns-clause-prev
returns-clause-prev c = λ k low.
    c.set.ensures.prev k low
    ∙ same_put (λ j. prev_in (store_of c.args.self.now.nodes) j) k c.args.of c.get-before.result.before (ap (λ (x : Node). x.before) c.get-before.ensures)

pub returns-clause-level : goal.returns-clause-level
returns-clause-level c = λ k low.
    c.set.ensures.level k low
    ∙ same_put (λ j. level_in (store_of c.args.self.now.nodes) j) k c.args.of c.get-before.result.count (ap (λ (x : Node). x.count) c.get-before.ensures)
