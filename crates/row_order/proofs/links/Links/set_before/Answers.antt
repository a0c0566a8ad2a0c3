use Rattle.std.proofs.Common.{◌∙◌, ◌<◌, ◌+◌, ap, subst, sym}
use Rattle.row_order.specs.Nodes.{store_of, next_in, level_in}
use Rattle.row_order.specs.declared.nodes.Node.{Node}
use Rattle.row_order.proofs.StoreLemmas.{same_put}
use Rattle.row_order.proofs.links.Links.set_before.Goals as goal

pub set-requires-clause-links : goal.set-requires-clause-links
set-requires-clause-links c =
    let old = c.args.self.now in (
      subst (λ (x : Node). x.after < old.nodes.rows + old.nodes.levels) (sym c.get-after.ensures) (old.linked c.args.of c.requires.inside.0).0,
      c.requires.inside.1,
    )

pub returns-clause-next : goal.returns-clause-next
returns-clause-next c = λ k low.
    c.set.ensures.next k low
    ∙ same_put (λ j. next_in (store_of c.args.self.now.nodes) j) k c.args.of c.get-after.result.after (ap (λ (x : Node). x.after) c.get-after.ensures)

pub returns-clause-level : goal.returns-clause-level
returns-clause-level c = λ k low.
    c.set.ensures.level k low
    ∙ same_put (λ j. level_in (store_of c.args.self.now.nodes) j) k c.args.of c.get-after.result.count (ap (λ (x : Node). x.count) c.get-after.ensures)
