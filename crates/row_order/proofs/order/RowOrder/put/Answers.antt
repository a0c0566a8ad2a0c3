use Rattle.std.proofs.Common.{◌≡◌, ◌∙◌, ℕ, ◌+◌, cond, nat_eq, nat_lt, List, subst, arith}
use Rattle.std.proofs.Math.Logic.{∥∥₁_map}
use Rattle.row_order.specs.Entries.{Entry, changed}
use Rattle.row_order.specs.Marks.{mark_of}
use Rattle.row_order.specs.Nodes.{store_of, next_in}
use Rattle.row_order.specs.Standing.{Held, StandsFor}
use Rattle.row_order.proofs.StandingLemmas.{level_low, is_level, appended_within, stands_changed}
use Rattle.row_order.proofs.order.RowOrder.put.Goals as goal

pub forget_if_empty-requires : goal.forget_if_empty-requires
forget_if_empty-requires c =
    let inside = rw (← c.self.view_is, ← c.get-number.ensures.number) at c.requires.inside in
    let low = level_low _ c.get-number.result c.self.invariant inside in
    let is = c.level-before.ensures in
    let first = c.unlink.ensures.same.1 in
    let second = c.append.ensures.same.1 in
    omega (arith, low, is, first, second)

-- the values before and after
abbrev before : goal.After-insert → Held
before c = record { rows = c.self.inside.links.nodes.rows; levels = c.self.inside.links.nodes.levels; store = store_of c.self.inside.links.nodes; used = c.self.inside.used }

abbrev after : goal.After-insert → Held
after c = record { rows = c.append.new.self.nodes.rows; levels = c.append.new.self.nodes.levels; store = store_of c.append.new.self.nodes; used = c.insert.new.self }

stands : (c : goal.After-insert) (list : List Entry) → StandsFor (before c) list → StandsFor (after c) (changed c.get-number.result c.args.count list)
stands c list s =
    let out = c.unlink.ensures in
    let put = c.append.ensures in
    let some = c.self.inside.links.some_levels in
    let inside = rw (← c.self.view_is, ← c.get-number.ensures.number) at c.requires.inside in
    let level = rw (← c.self.view_is) at c.requires.level in
    stands_changed (before c) (after c) (store_of c.unlink.new.self.nodes) c.forget_if_empty.new.used list c.get-number.result c.level-before.result c.args.count s inside
    (is_level c.args.count c.self.inside.links.nodes.levels some.0 level) (omega arith)
    (put.same.0 ∙ out.same.0) (put.same.1 ∙ out.same.1)
    c.level-before.ensures
    (record { next = out.next; prev = out.prev; level = out.level })
    (appended_within (before c).rows (before c).levels c.unlink.new.self.nodes.rows c.unlink.new.self.nodes.levels c.get-number.result c.args.count (store_of c.unlink.new.self.nodes) (store_of c.append.new.self.nodes)
    out.same.0 out.same.1 (record { next = put.next; prev = put.prev; level = put.level }))
    (λ k low.
    subst (λ (n : ℕ). mark_of c.forget_if_empty.new.used k ≡ cond (nat_eq k c.level-before.result) (cond (nat_lt (next_in (store_of c.append.new.self.nodes) (n + c.level-before.result)) n) (mark_of c.self.inside.used k) 0) (mark_of c.self.inside.used k))
    (put.same.0 ∙ out.same.0) (c.forget_if_empty.ensures k low))
    c.insert.ensures

pub invariant_of-self : goal.invariant_of-self
invariant_of-self c = ∥∥₁_map c.self.invariant (λ p. (changed c.get-number.result c.args.count p.0, stands c p.0 p.1))

pub returns-clause-list : goal.returns-clause-list
returns-clause-list c = rw (← c.self.view_is, ← c.get-number.ensures.number) (stands c)
