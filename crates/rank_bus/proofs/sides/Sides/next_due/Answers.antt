use Rattle.std.proofs.Common.{arith}
use Rattle.rank_bus.specs.Buses.{part}
use Rattle.rank_bus.specs.declared.rank.Rank.TheVariants.{Zero, One}
use Rattle.rank_bus.proofs.sides.Sides.next_due.Goals as goal

pub returns : goal.returns
returns c = λ h log clock s.
    let a = c.next_due.ensures h (part Zero log) clock s.zero.ledger in
    let b = c.next_due-2.ensures h (part One log) clock s.one.ledger in
    (λ low. (a.0 (omega (arith, c.min.ensures, low)), b.0 (omega (arith, c.min.ensures, low))), λ k. let x = a.1 k.0 in let y = b.1 k.1 in omega (arith, c.min.ensures, x, y))
