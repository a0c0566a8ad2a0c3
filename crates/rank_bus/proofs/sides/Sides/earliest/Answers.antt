use Rattle.rank_bus.specs.Buses.{part}
use Rattle.rank_bus.specs.declared.rank.Rank.TheVariants.{Zero, One}
use Rattle.rank_bus.proofs.sides.Sides.earliest.Goals as goal

pub returns-in-Zero : goal.returns-in-Zero
returns-in-Zero c = λ h log s. rw c.in-Zero.is (c.earliest.ensures h (part Zero log) (part One log) s.zero s.one)

pub returns-in-One : goal.returns-in-One
returns-in-One c = λ h log s. rw c.in-One.is (c.earliest-in-One.ensures h (part One log) (part Zero log) s.one s.zero)
