use Rattle.std.proofs.Common.{refl}
use Rattle.rank_pair.proofs.pair.Pair.give.Goals as goal

pub take-requires : goal.take-requires
take-requires c = rw c.in-Zero.is at c.requires

pub take-requires-in-One : goal.take-requires-in-One
take-requires-in-One c = rw c.in-One.is at c.requires

pub returns-in-Zero-clause-stands : goal.returns-in-Zero-clause-stands
returns-in-Zero-clause-stands c = rw c.in-Zero.is c.take.ensures.stands

pub returns-in-Zero-clause-line : goal.returns-in-Zero-clause-line
returns-in-Zero-clause-line c = rw c.in-Zero.is c.take.ensures.line

pub returns-in-Zero-clause-rest : goal.returns-in-Zero-clause-rest
returns-in-Zero-clause-rest c = rw c.in-Zero.is (record { bus = refl; rest = refl; geometry = refl })

pub returns-in-One-clause-stands : goal.returns-in-One-clause-stands
returns-in-One-clause-stands c = rw c.in-One.is c.take-in-One.ensures.stands

pub returns-in-One-clause-line : goal.returns-in-One-clause-line
returns-in-One-clause-line c = rw c.in-One.is c.take-in-One.ensures.line

pub returns-in-One-clause-rest : goal.returns-in-One-clause-rest
returns-in-One-clause-rest c = rw c.in-One.is (record { bus = refl; rest = refl; geometry = refl })
