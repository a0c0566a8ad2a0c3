use Rattle.std.proofs.Common.{refl}
use Rattle.rank_pair.proofs.pair.Pair.turn.Goals as goal

pub turn-requires : goal.turn-requires
turn-requires c = rw c.in-Zero.is at c.requires

pub turn-requires-in-One : goal.turn-requires-in-One
turn-requires-in-One c = rw c.in-One.is at c.requires

pub returns-in-Zero-clause-turned : goal.returns-in-Zero-clause-turned
returns-in-Zero-clause-turned c = rw c.in-Zero.is c.turn.ensures

pub returns-in-Zero-clause-rest : goal.returns-in-Zero-clause-rest
returns-in-Zero-clause-rest c = rw c.in-Zero.is (record { bus = refl; rest = refl; geometry = refl })

pub returns-in-One-clause-turned : goal.returns-in-One-clause-turned
returns-in-One-clause-turned c = rw c.in-One.is c.turn-in-One.ensures

pub returns-in-One-clause-rest : goal.returns-in-One-clause-rest
returns-in-One-clause-rest c = rw c.in-One.is (record { bus = refl; rest = refl; geometry = refl })
