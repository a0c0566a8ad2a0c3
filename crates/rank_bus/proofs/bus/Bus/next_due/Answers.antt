use Rattle.rank_bus.specs.Standing.{StandsFor}
use Rattle.rank_bus.proofs.bus.Bus.next_due.Goals as goal

pub returns : goal.returns
unfolding StandsFor
returns c = λ h log clock stands. let s = rw (← c.self.view_is) at stands in c.next_due.ensures h log clock s.sides
