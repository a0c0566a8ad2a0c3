use Rattle.rank_bus.specs.Standing.{StandsFor, now_of}
use Rattle.rank_bus.proofs.bus.Bus.earliest.Goals as goal

pub returns : goal.returns
unfolding StandsFor now_of
returns c = λ h log stands. let s = rw (← c.self.view_is) at stands in rw (← c.self.view_is) (c.earliest.ensures h log s.sides)
