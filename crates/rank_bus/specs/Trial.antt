-- A bus beside two sides that keep the same list, for the tests.
use Rattle.std.specs.Prelude.{ℕ}
use Rattle.speed_bin.specs.declared.header.Header.{Header}
use Rattle.rank_bus.specs.Buses.{BusLog}
use Rattle.rank_bus.specs.Held.{Held as BusHeld}
use Rattle.rank_bus.specs.Sides.{SidesStandFor}
use Rattle.rank_bus.specs.Standing.{StandsFor}
use Rattle.rank_bus.specs.declared.sides.Sides.{Sides}

-- what is known of a trial
pub record Tried : Type 0 where
  pub bus : BusHeld
  pub sides : Sides

-- both stand, under some header, for the same list
abbrev pub AgreeOnSome : BusHeld → Sides → Type 0
AgreeOnSome bus sides = ∥ ((h : Header) × (log : BusLog) × (StandsFor bus h log) × SidesStandFor sides h log) ∥₁
