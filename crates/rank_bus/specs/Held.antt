-- What contracts see of a bus.
use Rattle.std.specs.Prelude.{ℕ}
use Rattle.rank_bus.specs.declared.sides.Sides.{Sides}

-- what is known of the commands of both ranks, and the clock before which no command is issued
pub record Held : Type 0 where
  pub sides : Sides
  pub from : ℕ
