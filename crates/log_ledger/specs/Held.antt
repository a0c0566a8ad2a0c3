-- What contracts see of a ledger.
use Rattle.std.specs.Prelude.{ℕ, List, Option}
use Rattle.refresh_plan.specs.Held.{Held as PlanHeld}
use Rattle.rfm_counts.specs.Held.{Held as RaaHeld}
use Rattle.timing_rules.specs.declared.clocks.Clocks.{Clocks}

-- what contracts see of its four parts
pub record Held : Type 0 where
  pub gate : Clocks
  pub banks : List (Option ℕ)
  pub plan : PlanHeld
  pub raa : RaaHeld
