-- What contracts see of a device.
use Rattle.std.specs.Prelude.{ℕ, List, Option}
use Rattle.device_core.specs.declared.activations.Activations.{Activations}
use Rattle.device_core.specs.declared.store.Store.{Store}

-- what each register holds, once it is written; the open rows with the activations of all rows; and the stored lines
pub record Held : Type 0 where
  pub registers : List (Option ℕ)
  pub activations : Activations
  pub store : Store
