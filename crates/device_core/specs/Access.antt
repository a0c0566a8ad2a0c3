-- What a command finds in the open rows and the stored lines of a device.
use Rattle.std.specs.Prelude.{ℕ, List, Option}
use Rattle.command_words.specs.declared.command.Command.{Command}
use Rattle.speed_bin.specs.declared.header.Header.{Header}
use Rattle.speed_bin.specs.Header.{shape_of}
use Rattle.device_core.specs.Rows.{StandsFor as RowsFor}
use Rattle.device_core.specs.Standing.{IsGiven}
use Rattle.device_core.specs.Steps.{Step, log_of}
use Rattle.device_core.specs.Store.{StandsFor as StoreFor}
use Rattle.device_core.specs.Stored.{changes_of, visits}
use Rattle.device_core.specs.declared.activations.Activations.{Activations}
use Rattle.device_core.specs.declared.store.Store.{Store}

-- both are those of the list
pub record AreOf (rows : Activations) (lines : Store) (h : Header) (steps : List Step) : Type 0 where
  pub activations : RowsFor rows h (log_of steps)
  pub store : StoreFor lines (shape_of h) (changes_of h steps) (visits h steps)

-- both are those of some list
abbrev pub AreOfSome : Activations → Store → Type 0
AreOfSome rows lines = ∥ ((h : Header) × (steps : List Step) × AreOf rows lines h steps) ∥₁

-- both are those of a list that the command may follow
abbrev pub MayAccess : Activations → Store → ℕ → Command → Option (List ℕ) → Type 0
MayAccess rows lines clock command bytes = ∥ ((h : Header) × (steps : List Step) × (AreOf rows lines h steps) × IsGiven h clock command bytes steps) ∥₁
