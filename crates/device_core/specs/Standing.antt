-- What a device says of its list of steps.
use Rattle.std.specs.Prelude.{ℕ, ◌≡◌, ◌<◌, List, [], ◌∷◌, Option, length, is_some, option_map, ⊤}
use Rattle.std.specs.Borrow.{Bor}
use Rattle.command_words.specs.Geometry.{Shape}
use Rattle.command_words.specs.Place.{IsInside}
use Rattle.command_words.specs.Words.{Spells}
use Rattle.command_words.specs.declared.command.Command.{Command}
use Rattle.command_words.specs.declared.geometry.Place.{Place}
use Rattle.command_words.specs.declared.words.Words.{Words}
use Rattle.speed_bin.specs.declared.header.Header.{Header}
use Rattle.command_words.specs.Kinds.{is_wr}
use Rattle.error_scrub.specs.Cells.{cells_shape}
use Rattle.device_core.specs.Legal.{IsLegal}
use Rattle.device_core.specs.Rows.{StandsFor as RowsFor}
use Rattle.device_core.specs.Steps.{Step, Issues, Flips, log_of}
use Rattle.device_core.specs.Store.{StandsFor as StoreFor, IsUnchanged as StoreUnchanged}
use Rattle.device_core.specs.Stored.{changes_of, visits}
use Rattle.speed_bin.specs.Header.{shape_of}
use Rattle.device_core.specs.Told.{told}
use Rattle.device_core.specs.Held.{Held}

-- the bytes that are lent to a call, if there are any
abbrev pub lent : Option (Bor (List ℕ)) → Option (List ℕ)
lent bytes = option_map (λ b. b.now) bytes

-- ---- What may follow

-- bytes come exactly with a WR
abbrev pub HasBytes : Command → Option (List ℕ) → Type 0
HasBytes command bytes = is_some bytes ≡ is_wr command

-- the command is legal after the list, and has its bytes
pub record IsGiven (h : Header) (clock : ℕ) (command : Command) (bytes : Option (List ℕ)) (steps : List Step) : Type 0 where
  pub legal : IsLegal h clock command (log_of steps)
  pub with_bytes : HasBytes command bytes

-- the words spell the command, which is legal after the list and has its bytes
pub record MayFollow (h : Header) (clock : ℕ) (command : Command) (words : Words) (bytes : Option (List ℕ)) (steps : List Step) : Type 0 where
  pub spelled : Spells command words
  pub given : IsGiven h clock command bytes steps

-- a stored bit that can be turned: the place is one of the header's, the device one of four, the bit one of a codeword
pub record IsBit (h : Header) (place : Place) (device bit : ℕ) : Type 0 where
  pub inside : IsInside place (shape_of h)
  pub of_four : device < 4
  pub in_word : bit < 136

-- each step was given with its bytes, or turned a bit that there is
abbrev pub AllGiven : Header → List Step → Type 0
AllGiven h [] = ⊤
AllGiven h (Issues delivered ∷ steps) = AllGiven h steps × HasBytes delivered.issued.command delivered.bytes
AllGiven h (Flips place device bit ∷ steps) = AllGiven h steps × IsBit h place device bit

-- ---- The relation

pub record Keeps (device : Held) (h : Header) (steps : List Step) : Type 0 where
  pub given : AllGiven h steps
  pub registers : device.registers ≡ told h (length (log_of steps))
  pub activations : RowsFor device.activations h (log_of steps)
  pub store : StoreFor device.store (shape_of h) (changes_of h steps) (visits h steps)

-- the device stands for the list; how is its own affair
unfoldable pub StandsFor : Held → Header → List Step → Type 0
StandsFor device h steps = Keeps device h steps

-- the list with one command more
abbrev pub with_command : ℕ → Command → Option (List ℕ) → List Step → List Step
with_command clock command bytes steps = Issues (record { issued = record { clock = clock; command = command }; bytes = bytes }) ∷ steps

-- the device stands for some list
abbrev pub StandsForSome : Held → Type 0
StandsForSome device = ∥ ((h : Header) × (steps : List Step) × StandsFor device h steps) ∥₁

-- the device stands for a list that the words may follow, under some header
abbrev pub MayStep : Held → ℕ → Words → Option (List ℕ) → Type 0
MayStep device clock words bytes = ∥ ((h : Header) × (steps : List Step) × (command : Command) × (StandsFor device h steps) × MayFollow h clock command words bytes steps) ∥₁

-- the geometry of the stored lines
unfoldable pub geometry_of : Held → Shape
geometry_of device = cells_shape device.store.cells

-- every part of the device stays, and each stored word
pub record Unchanged (old new : Held) : Type 0 where
  pub registers : new.registers ≡ old.registers
  pub activations : new.activations ≡ old.activations
  pub store : StoreUnchanged old.store new.store

unfoldable pub IsUnchanged : Held → Held → Type 0
IsUnchanged old new = Unchanged old new
