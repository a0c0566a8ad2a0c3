-- What a device was given, step by step. The newest step stands first.
use Rattle.std.specs.Prelude.{ℕ, Option, List, [], ◌∷◌}
use Rattle.command_words.specs.declared.geometry.Place.{Place}
use Rattle.speed_bin.specs.Log.{Issued, Log}

-- a command at its clock, and the bytes that came with it
pub record Delivered : Type 0 where
  pub issued : Issued
  pub bytes : Option (List ℕ)

-- a step is a command, or a stored bit that is turned: that of a place, a device and a bit of its codeword
pub data Step : Type 0 where
  Issues : Delivered → Step
  Flips : Place → ℕ → ℕ → Step

-- the commands at their clocks
abbrev pub log_of : List Step → Log
log_of [] = []
log_of (Issues delivered ∷ steps) = delivered.issued ∷ log_of steps
log_of (Flips place device bit ∷ steps) = log_of steps
