-- How far a list of commands reaches, where each of them blocks what comes behind it for so many clocks.
use Rattle.std.specs.Prelude.{ℕ, zero, suc, ◌+◌, ◌<◌, ◌≡◌, ◌==◌, List, [], ◌∷◌, length, slice_index, max, if◌then◌else◌}
use Rattle.command_words.specs.declared.command.Command.{Command}
use Rattle.speed_bin.specs.Log.{Log}

-- the clock so many clocks behind this one, 0 where none are asked
abbrev pub blocked_until : ℕ → ℕ → ℕ
blocked_until clock clocks = if clocks == 0 then 0 else clock + clocks

-- the least clock that no command of the list blocks
abbrev pub reach : (Command → ℕ) → Log → ℕ
reach block [] = 0
reach block (place ∷ log) = max (blocked_until place.clock (block place.command)) (reach block log)

-- entry i is the reach of block i
pub record KeepsTable (kept : List ℕ) (count : ℕ) (block : ℕ → Command → ℕ) (log : Log) : Type 0 where
  pub length : length kept ≡ count
  pub each : (i : ℕ) → i < count → slice_index kept i ≡ reach (block i) log

-- the greatest of the first n numbers
unfoldable pub most_below : ℕ → (ℕ → ℕ) → ℕ
most_below zero f = 0
most_below (suc n) f = max (f n) (most_below n f)
