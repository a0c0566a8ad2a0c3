-- Which logs can be counted.
use Rattle.std.specs.Prelude.{ℕ, ◌<◌, ◌^◌, [], ◌∷◌, ⊤}
use Rattle.command_words.specs.Command.{IsInRange}
use Rattle.command_words.specs.declared.command.Command.{Command}
use Rattle.speed_bin.specs.declared.header.Header.{Header}
use Rattle.speed_bin.specs.Log.{Log}
use Rattle.speed_bin.specs.Marks.{KeepsAt}

-- the command can be counted behind the log at this clock: its clock and its parts are in their ranges, and it keeps the
-- rules on which the bound on activations rests
pub record MayCount (h : Header) (clock : ℕ) (command : Command) (log : Log) : Type 0 where
  pub in_time : clock < 2 ^ 48
  pub in_range : IsInRange command
  pub kept : KeepsAt h (record { clock = clock; command = command }) log

-- each place of the log could be counted
abbrev pub AllCounted : Header → Log → Type 0
AllCounted h [] = ⊤
AllCounted h (place ∷ log) = AllCounted h log × MayCount h place.clock place.command log
