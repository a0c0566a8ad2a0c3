-- Which command may follow a log.
use Rattle.std.specs.Prelude.{ℕ, ◌≡◌, ◌<◌, ◌^◌, [], ◌∷◌, None, IsTrue, ⊤}
use Rattle.command_words.specs.Command.{IsInRange}
use Rattle.command_words.specs.declared.command.Command.{Command}
use Rattle.speed_bin.specs.declared.header.Header.{Header}
use Rattle.speed_bin.specs.Log.{Log}
use Rattle.speed_bin.specs.Marks.{stays_inside}
use Rattle.speed_bin.specs.Rules.{broken}

-- the command may follow the log at this clock: its parts are in their ranges, the row of an ACT and each bank that is named
-- are the header's, and all fourteen rules hold
pub record IsLegal (h : Header) (clock : ℕ) (command : Command) (log : Log) : Type 0 where
  pub in_time : clock < 2 ^ 48
  pub in_range : IsInRange command
  pub row : IsTrue (stays_inside h command)
  pub rules : broken h clock command log ≡ None

-- each place of the log was legal
abbrev pub AllLegal : Header → Log → Type 0
AllLegal h [] = ⊤
AllLegal h (place ∷ log) = AllLegal h log × IsLegal h place.clock place.command log
