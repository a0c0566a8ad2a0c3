-- What the commands of a rank leave to the other one.
use Rattle.std.specs.Prelude.{◌≡◌, ℕ, ◌+◌, [], ◌∷◌, max}
use Rattle.command_words.specs.declared.command.Command.{Command}
use Rattle.command_words.specs.declared.command.Command.TheVariants.{Rd, Wr}
use Rattle.speed_bin.specs.Log.{Log}
use Rattle.rank_bus.specs.Buses.{gap_to_any, gap_to_read, gap_to_write}
use Rattle.rank_bus.specs.declared.clearance.Clearance.{Clearance}

-- the least clock that keeps this gap to each command
abbrev pub behind : (Command → ℕ) → Log → ℕ
behind gap [] = 0
behind gap (place ∷ log) = max (behind gap log) (place.clock + gap place.command)

pub record Leaves (clearance : Clearance) (log : Log) : Type 0 where
  pub read : clearance.read ≡ behind gap_to_read log
  pub write : clearance.write ≡ behind gap_to_write log
  pub any : clearance.any ≡ behind gap_to_any log

-- the least clocks are those that the log leaves; how is their own affair
unfoldable pub IsLeftBy : Clearance → Log → Type 0
IsLeftBy clearance log = Leaves clearance log

-- the clock that is kept for a command
abbrev pub kept_for : Clearance → Command → ℕ
kept_for clearance (Rd bank column) = clearance.read
kept_for clearance (Wr bank column) = clearance.write
kept_for clearance command = clearance.any
