-- What contracts see of a plan.
use Rattle.std.specs.Prelude.{ℕ, suc, ◌+◌, ◌/◌, ◌^◌, ◌≤◌, Bool, not, ◌&&◌, ◌||◌, ◌==◌, nat_le, if◌then◌else◌, List, slice_index}
use Rattle.command_words.specs.declared.command.Command.{Command}
use Rattle.command_words.specs.Kinds.{refreshes, is_scrub}
use Rattle.speed_bin.specs.declared.settings.RefreshMode.{RefreshMode}

-- the refresh interval, the mode and `ecs_every` of the header, the refreshes of each address, and the ECS commands
pub record Held : Type 0 where
  pub interval : ℕ
  pub mode : RefreshMode
  pub every : ℕ
  pub refreshes : List ℕ
  pub scrubs : ℕ

-- no sum leaves its type: clocks are below 2 ^ 48, and no address is refreshed 5 intervals ahead
pub record IsBounded (interval : ℕ) (counts : List ℕ) (scrubs : ℕ) : Type 0 where
  pub passes : 1 ≤ interval
  pub short : interval ≤ 65535
  pub refreshed : (address : ℕ) → slice_index counts address ≤ 2 ^ 48 + 4
  pub scrubbed : scrubs ≤ 2 ^ 48 + 4

-- the refreshes of an address, this command among them
abbrev pub after : Held → Command → ℕ → ℕ
after it command address = slice_index it.refreshes address + (if refreshes address command then 1 else 0)

-- rule 8 of a command, with `ecs_every`, the ECS commands and the refreshes of address 0 before it
abbrev pub scrubs_in_time : ℕ → ℕ → ℕ → Command → Bool
scrubs_in_time every scrubs refreshed command = if every == 0 then not (is_scrub command)
    else ((not (is_scrub command) || nat_le (suc scrubs) (refreshed / every))
    && (not (refreshes 0 command) || scrubs == refreshed / every))
