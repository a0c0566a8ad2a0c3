-- The last command of a list that passes a test, and how far it reaches.
use Rattle.std.specs.Prelude.{ℕ, ◌+◌, ◌<◌, ◌^◌, Bool, true, if◌then◌else◌, [], ◌∷◌, Option, Some, None}
use Rattle.command_words.specs.declared.command.Command.{Command}
use Rattle.speed_bin.specs.Log.{Log}

-- the clock of the last place whose command passes the test
abbrev pub last_of : (Command → Bool) → Log → Option ℕ
last_of test [] = None
last_of test (place ∷ log) = if test place.command then Some place.clock else last_of test log

abbrev pub is_any : Command → Bool
is_any command = true

-- so many clocks behind a kept one, 0 where there is none
abbrev pub behind : Option ℕ → ℕ → ℕ
behind None clocks = 0
behind (Some clock) clocks = clock + clocks

abbrev pub IsSmall : Option ℕ → Type 0
IsSmall None = Unit {0}
IsSmall (Some clock) = clock < 2 ^ 48
