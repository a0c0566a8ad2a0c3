-- Scripts that tests play: commands in turn, each a clock, its words, and whether the alert is raised after it. A WR
-- has the script's bytes.
use Rattle.std.specs.Prelude.{ℕ, Bool, true, false, ◌&&◌, if◌then◌else◌, Option, Some, None, List, [], ◌∷◌, Result, Ok, Err, is_none, nat_lt, ◌^◌}
use Rattle.command_words.specs.Decode.{decode_of}
use Rattle.command_words.specs.declared.geometry.Place.{Place}
use Rattle.command_words.specs.declared.command.Command.{Command}
use Rattle.command_words.specs.declared.words.WordFault.{WordFault}
use Rattle.speed_bin.specs.declared.header.Header.{Header}
use Rattle.speed_bin.specs.declared.settings.Settings.{Settings}
use Rattle.speed_bin.specs.declared.timing.Timing.{Timing}
use Rattle.command_words.specs.Kinds.{is_wr}
use Rattle.speed_bin.specs.Marks.{stays_inside}
use Rattle.speed_bin.specs.Rules.{broken}
use Rattle.device_core.specs.Steps.{Step, log_of}
use Rattle.device_core.specs.Standing.{with_command}

-- a header of these parts
abbrev pub header_of : Timing → Settings → ℕ → ℕ → Header
header_of timing settings cycle groups = record {
  timing = timing;
  settings = settings;
  version = record { cycle = cycle; groups = groups };
}

abbrev pub Script : Type 0
Script = List (ℕ × ℕ × Option ℕ × Bool)

-- the bytes that a command has
abbrev pub bytes_for : Command → List ℕ → Option (List ℕ)
bytes_for command bytes = if is_wr command then Some bytes else None

-- the steps with a command that words spell
abbrev pub followed : ℕ → Result Command WordFault → List ℕ → List Step → List Step
followed clock (Ok command) bytes steps = with_command clock command (bytes_for command bytes) steps
followed clock (Err fault) bytes steps = steps

-- the steps once the script is played
abbrev pub played : List ℕ → Script → List Step → List Step
played bytes [] steps = steps
played bytes ((clock, first, second, raised) ∷ script) steps = played bytes script (followed clock (decode_of (record { first = first; second = second })) bytes steps)

-- the command is legal there
abbrev pub may_follow : Header → ℕ → Result Command WordFault → List Step → Bool
may_follow h clock (Ok command) steps = nat_lt clock (2 ^ 48) && (stays_inside h command && is_none (broken h clock command (log_of steps)))
may_follow h clock (Err fault) steps = false

-- each command of the script is legal in its place
abbrev pub is_legal : Header → List ℕ → Script → List Step → Bool
is_legal h bytes [] steps = true
is_legal h bytes ((clock, first, second, raised) ∷ script) steps =
    may_follow h clock (decode_of (record { first = first; second = second })) steps
    && is_legal h bytes script (followed clock (decode_of (record { first = first; second = second })) bytes steps)

-- the place of line 0
abbrev pub first_place : Place
first_place = record { bank = record { group = 0; address = 0 }; row = 0; column = 0 }
