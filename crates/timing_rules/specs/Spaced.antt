-- A list whose places each may follow those before it.
use Rattle.std.specs.Prelude.{ℕ, ◌<◌, ◌^◌, Bool, List, [], ◌∷◌}
use Rattle.command_words.specs.declared.command.Command.{Command}
use Rattle.speed_bin.specs.Log.{Log}
use Rattle.speed_bin.specs.Rules.{MayFollow, rule_1, rule_2, rule_3}
use Rattle.speed_bin.specs.declared.timing.Timing.{Timing}

-- each place may follow those before it
abbrev pub IsSpaced : Timing → Log → Type 0
IsSpaced t [] = Unit {0}
IsSpaced t (place ∷ log) = IsSpaced t log × MayFollow t place.clock place.command log

-- each clock is below 2^48
abbrev pub AllSmall : Log → Type 0
AllSmall [] = Unit {0}
AllSmall (place ∷ log) = AllSmall log × (place.clock < 2 ^ 48)

-- whether each of the rules 1 to 3 holds of a command at a clock, after a log
abbrev pub spacing_rules : Timing → ℕ → Command → Log → List Bool
spacing_rules t clock command log = rule_1 clock log ∷ rule_2 t clock command log ∷ rule_3 t clock command log ∷ []
