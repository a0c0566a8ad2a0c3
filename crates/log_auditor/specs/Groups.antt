-- The rules of a command by what decides them.
use Rattle.std.specs.Prelude.{ℕ, Bool, List, [], ◌∷◌, Option}
use Rattle.command_words.specs.declared.command.Command.{Command}
use Rattle.speed_bin.specs.Log.{Log}
use Rattle.speed_bin.specs.Rules.{rule_12, rule_13, broken, broken_at_end}
use Rattle.speed_bin.specs.declared.header.Header.{Header}

-- the alert
abbrev pub alert_rules : Header → ℕ → Command → Log → List Bool
alert_rules h clock command log = rule_12 h clock command log ∷ rule_13 h clock log ∷ []

-- the least rule that fails
unfoldable pub first_broken : Header → ℕ → Command → Log → Option ℕ
first_broken h clock command log = broken h clock command log

-- the same at the end
unfoldable pub first_broken_at_end : Header → ℕ → Log → Option ℕ
first_broken_at_end h clock log = broken_at_end h clock log
