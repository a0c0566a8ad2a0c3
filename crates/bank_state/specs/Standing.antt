-- What open rows say of a log.
use Rattle.std.specs.Prelude.{◌≡◌, ℕ, ◌<◌, List, [], ◌∷◌, Option, length, IsTrue, ⊤}
use Rattle.command_words.specs.declared.command.Command.{Command}
use Rattle.speed_bin.specs.Log.{Log, open_at}
use Rattle.speed_bin.specs.Rules.{rule_4, rule_5}
use Rattle.bank_state.specs.Rows.{row_of}

-- rules 4 and 5 hold of the command after the log
pub record Fits (command : Command) (log : Log) : Type 0 where
  pub fourth : IsTrue (rule_4 command log)
  pub fifth : IsTrue (rule_5 command log)

-- each place of the log fits those before it
abbrev pub AllFit : Log → Type 0
AllFit [] = ⊤
AllFit (place ∷ log) = AllFit log × Fits place.command log

-- at each of the 32 numbers of banks stands the open row of the log
pub record Keeps (rows : List (Option ℕ)) (log : Log) : Type 0 where
  pub banks : length rows ≡ 32
  pub open_rows : (b : ℕ) → b < 32 → row_of rows b ≡ open_at b log
  pub fitted : AllFit log

-- the rows stand for the log; how is their own affair
unfoldable pub StandsFor : List (Option ℕ) → Log → Type 0
StandsFor rows log = Keeps rows log

-- the rows stand for some log after which the command fits
abbrev pub MayIssue : List (Option ℕ) → Command → Type 0
MayIssue rows command = ∥ ((log : Log) × (StandsFor rows log) × Fits command log) ∥₁

-- the rows stand for some log
abbrev pub StandsForSome : List (Option ℕ) → Type 0
StandsForSome rows = ∥ ((log : Log) × StandsFor rows log) ∥₁
