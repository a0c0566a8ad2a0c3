-- What an alert says of a log.
use Rattle.std.specs.Prelude.{◌≡◌, ℕ, ◌<◌, ◌^◌, [], ◌∷◌, Option, IsTrue, ⊤}
use Rattle.command_words.specs.Kinds.{is_precharge}
use Rattle.speed_bin.specs.Log.{Log}
use Rattle.speed_bin.specs.Alert.{alert}
use Rattle.speed_bin.specs.declared.header.Header.{Header}

-- the clocks of the precharges are below 2^48
abbrev pub AllInTime : Log → Type 0
AllInTime [] = ⊤
AllInTime (place ∷ log) = AllInTime log × (IsTrue (is_precharge place.command) → place.clock < 2 ^ 48)

-- the clock at which it was raised, if it is raised, is that of the log
pub record Keeps (it : Option ℕ) (h : Header) (log : Log) : Type 0 where
  pub raised : it ≡ alert h log
  pub clocks : AllInTime log

-- the alert stands for the log; how is its own affair
unfoldable pub StandsFor : Option ℕ → Header → Log → Type 0
StandsFor it h log = Keeps it h log
