-- How long the commands of a log take together.
use Rattle.std.specs.Prelude.{ℕ, suc, ◌+◌, ◌≤◌, Bool, true, false, if◌then◌else◌, [], ◌∷◌, ⊤}
use Rattle.command_words.specs.declared.command.Command.{Command}
use Rattle.command_words.specs.declared.command.Command.TheVariants.{RefAb, RefSb, Ecs}
use Rattle.speed_bin.specs.Gap.{n_max}
use Rattle.speed_bin.specs.Log.{Log}
use Rattle.speed_bin.specs.declared.header.Header.{Header}
use Rattle.speed_bin.specs.declared.timing.Timing.{Timing}

-- a command blocks others for so long at the most
abbrev pub span : Timing → Command → ℕ
span t RefAb = t.nrfc
span t (RefSb address) = t.nrfcsb
span t Ecs = t.necs
span t command = n_max t

-- the spans of all commands together
abbrev pub spans : Timing → Log → ℕ
spans t [] = 0
spans t (place ∷ log) = span t place.command + spans t log

-- neither REF nor ECS
abbrev pub is_other : Command → Bool
is_other RefAb = false
is_other (RefSb address) = false
is_other Ecs = false
is_other command = true

-- how many commands are neither REF nor ECS
abbrev pub others : Log → ℕ
others [] = 0
others (place ∷ log) = if is_other place.command then suc (others log) else others log

-- every place is over by this clock
abbrev pub AllOver : Timing → ℕ → Log → Type 0
AllOver t y [] = ⊤
AllOver t y (place ∷ log) = (place.clock + span t place.command ≤ y) × AllOver t y log

-- now and the idle target are not later than the idle clocks and the spans together
pub record WithinSpans (h : Header) (log : Log) (now until idle : ℕ) : Type 0 where
  pub y : ℕ
  pub over : AllOver h.timing y log
  pub by_now : now ≤ y
  pub by_until : until ≤ y
  pub bound : y ≤ idle + spans h.timing log
