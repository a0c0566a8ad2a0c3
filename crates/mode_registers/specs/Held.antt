-- The contents of the eight registers 64 to 71, in their order, each None until it is written.
use Rattle.std.specs.Prelude.{ℕ, ◌+◌, ◌-◌, ◌*◌, ◌/◌, ◌%◌, ◌==◌, if◌then◌else◌, List, [], ◌∷◌, Option, None, Some, slice_set, replicate}
use Rattle.command_words.specs.declared.command.Mrw.{Mrw as Write}
use Rattle.speed_bin.specs.declared.settings.RefreshMode.{RefreshMode}
use Rattle.speed_bin.specs.declared.settings.RefreshMode.TheVariants.{All, Same}
use Rattle.speed_bin.specs.declared.settings.Settings.{Settings}

abbrev pub unwritten : List (Option ℕ)
unwritten = replicate 8 None

abbrev pub written : List (Option ℕ) → Write → List (Option ℕ)
written held write = slice_set held (write.address - 64) (Some write.value)

-- two bits of a register, the lower of which is worth so much
abbrev pub pair_at : ℕ → ℕ → ℕ
pair_at worth value = value / worth % 4

abbrev pub mode_in : ℕ → RefreshMode
mode_in high = if high / 64 % 2 == 1 then Same else All

-- the settings that the registers hold, where all eight are written
abbrev pub settings_in : List (Option ℕ) → Option Settings
settings_in (Some rows_low ∷ Some rows_high ∷ Some ath ∷ Some eth ∷ Some high ∷ Some raaimt ∷ Some raammt ∷ Some ecs_every ∷ []) =
    Some (record {
      rows = 256 * rows_high + rows_low + 1;
      ath = 256 * pair_at 1 high + ath;
      eth = 256 * pair_at 4 high + eth;
      raaimt = raaimt;
      raammt = 256 * pair_at 16 high + raammt;
      refresh = mode_in high;
      ecs_every = ecs_every;
    })
settings_in held = None
