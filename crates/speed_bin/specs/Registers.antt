-- The register writes of a header, by the table of `docs/FORMATS.md`.
use Rattle.std.specs.Prelude.{ℕ, ◌+◌, ◌-◌, ◌*◌, ◌/◌, ◌%◌, List, [], ◌∷◌}
use Rattle.command_words.specs.declared.command.Mrw.{Mrw as Write}
use Rattle.speed_bin.specs.declared.settings.RefreshMode.{RefreshMode}
use Rattle.speed_bin.specs.declared.settings.RefreshMode.TheVariants.{All, Same}
use Rattle.speed_bin.specs.declared.settings.Settings.{Settings}

abbrev pub mode_bit : RefreshMode → ℕ
mode_bit All = 0
mode_bit Same = 1

-- the high bits of both thresholds and of RAAMMT, and the refresh mode
abbrev pub high_bits : Settings → ℕ
high_bits s = s.ath / 256 + 4 * (s.eth / 256) + 16 * (s.raammt / 256) + 64 * mode_bit s.refresh

-- the eight writes, in their order
abbrev pub register_writes : Settings → List Write
register_writes s =
    record { address = 64; value = (s.rows - 1) % 256 }
    ∷ record { address = 65; value = (s.rows - 1) / 256 }
    ∷ record { address = 66; value = s.ath % 256 }
    ∷ record { address = 67; value = s.eth % 256 }
    ∷ record { address = 68; value = high_bits s }
    ∷ record { address = 69; value = s.raaimt }
    ∷ record { address = 70; value = s.raammt % 256 }
    ∷ record { address = 71; value = s.ecs_every }
    ∷ []
