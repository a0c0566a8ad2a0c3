-- Before the last write a device holds no settings.
use Rattle.std.proofs.Common.{ℕ, zero, suc, ◌≡◌, ◌<◌, None, fold, take, arith, refl}
use Rattle.speed_bin.specs.Registers.{register_writes}
use Rattle.speed_bin.specs.declared.settings.Settings.{Settings}
use Rattle.mode_registers.specs.Held.{unwritten, written, settings_in}

pub told-before : (told : Settings) (count : ℕ) → count < 8 → settings_in (fold written unwritten (take count (register_writes told))) ≡ None
told-before told zero below = refl
told-before told (suc zero) below = refl
told-before told (suc (suc zero)) below = refl
told-before told (suc (suc (suc zero))) below = refl
told-before told (suc (suc (suc (suc zero)))) below = refl
told-before told (suc (suc (suc (suc (suc zero))))) below = refl
told-before told (suc (suc (suc (suc (suc (suc zero)))))) below = refl
told-before told (suc (suc (suc (suc (suc (suc (suc zero))))))) below = refl
told-before told (suc (suc (suc (suc (suc (suc (suc (suc n)))))))) below = absurd (omega arith)
