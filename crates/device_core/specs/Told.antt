-- What the registers of a device hold.
use Rattle.std.specs.Prelude.{ℕ, List, Option, take, fold}
use Rattle.speed_bin.specs.declared.header.Header.{Header}
use Rattle.speed_bin.specs.Registers.{register_writes}
use Rattle.mode_registers.specs.Held.{unwritten, written}

-- the registers after so many of the header's writes
abbrev pub told : Header → ℕ → List (Option ℕ)
told h count = fold written unwritten (take count (register_writes h.settings))
