-- Which writes are refused.
use Rattle.std.specs.Prelude.{ℕ, Bool, ◌&&◌, ◌||◌, ◌==◌, nat_lt, nat_le, if◌then◌else◌, Result, Ok, Err}
use Rattle.command_words.specs.declared.command.Mrw.{Mrw as Write}
use Rattle.mode_registers.specs.declared.registers.RegisterFault.{RegisterFault}
use Rattle.mode_registers.specs.declared.registers.RegisterFault.TheVariants.{NoRegister, BadValue}

-- the address is 64 to 71
abbrev pub is_register : ℕ → Bool
is_register address = nat_le 64 address && nat_le address 71

-- register 68 leaves bit 7 at 0, and register 69 holds at least 8
abbrev pub is_bad : Write → Bool
is_bad write = (write.address == 68 && nat_le 128 write.value) || (write.address == 69 && nat_lt write.value 8)

-- what a write is answered, whatever the registers hold
abbrev pub outcome : Write → Result (Unit {0}) RegisterFault
outcome write = if is_register write.address then (if is_bad write then Err BadValue else Ok tt) else Err NoRegister
