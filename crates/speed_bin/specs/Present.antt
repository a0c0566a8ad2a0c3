-- The banks that there are: those of the header's groups. The definitions of a log test all 32 numbers of banks; a log
-- whose commands name only banks that there are leaves the others as they are at the start, so both ways agree.
use Rattle.std.specs.Prelude.{ℕ, ◌*◌, Bool, true, nat_lt, [], ◌∷◌, IsTrue, ⊤}
use Rattle.command_words.specs.Command.{bank_number}
use Rattle.command_words.specs.declared.place.Bank.{Bank}
use Rattle.command_words.specs.declared.command.Command.{Command}
use Rattle.command_words.specs.declared.command.Command.TheVariants.{Act, Rd, Wr, PrePb}
use Rattle.speed_bin.specs.Log.{Log}

-- the banks of so many groups have the numbers below this
abbrev pub banks_of : ℕ → ℕ
banks_of groups = groups * 4

-- the bank is one of so many groups
abbrev pub is_present : ℕ → Bank → Bool
is_present groups bank = nat_lt (bank_number bank) (banks_of groups)

-- a command that names one bank names one of so many groups
abbrev pub has_bank : ℕ → Command → Bool
has_bank groups (Act bank row) = is_present groups bank
has_bank groups (Rd bank column) = is_present groups bank
has_bank groups (Wr bank column) = is_present groups bank
has_bank groups (PrePb bank) = is_present groups bank
has_bank groups _ = true

-- each command of the log does
abbrev pub HasBanks : ℕ → Log → Type 0
HasBanks groups [] = ⊤
HasBanks groups (place ∷ log) = HasBanks groups log × IsTrue (has_bank groups place.command)
