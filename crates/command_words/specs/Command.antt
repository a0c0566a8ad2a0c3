-- Which banks a command acts on. A bank is spoken of by its number, group * 4 + address, which is below 32.
use Rattle.std.specs.Prelude.{ℕ, ◌<◌, ◌+◌, ◌*◌, ◌%◌, Bool, true, false, ◌==◌}
use Rattle.command_words.specs.declared.place.Bank.{Bank}
use Rattle.command_words.specs.declared.command.Command.{Command}
use Rattle.command_words.specs.declared.command.Command.TheVariants.{Act, Rd, Wr, PrePb, PreSb, PreAb, RefAb, RefSb, RfmAb, RfmSb, Mrw, Ecs, Nop}

abbrev pub bank_number : Bank → ℕ
bank_number bank = bank.group * 4 + bank.address

-- the bank with this number has this bank address
abbrev pub is_at : ℕ → ℕ → Bool
is_at address bank = bank % 4 == address

-- the command covers the bank with this number: its own bank, the banks with its address in every group, or all banks
abbrev pub covers : Command → ℕ → Bool
covers (Act bank row) b = bank_number bank == b
covers (Rd bank column) b = bank_number bank == b
covers (Wr bank column) b = bank_number bank == b
covers (PrePb bank) b = bank_number bank == b
covers (PreSb address) b = is_at address b
covers PreAb b = true
covers RefAb b = true
covers (RefSb address) b = is_at address b
covers RfmAb b = true
covers (RfmSb address) b = is_at address b
covers (Mrw write) b = true
covers Ecs b = true
covers Nop b = false

-- the parts of a bank are within their ranges
pub record IsBank (bank : Bank) : Type 0 where
  pub group : bank.group < 8
  pub address : bank.address < 4

-- the parts of a command are within their ranges
abbrev pub IsInRange : Command → Type 0
IsInRange (Act bank row) = IsBank bank × (row < 65536)
IsInRange (Rd bank column) = IsBank bank × (column < 64)
IsInRange (Wr bank column) = IsBank bank × (column < 64)
IsInRange (PrePb bank) = IsBank bank
IsInRange (PreSb address) = address < 4
IsInRange PreAb = Unit {0}
IsInRange RefAb = Unit {0}
IsInRange (RefSb address) = address < 4
IsInRange RfmAb = Unit {0}
IsInRange (RfmSb address) = address < 4
IsInRange (Mrw write) = (write.address < 256) × (write.value < 256)
IsInRange Ecs = Unit {0}
IsInRange Nop = Unit {0}
