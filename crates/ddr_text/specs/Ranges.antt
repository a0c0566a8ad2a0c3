-- Commands whose parts are within a subchannel. Only such a command has a spelling of its own.
use Rattle.std.specs.Prelude.{◌<◌, ⊤}
use Rattle.command_words.specs.Geometry.{Shape}
use Rattle.command_words.specs.declared.place.Bank.{Bank}
use Rattle.command_words.specs.declared.command.Command.{Command}
use Rattle.command_words.specs.declared.command.Command.TheVariants.{Act, Rd, Wr, PrePb, PreSb, PreAb, RefAb, RefSb, RfmAb, RfmSb, Mrw, Ecs, Nop}

pub record IsBankOf (g : Shape) (bank : Bank) : Type 0 where
  pub group : bank.group < g.groups
  pub address : bank.address < 4

-- the bank, the row and the column are those of the subchannel, and a register write has two bytes
abbrev pub IsCommandOf : Shape → Command → Type 0
IsCommandOf g (Act bank row) = IsBankOf g bank × (row < g.rows)
IsCommandOf g (Rd bank column) = IsBankOf g bank × (column < 64)
IsCommandOf g (Wr bank column) = IsBankOf g bank × (column < 64)
IsCommandOf g (PrePb bank) = IsBankOf g bank
IsCommandOf g (PreSb address) = address < 4
IsCommandOf g PreAb = ⊤
IsCommandOf g RefAb = ⊤
IsCommandOf g (RefSb address) = address < 4
IsCommandOf g RfmAb = ⊤
IsCommandOf g (RfmSb address) = address < 4
IsCommandOf g (Mrw write) = (write.address < 256) × (write.value < 256)
IsCommandOf g Ecs = ⊤
IsCommandOf g Nop = ⊤
