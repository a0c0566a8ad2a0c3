-- What a line of a command trace says, by the name and the address that stand there.
use Rattle.std.specs.Prelude.{ℕ, ◌≡◌, ◌+◌, Option, unwrap_or, ⊤}
use Rattle.command_words.specs.declared.command.Command.{Command}
use Rattle.command_words.specs.declared.command.Command.TheVariants.{Act, Rd, Wr, PrePb, PreSb, PreAb, RefAb, RefSb, RfmAb, RfmSb}
use Rattle.command_words.specs.declared.place.Bank.{Bank}
use Rattle.foreign_traces.specs.declared.address.At.TheVariants.{Number}
use Rattle.foreign_traces.specs.declared.command_trace.Entry.{Entry}
use Rattle.foreign_traces.specs.declared.command_trace.Entry.TheVariants.{Issued, Lacking as LackingEntry, Nothing}
use Rattle.foreign_traces.specs.declared.command_trace.Target.{Target}
use Rattle.foreign_traces.specs.declared.names.Name.{Name}
use Rattle.foreign_traces.specs.declared.names.Name.TheVariants.{Act as NamedAct, Rd as NamedRd, Wr as NamedWr, PrePb as NamedPrePb, PreSb as NamedPreSb, PreAb as NamedPreAb, RefAb as NamedRefAb, RefSb as NamedRefSb, RfmAb as NamedRfmAb, RfmSb as NamedRfmSb, Lacking as NamedLacking}
use Rattle.foreign_traces.specs.declared.report_of.Placed.{Placed}
use Rattle.foreign_traces.specs.declared.report_of.Placed.TheVariants.{At, Out, Refused}

-- the bank that stands there
abbrev pub IsBankAt : Target → Bank → Type 0
IsBankAt target bank = (target.group ≡ Number bank.group) × (target.bank ≡ Number bank.address)

-- the command of the name, at the place that stands there
abbrev pub IsSaid : Name → Target → Command → Type 0
IsSaid NamedAct target (Act bank row) = IsBankAt target bank × (target.row ≡ Number row)
IsSaid NamedRd target (Rd bank column) = IsBankAt target bank × (target.column ≡ Number column)
IsSaid NamedWr target (Wr bank column) = IsBankAt target bank × (target.column ≡ Number column)
IsSaid NamedPrePb target (PrePb bank) = IsBankAt target bank
IsSaid NamedPreSb target (PreSb address) = target.bank ≡ Number address
IsSaid NamedPreAb target PreAb = ⊤
IsSaid NamedRefAb target RefAb = ⊤
IsSaid NamedRefSb target (RefSb address) = target.bank ≡ Number address
IsSaid NamedRfmAb target RfmAb = ⊤
IsSaid NamedRfmSb target (RfmSb address) = target.bank ≡ Number address
IsSaid _ target _ = ⊥

-- the same of a line with this clock, also where the model lacks its command
abbrev pub IsEntrySaid : ℕ → Name → Target → Entry → Type 0
IsEntrySaid clock name target (Issued at command) = (at ≡ clock) × IsSaid name target command
IsEntrySaid clock name target (LackingEntry lacking) = name ≡ NamedLacking lacking
IsEntrySaid clock name target Nothing = ⊥

-- a command is shifted so that the first one, at its clock of the trace, would stand at `begin`
abbrev pub IsShifted : Option ℕ → ℕ → Placed → Type 0
IsShifted first begin (At placed) = placed.clock + unwrap_or first placed.traced ≡ begin + placed.traced
IsShifted first begin Out = ⊤
IsShifted first begin (Refused fault) = ⊤
