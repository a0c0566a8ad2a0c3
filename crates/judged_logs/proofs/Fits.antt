-- The ranges of a command that a report may hold.
use Rattle.std.proofs.Common.{◌*◌, lt-ltb, ◌≡◌, true, nat_lt, refl, arith, ltb-true}
use Rattle.command_words.specs.Command.{bank_number, IsBank, IsInRange}
use Rattle.command_words.specs.declared.command.Command.{Command}
use Rattle.command_words.specs.declared.command.Command.TheVariants.{Act, Rd, Wr, PrePb, PreSb, PreAb, RefAb, RefSb, RfmAb, RfmSb, Mrw, Ecs, Nop}
use Rattle.command_words.specs.declared.place.Bank.{Bank}
use Rattle.ddr_text.specs.ReportGrammar.{has_place}
use Rattle.speed_bin.specs.Header.{shape_of}
use Rattle.speed_bin.specs.Marks.{is_bank, stays_inside}
use Rattle.speed_bin.specs.declared.header.Header.{Header}
use Rattle.speed_bin.proofs.Tests.{both, joined}

own_bank : (h : Header) (bank : Bank) → IsBank bank → nat_lt bank.group h.version.groups ≡ true → is_bank h bank ≡ true
own_bank h bank inside here = let low = ltb-true bank.group h.version.groups here in let a = inside.address in lt-ltb (bank_number bank) (h.version.groups * 4) (omega (arith, low, a))

pub in_range : (h : Header) (command : Command) → IsInRange command → has_place (shape_of h) command ≡ true → stays_inside h command ≡ true
in_range h (Act bank row) inside e =
    let p = both (nat_lt row h.settings.rows) (nat_lt bank.group h.version.groups) e in
    joined (nat_lt row h.settings.rows) (is_bank h bank) p.0 (own_bank h bank inside.0 p.1)
in_range h (Rd bank column) inside e = own_bank h bank inside.0 e
in_range h (Wr bank column) inside e = own_bank h bank inside.0 e
in_range h (PrePb bank) inside e = own_bank h bank inside e
in_range h (PreSb address) inside e = refl
in_range h PreAb inside e = refl
in_range h RefAb inside e = refl
in_range h (RefSb address) inside e = refl
in_range h RfmAb inside e = refl
in_range h (RfmSb address) inside e = refl
in_range h (Mrw write) inside e = refl
in_range h Ecs inside e = refl
in_range h Nop inside e = refl
