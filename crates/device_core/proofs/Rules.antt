-- What a legal log keeps.
use Rattle.std.proofs.Common.{◌≡◌, ℕ, suc, ◌^◌, ◌<◌, ◌≤◌, Bool, true, false, refl, arith, Some, None, List, [], ◌∷◌, length, ltb-true, ◌⊎◌, inl, inr, sym, ◌∙◌}
use Rattle.command_words.specs.Command.{bank_number, IsBank, IsInRange}
use Rattle.command_words.specs.declared.command.Command.{Command}
use Rattle.command_words.specs.declared.command.Command.TheVariants.{Act}
use Rattle.command_words.specs.declared.place.Bank.{Bank}
use Rattle.speed_bin.specs.declared.header.Header.{Header}
use Rattle.speed_bin.specs.Counts.{peak}
use Rattle.speed_bin.specs.Header.{IsAccepted, bound}
use Rattle.speed_bin.specs.Log.{Log, open_at}
use Rattle.speed_bin.specs.Marks.{Keeps, BanksInRange, opens_inside}
use Rattle.speed_bin.specs.Present.{has_bank, HasBanks}
use Rattle.speed_bin.proofs.Present.{absent_closed}
use Rattle.speed_bin.proofs.Splits.{below_or_not}
use Rattle.speed_bin.proofs.Tests.{both}
use Rattle.speed_bin.specs.Rules.{first_failing, rules_at, rule_1, rule_14}
use Rattle.speed_bin.proofs.Audits.{AllTrue, peak_bounded, all_pass}
use Rattle.speed_bin.proofs.Bounds.{sound_log}
use Rattle.bank_state.specs.Standing.{Fits}
use Rattle.row_activity.specs.Counted.{MayCount}
use Rattle.device_core.specs.Legal.{IsLegal, AllLegal}

-- each of the fourteen tests of a legal command holds
pub passes : (h : Header) (clock : ℕ) (command : Command) (log : Log) → IsLegal h clock command log → AllTrue (rules_at h clock command log)
passes h clock command log legal = all_pass 1 (rules_at h clock command log) legal.rules

-- so it can be counted
pub counted : (h : Header) (clock : ℕ) (command : Command) (log : Log) → IsLegal h clock command log → MayCount h clock command log
counted h clock command log legal =
    let k = passes h clock command log legal in
    record {
      in_time = legal.in_time;
      in_range = legal.in_range;
      kept = record {
        in_range = legal.row;
        first = k.0;
        second = k.1.0;
        fourth = k.1.1.1.0;
        fifth = k.1.1.1.1.0;
        twelfth = k.1.1.1.1.1.1.1.1.1.1.1.0;
      };
    }

-- it finds its banks open or closed as it needs them
pub fits : (h : Header) (clock : ℕ) (command : Command) (log : Log) → IsLegal h clock command log → Fits command log
fits h clock command log legal = let k = passes h clock command log legal in record { fourth = k.1.1.1.0; fifth = k.1.1.1.1.0 }

keeps_log : (h : Header) (log : Log) → AllLegal h log → Keeps h log
keeps_log h [] legal = tt
keeps_log h (place ∷ log) legal = (keeps_log h log legal.0, (counted h place.clock place.command log legal.1).kept)

pub low_bank : (bank : Bank) → IsBank bank → bank_number bank < 32
low_bank bank inside = let g = inside.group in let a = inside.address in omega arith

low_act : (command : Command) (bank : Bank) (row : ℕ) → IsInRange command → command ≡ Act bank row → bank_number bank < 32
low_act command bank row inside is = go (rw is at inside)
  where
    go : IsBank bank × (row < 65536) → bank_number bank < 32
    go p = low_bank bank p.0

banks_in_range : (h : Header) (log : Log) → AllLegal h log → BanksInRange log
banks_in_range h [] legal = tt
banks_in_range h (place ∷ log) legal = (banks_in_range h log legal.0, λ bank row is. low_act place.command bank row legal.1.in_range is)

-- no row is activated more often than the bound
pub peak_within : (h : Header) (log : Log) → IsAccepted h → AllLegal h log → peak h log ≤ bound h
peak_within h log accepted legal = peak_bounded h log accepted (keeps_log h log legal) (banks_in_range h log legal)

-- ---- The banks that there are

has_banks : (h : Header) (log : Log) → AllLegal h log → HasBanks h.version.groups log
has_banks h [] legal = tt
has_banks h (place ∷ log) legal = (has_banks h log legal.0, (both (opens_inside h place.command) (has_bank h.version.groups place.command) legal.1.row).1)

-- a bank that is open is one of the header's groups
pub open_group : (h : Header) (bank : Bank) (row : ℕ) (log : Log) → AllLegal h log → open_at (bank_number bank) log ≡ Some row → bank.group < h.version.groups
open_group h bank row log legal is = go (below_or_not bank.group h.version.groups)
  where
    go : (bank.group < h.version.groups) ⊎ (h.version.groups ≤ bank.group) → bank.group < h.version.groups
    go (inl low) = low
    go (inr high) = let none = absent_closed h.version.groups (bank_number bank) log (omega (arith, high)) (has_banks h log legal) in let k : None ≡ Some row = sym none ∙ is in absurd (cc)

-- a log has fewer places than its next clock
pub is_short : (h : Header) (clock : ℕ) (log : Log) → AllLegal h log → rule_1 clock log ≡ true → length log ≤ clock
is_short h clock [] legal rises = omega arith
is_short h clock (place ∷ log) legal rises =
    let earlier = is_short h place.clock log legal.0 (passes h place.clock place.command log legal.1).0 in
    let below : place.clock < clock = ltb-true _ _ rises in
    omega arith

pub short_log : (h : Header) (clock : ℕ) (command : Command) (log : Log) → AllLegal h log → IsLegal h clock command log → length log < 2 ^ 48
short_log h clock command log all legal =
    let few = is_short h clock log all (passes h clock command log legal).0 in
    let early = legal.in_time in
    omega arith

-- ---- Open rows

-- the open row of a bank is one of the header's
pub open_inside : (h : Header) (b row : ℕ) (log : Log) → IsAccepted h → AllLegal h log → b < 32 → open_at b log ≡ Some row → row < h.settings.rows
open_inside h b row log accepted legal low is = (sound_log h b log low (let r = accepted.settings.rows.0 in omega arith) (keeps_log h log legal)).inside row is

pub rule_14_holds : (h : Header) (clock : ℕ) (command : Command) (log : Log) → IsLegal h clock command log → rule_14 h command log ≡ true
rule_14_holds h clock command log legal = (passes h clock command log legal).1.1.1.1.1.1.1.1.1.1.1.1.1.0
