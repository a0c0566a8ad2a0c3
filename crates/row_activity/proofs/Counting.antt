-- What a log that can be counted keeps.
use Rattle.std.proofs.Common.{◌≡◌, ℕ, ◌^◌, ◌<◌, ◌≤◌, true, arith, Some, [], ◌∷◌, length, ltb-true}
use Rattle.command_words.specs.Command.{bank_number, IsInRange, IsBank}
use Rattle.command_words.specs.declared.command.Command.{Command}
use Rattle.command_words.specs.declared.command.Command.TheVariants.{Act}
use Rattle.command_words.specs.declared.place.Bank.{Bank}
use Rattle.speed_bin.specs.declared.header.Header.{Header}
use Rattle.speed_bin.specs.Counters.{acts, counters}
use Rattle.speed_bin.specs.Counts.{peak}
use Rattle.speed_bin.specs.Header.{IsAccepted, bound}
use Rattle.speed_bin.specs.Log.{Log, open_at}
use Rattle.speed_bin.specs.Marks.{Keeps, BanksInRange}
use Rattle.speed_bin.specs.Rules.{rule_1}
use Rattle.speed_bin.proofs.Audits.{peak_bounded}
use Rattle.speed_bin.proofs.Bounds.{sound_log}
use Rattle.speed_bin.proofs.Rows.{Sound}
use Rattle.row_activity.specs.Counted.{MayCount, AllCounted}

pub keeps_log : (h : Header) (log : Log) → AllCounted h log → Keeps h log
keeps_log h [] counted = tt
keeps_log h (place ∷ log) counted = (keeps_log h log counted.0, counted.1.kept)

low_bank : (command : Command) (bank : Bank) (row : ℕ) → IsInRange command → command ≡ Act bank row → bank_number bank < 32
low_bank command bank row inside is = go (rw is at inside)
  where
    go : IsBank bank × (row < 65536) → bank_number bank < 32
    go p = let g = p.0.group in let a = p.0.address in omega arith

banks_in_range : (h : Header) (log : Log) → AllCounted h log → BanksInRange log
banks_in_range h [] counted = tt
banks_in_range h (place ∷ log) counted = (banks_in_range h log counted.0, λ bank row is. low_bank place.command bank row counted.1.in_range is)

-- a log has fewer places than its next clock
is_short : (h : Header) (clock : ℕ) (log : Log) → AllCounted h log → rule_1 clock log ≡ true → length log ≤ clock
is_short h clock [] counted rises = omega arith
is_short h clock (place ∷ log) counted rises =
    let earlier = is_short h place.clock log counted.0 counted.1.kept.first in
    let below : place.clock < clock = ltb-true _ _ rises in
    omega arith

pub short_log : (h : Header) (clock : ℕ) (command : Command) (log : Log) → AllCounted h log → MayCount h clock command log → length log < 2 ^ 48
short_log h clock command log all here =
    let few = is_short h clock log all here.kept.first in
    let early = here.in_time in
    omega arith

pub peak_within : (h : Header) (log : Log) → IsAccepted h → AllCounted h log → peak h log ≤ bound h
peak_within h log accepted counted = peak_bounded h log accepted (keeps_log h log counted) (banks_in_range h log counted)

-- ---- Activations and counters

pub sound : (h : Header) (b : ℕ) (log : Log) → IsAccepted h → AllCounted h log → b < 32 → Sound h.settings.rows (open_at b log) (counters h b log) (λ row. acts h b row log)
sound h b log accepted counted low = sound_log h b log low (let r = accepted.settings.rows.0 in omega arith) (keeps_log h log counted)

-- the open row of a bank is one of the header's
pub open_inside : (h : Header) (b row : ℕ) (log : Log) → IsAccepted h → AllCounted h log → b < 32 → open_at b log ≡ Some row → row < h.settings.rows
open_inside h b row log accepted counted low is = (sound h b log accepted counted low).inside row is
