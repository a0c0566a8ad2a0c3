-- The fourteen rules of a log. Each is a test of a command at a clock, after a log; the verdict is the first place at
-- which a test fails, and the least rule that fails there. `docs/RULES.md` has them in words.
use Rattle.std.specs.Prelude.{ℕ, suc, ◌+◌, ◌/◌, Bool, true, false, not, ◌&&◌, ◌||◌, ◌==◌, nat_lt, nat_le, if◌then◌else◌, List, [], ◌∷◌, length, filter, slice_get, Option, Some, None, is_none, is_some, IsTrue}
use Rattle.std.specs.List.{list_all}
use Rattle.command_words.specs.Command.{bank_number, covers}
use Rattle.command_words.specs.declared.command.Command.{Command}
use Rattle.command_words.specs.declared.command.Command.TheVariants.{Act, Rd, Wr, Mrw}
use Rattle.command_words.specs.declared.command.Mrw.{Mrw as Write}
use Rattle.speed_bin.specs.Below.{all_below, any_below}
use Rattle.command_words.specs.Kinds.{is_act, is_rfm_all, is_rfm_same, is_scrub, needs_closed, refreshes}
use Rattle.speed_bin.specs.Log.{Log, open_at, refs, scrubs, raa}
use Rattle.speed_bin.specs.Alert.{alert}
use Rattle.speed_bin.specs.Gap.{gap, n_tail}
use Rattle.speed_bin.specs.Registers.{register_writes}
use Rattle.speed_bin.specs.declared.header.Header.{Header}
use Rattle.speed_bin.specs.declared.timing.Timing.{Timing}

-- ---- Spacing

-- clocks rise strictly
abbrev pub rule_1 : ℕ → Log → Bool
rule_1 clock [] = true
rule_1 clock (place ∷ log) = nat_lt place.clock clock

-- the gap to every earlier place is kept
abbrev pub rule_2 : Timing → ℕ → Command → Log → Bool
rule_2 t clock command log = list_all (λ place. nat_le (place.clock + gap t place.command command) clock) log

-- of five ACTs in a row, the last is at least nFAW after the first (the standard's window of four activations)
abbrev pub rule_3 : Timing → ℕ → Command → Log → Bool
rule_3 t clock command log = if is_act command then fourth (filter (λ place. is_act place.command) log) else true
  where
    fourth : Log → Bool
    fourth (a ∷ b ∷ c ∷ d ∷ rest) = nat_le (d.clock + t.nfaw) clock
    fourth _ = true

-- the command may follow the log at this clock under the three rules of spacing
pub record MayFollow (t : Timing) (clock : ℕ) (command : Command) (log : Log) : Type 0 where
  pub rises : IsTrue (rule_1 clock log)
  pub gaps : IsTrue (rule_2 t clock command log)
  pub window : IsTrue (rule_3 t clock command log)

-- ---- Open banks

-- ACT needs its bank closed; RD and WR need it open
abbrev pub rule_4 : Command → Log → Bool
rule_4 (Act bank row) log = is_none (open_at (bank_number bank) log)
rule_4 (Rd bank column) log = is_some (open_at (bank_number bank) log)
rule_4 (Wr bank column) log = is_some (open_at (bank_number bank) log)
rule_4 _ log = true

-- REF, RFM, ECS and MRW need every bank that they cover closed
abbrev pub rule_5 : Command → Log → Bool
rule_5 command log = not (needs_closed command) || all_below 32 (λ b. not (covers command b) || is_none (open_at b log))

-- ---- Refresh and scrub

-- the refreshes of an address less the refresh intervals that passed are -4 to 4: up to four may be postponed or pulled in
abbrev pub is_on_time : Header → ℕ → ℕ → Log → Bool
is_on_time h clock address log = let due = clock / h.timing.nrefi in nat_le due (refs address log + 4) && nat_le (refs address log) (due + 4)

-- that holds of each address, this command among its refreshes
abbrev pub rule_6 : Header → ℕ → Command → Log → Bool
rule_6 h clock command log = all_below 4 (λ address. is_on_time h clock address (record { clock = clock; command = command } ∷ log))

-- the refreshes of two addresses differ by at most 1, this command among them
abbrev pub rule_7 : Command → Log → Bool
rule_7 command log = let with_it = record { clock = 0; command = command } ∷ log in all_below 4 (λ a. all_below 4 (λ b. nat_le (refs a with_it) (refs b with_it + 1)))

-- no ECS where `ecs_every` is 0; otherwise one ECS for each `ecs_every` refreshes of address 0, neither before they
-- were made nor after the next one
abbrev pub rule_8 : Header → Command → Log → Bool
rule_8 h command log = if h.settings.ecs_every == 0 then not (is_scrub command)
    else ((not (is_scrub command) || nat_le (suc (scrubs log)) (refs 0 log / h.settings.ecs_every))
    && (not (refreshes 0 command) || scrubs log == refs 0 log / h.settings.ecs_every))

-- ---- Refresh management

-- ACT needs a rolling count below RAAMMT in its bank
abbrev pub rule_9 : Header → Command → Log → Bool
rule_9 h (Act bank row) log = nat_lt (raa h (bank_number bank) log) h.settings.raammt
rule_9 h _ log = true

-- some covered bank is at RAAIMT or more
abbrev pub is_wanted : Header → Command → Log → Bool
is_wanted h command log = any_below 32 (λ b. covers command b && nat_le h.settings.raaimt (raa h b log))

-- RFMsb needs that
abbrev pub rule_10 : Header → Command → Log → Bool
rule_10 h command log = not (is_rfm_same command) || is_wanted h command log

-- RFMab needs that, or a raised alert
abbrev pub rule_11 : Header → Command → Log → Bool
rule_11 h command log = not (is_rfm_all command) || (is_wanted h command log || is_some (alert h log))

-- ---- The alert

-- the clock is at most the last one, where there is one
abbrev pub until : ℕ → Option ℕ → Bool
until clock None = true
until clock (Some last) = nat_le clock last

abbrev pub after : Option ℕ → ℕ → Option ℕ
after None n = None
after (Some clock) n = Some (clock + n)

-- while the alert is raised, ACT needs a clock at most nABO after it
abbrev pub rule_12 : Header → ℕ → Command → Log → Bool
rule_12 h clock command log = not (is_act command) || until clock (after (alert h log) h.timing.nabo)

-- while the alert is raised, every command needs a clock at most nABO + nTail after it
abbrev pub rule_13 : Header → ℕ → Log → Bool
rule_13 h clock log = until clock (after (alert h log) (h.timing.nabo + n_tail h.timing))

-- ---- Register writes

abbrev pub is_write : Write → Option Write → Bool
is_write write None = false
is_write write (Some due) = write.address == due.address && write.value == due.value

-- the command is the register write that is due at this place, or none where all eight stand before it
abbrev pub rule_14 : Header → Command → Log → Bool
rule_14 h (Mrw write) log = is_write write (slice_get (register_writes h.settings) (length log))
rule_14 h command log = nat_le 8 (length log)

-- ---- The verdict

-- whether each of the rules 1 to 14 holds of a command at a clock, after a log
abbrev pub rules_at : Header → ℕ → Command → Log → List Bool
rules_at h clock command log =
    rule_1 clock log ∷ rule_2 h.timing clock command log ∷ rule_3 h.timing clock command log ∷ rule_4 command log ∷ rule_5 command log
    ∷ rule_6 h clock command log ∷ rule_7 command log ∷ rule_8 h command log ∷ rule_9 h command log ∷ rule_10 h command log
    ∷ rule_11 h command log ∷ rule_12 h clock command log ∷ rule_13 h clock log ∷ rule_14 h command log ∷ []

abbrev pub all_closed : Log → Bool
all_closed log = all_below 32 (λ b. is_none (open_at b log))

-- the same at the end, which has a clock and no command: the last clock has passed, no refresh is late, the alert's
-- time has not passed, and there are the eight register writes, no open bank and no alert
abbrev pub rules_at_end : Header → ℕ → Log → List Bool
rules_at_end h clock log =
    rule_1 clock log ∷ true ∷ true ∷ true ∷ true ∷ all_below 4 (λ address. is_on_time h clock address log) ∷ true ∷ true ∷ true ∷ true
    ∷ true ∷ true ∷ rule_13 h clock log ∷ (nat_le 8 (length log) && (all_closed log && is_none (alert h log))) ∷ []

-- the number of the first test that fails, in a list of tests numbered from the given number
abbrev pub first_failing : ℕ → List Bool → Option ℕ
first_failing n [] = None
first_failing n (test ∷ tests) = if test then first_failing (suc n) tests else Some n

-- the least rule that fails there
abbrev pub broken : Header → ℕ → Command → Log → Option ℕ
broken h clock command log = first_failing 1 (rules_at h clock command log)

abbrev pub broken_at_end : Header → ℕ → Log → Option ℕ
broken_at_end h clock log = first_failing 1 (rules_at_end h clock log)

-- the first place at which a rule fails, and the least rule that fails there
abbrev pub verdict_after : Option (ℕ × ℕ) → ℕ → Option ℕ → Option (ℕ × ℕ)
verdict_after (Some breach) place fails = Some breach
verdict_after None place (Some number) = Some (place, number)
verdict_after None place None = None

abbrev pub verdict : Header → Log → Option (ℕ × ℕ)
verdict h [] = None
verdict h (place ∷ log) = verdict_after (verdict h log) (suc (length log)) (broken h place.clock place.command log)

-- the same with the end, which is the last place
abbrev pub verdict_at_end : Header → ℕ → Log → Option (ℕ × ℕ)
verdict_at_end h clock log = verdict_after (verdict h log) (suc (length log)) (broken_at_end h clock log)
