-- The definitions of a log that speak of all banks, over so many of them: over those whose numbers are below the first
-- argument. Each is that of `speed_bin` but for this number; what speaks of one bank, or of none, stands there alone.
use Rattle.std.specs.Prelude.{ℕ, zero, suc, ◌+◌, Bool, true, not, ◌&&◌, ◌||◌, nat_le, List, [], ◌∷◌, length, max, Option, None, is_none, is_some}
use Rattle.std.specs.List.{list_all}
use Rattle.command_words.specs.Command.{covers}
use Rattle.command_words.specs.Kinds.{effect, is_act, is_rfm_all, is_rfm_same, needs_closed}
use Rattle.command_words.specs.declared.command.Command.{Command}
use Rattle.speed_bin.specs.Alert.{alert_after, closes}
use Rattle.speed_bin.specs.Below.{all_below, any_below}
use Rattle.speed_bin.specs.Counters.{acts, cnt}
use Rattle.speed_bin.specs.Gap.{gap_table_where, greatest, n_tail}
use Rattle.speed_bin.specs.Log.{Log, open_at, raa}
use Rattle.speed_bin.specs.Page.{last_row, reopens}
use Rattle.speed_bin.specs.Present.{banks_of}
use Rattle.speed_bin.specs.Rules.{after, first_failing, is_on_time, rule_1, rule_3, rule_4, rule_6, rule_7, rule_8, rule_9, rule_14, until, verdict_after}
use Rattle.speed_bin.specs.declared.header.Header.{Header}
use Rattle.speed_bin.specs.declared.timing.Timing.{Timing}

-- how many banks the header has
abbrev pub banks_of_header : Header → ℕ
banks_of_header h = banks_of h.version.groups

-- ---- Spacing

-- some bank is covered by both
abbrev pub meet_over : ℕ → Command → Command → Bool
meet_over banks first second = any_below banks (λ b. covers first b && covers second b)

-- the gap of two commands of which it is known whether they meet
abbrev pub gap_where : Bool → Timing → Command → Command → ℕ
gap_where together t first second = greatest (gap_table_where together t first second)

-- how many clocks the second command stands behind the first, at the least
abbrev pub gap_over : ℕ → Timing → Command → Command → ℕ
gap_over banks t first second = gap_where (meet_over banks first second) t first second

-- the gap to every earlier place is kept
abbrev pub rule_2_over : ℕ → Timing → ℕ → Command → Log → Bool
rule_2_over banks t clock command log = list_all (λ place. nat_le (place.clock + gap_over banks t place.command command) clock) log

-- ---- Open banks

-- REF, RFM, ECS and MRW need every bank that they cover closed
abbrev pub rule_5_over : ℕ → Command → Log → Bool
rule_5_over banks command log = not (needs_closed command) || all_below banks (λ b. not (covers command b) || is_none (open_at b log))

abbrev pub all_closed_over : ℕ → Log → Bool
all_closed_over banks log = all_below banks (λ b. is_none (open_at b log))

-- ---- The alert

-- some row's counter is at least ATH
abbrev pub is_hot_over : ℕ → Header → Log → Bool
is_hot_over banks h log = any_below banks (λ b. any_below h.settings.rows (λ row. nat_le h.settings.ath (cnt h b row log)))

-- the command closes an open row of some bank
abbrev pub closes_some_over : ℕ → Command → Log → Bool
closes_some_over banks command log = any_below banks (λ b. closes (effect b command) (open_at b log))

-- the clock at which the alert was raised, if it is
abbrev pub alert_over : ℕ → Header → Log → Option ℕ
alert_over banks h [] = None
alert_over banks h (place ∷ log) = alert_after (is_rfm_all place.command) (closes_some_over banks place.command log && is_hot_over banks h (place ∷ log)) place.clock (alert_over banks h log)

abbrev pub rule_12_over : ℕ → Header → ℕ → Command → Log → Bool
rule_12_over banks h clock command log = not (is_act command) || until clock (after (alert_over banks h log) h.timing.nabo)

abbrev pub rule_13_over : ℕ → Header → ℕ → Log → Bool
rule_13_over banks h clock log = until clock (after (alert_over banks h log) (h.timing.nabo + n_tail h.timing))

-- ---- Refresh management

-- some covered bank is at RAAIMT or more
abbrev pub is_wanted_over : ℕ → Header → Command → Log → Bool
is_wanted_over banks h command log = any_below banks (λ b. covers command b && nat_le h.settings.raaimt (raa h b log))

abbrev pub rule_10_over : ℕ → Header → Command → Log → Bool
rule_10_over banks h command log = not (is_rfm_same command) || is_wanted_over banks h command log

abbrev pub rule_11_over : ℕ → Header → Command → Log → Bool
rule_11_over banks h command log = not (is_rfm_all command) || (is_wanted_over banks h command log || is_some (alert_over banks h log))

-- ---- The verdict

-- whether each of the rules 1 to 14 holds of a command at a clock, after a log
abbrev pub rules_at_over : ℕ → Header → ℕ → Command → Log → List Bool
rules_at_over banks h clock command log =
    rule_1 clock log ∷ rule_2_over banks h.timing clock command log ∷ rule_3 h.timing clock command log ∷ rule_4 command log ∷ rule_5_over banks command log
    ∷ rule_6 h clock command log ∷ rule_7 command log ∷ rule_8 h command log ∷ rule_9 h command log ∷ rule_10_over banks h command log
    ∷ rule_11_over banks h command log ∷ rule_12_over banks h clock command log ∷ rule_13_over banks h clock log ∷ rule_14 h command log ∷ []

-- the same at the end
abbrev pub rules_at_end_over : ℕ → Header → ℕ → Log → List Bool
rules_at_end_over banks h clock log =
    rule_1 clock log ∷ true ∷ true ∷ true ∷ true ∷ all_below 4 (λ address. is_on_time h clock address log) ∷ true ∷ true ∷ true ∷ true
    ∷ true ∷ true ∷ rule_13_over banks h clock log ∷ (nat_le 8 (length log) && (all_closed_over banks log && is_none (alert_over banks h log))) ∷ []

-- the first place at which a rule fails, and the least rule that fails there
abbrev pub verdict_over : ℕ → Header → Log → Option (ℕ × ℕ)
verdict_over banks h [] = None
verdict_over banks h (place ∷ log) = verdict_after (verdict_over banks h log) (suc (length log)) (first_failing 1 (rules_at_over banks h place.clock place.command log))

-- the same with the end, which is the last place
abbrev pub verdict_at_end_over : ℕ → Header → ℕ → Log → Option (ℕ × ℕ)
verdict_at_end_over banks h clock log = verdict_after (verdict_over banks h log) (suc (length log)) (first_failing 1 (rules_at_end_over banks h clock log))

-- ---- Open page

-- no ACT opens the row that the last ACT of its bank opened, unless a REF, RFM or ECS that covers the bank stands between
abbrev pub keeps_page_over : ℕ → Log → Bool
keeps_page_over banks [] = true
keeps_page_over banks (place ∷ log) = keeps_page_over banks log && all_below banks (λ b. not (reopens (effect b place.command) (last_row b log)))

-- ---- Activations

-- the greatest of the values at the numbers below n
unfoldable pub greatest_below : ℕ → (ℕ → ℕ) → ℕ
greatest_below zero value = 0
greatest_below (suc n) value = max (value n) (greatest_below n value)

-- the greatest number of activations of a row since its last mitigation, of so many banks, of all rows and places
abbrev pub peak_over : ℕ → Header → Log → ℕ
peak_over banks h [] = 0
peak_over banks h (place ∷ log) =
    max (greatest_below banks (λ b. greatest_below h.settings.rows (λ row. acts h b row (place ∷ log)))) (peak_over banks h log)
