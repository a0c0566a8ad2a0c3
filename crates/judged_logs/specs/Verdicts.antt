-- The rules of which only some groups are judged. Spacing and open banks (rules 1 to 5) always are.
use Rattle.std.specs.Prelude.{ℕ, suc, Bool, true, false, ◌&&◌, nat_le, if◌then◌else◌, List, [], ◌∷◌, length, Option, None, is_none}
use Rattle.command_words.specs.declared.command.Command.{Command}
use Rattle.speed_bin.specs.Alert.{alert}
use Rattle.speed_bin.specs.Below.{all_below}
use Rattle.speed_bin.specs.Log.{Log}
use Rattle.speed_bin.specs.Rules.{all_closed, first_failing, is_on_time, verdict_after, rule_1, rule_2, rule_3, rule_4, rule_5, rule_6, rule_7, rule_8, rule_9, rule_10, rule_11, rule_12, rule_13, rule_14}
use Rattle.speed_bin.specs.declared.header.Header.{Header}
use Rattle.judged_logs.specs.declared.judged.Judged.{Judged}

abbrev pub everything : Judged
everything = record { refresh = true; management = true; backoff = true; frame = true }

-- the test passes, or its group is not judged
abbrev pub where_judged : Bool → Bool → Bool
where_judged true test = test
where_judged false test = true

-- whether a rule, by its number, is judged
abbrev pub is_judged : Judged → ℕ → Bool
is_judged j rule = if nat_le rule 5 then true else (if nat_le rule 8 then j.refresh else (if nat_le rule 10 then j.management else (if nat_le rule 13 then j.backoff else j.frame)))

-- ---- The tests of each group

-- refreshes and scrubs: rules 6 to 8
abbrev pub refresh_tests : Bool → Header → ℕ → Command → Log → List Bool
refresh_tests judged h clock command log = where_judged judged (rule_6 h clock command log) ∷ where_judged judged (rule_7 command log) ∷ where_judged judged (rule_8 h command log) ∷ []

-- rolling counts: rules 9 and 10
abbrev pub count_tests : Bool → Header → Command → Log → List Bool
count_tests judged h command log = where_judged judged (rule_9 h command log) ∷ where_judged judged (rule_10 h command log) ∷ []

-- the alert: rules 11 to 13
abbrev pub alert_tests : Bool → Header → ℕ → Command → Log → List Bool
alert_tests judged h clock command log = where_judged judged (rule_11 h command log) ∷ where_judged judged (rule_12 h clock command log) ∷ where_judged judged (rule_13 h clock log) ∷ []

-- the register writes that a log begins with: rule 14
abbrev pub frame_tests : Bool → Header → Command → Log → List Bool
frame_tests judged h command log = where_judged judged (rule_14 h command log) ∷ []

-- at the end, no refresh is late
abbrev pub is_refreshed : Header → ℕ → Log → Bool
is_refreshed h clock log = all_below 4 (λ address. is_on_time h clock address log)

-- The end of a log: there are the eight register writes and no open bank. That no alert is raised is asked where the alert
-- is judged too.
abbrev pub is_complete : Judged → Header → Log → Bool
is_complete j h log = nat_le 8 (length log) && (all_closed log && where_judged j.backoff (is_none (alert h log)))

-- ---- The verdict

-- whether each of the rules 1 to 14 holds of a command at a clock, after a log, or is not judged
abbrev pub rules_at : Judged → Header → ℕ → Command → Log → List Bool
rules_at j h clock command log =
    rule_1 clock log ∷ rule_2 h.timing clock command log ∷ rule_3 h.timing clock command log ∷ rule_4 command log ∷ rule_5 command log
    ∷ where_judged j.refresh (rule_6 h clock command log) ∷ where_judged j.refresh (rule_7 command log) ∷ where_judged j.refresh (rule_8 h command log)
    ∷ where_judged j.management (rule_9 h command log) ∷ where_judged j.management (rule_10 h command log)
    ∷ where_judged j.backoff (rule_11 h command log) ∷ where_judged j.backoff (rule_12 h clock command log) ∷ where_judged j.backoff (rule_13 h clock log)
    ∷ where_judged j.frame (rule_14 h command log) ∷ []

-- the same at the end
abbrev pub rules_at_end : Judged → Header → ℕ → Log → List Bool
rules_at_end j h clock log =
    rule_1 clock log ∷ true ∷ true ∷ true ∷ true ∷ where_judged j.refresh (is_refreshed h clock log) ∷ true ∷ true ∷ true ∷ true
    ∷ true ∷ true ∷ where_judged j.backoff (rule_13 h clock log) ∷ where_judged j.frame (is_complete j h log) ∷ []

-- the least judged rule that fails there
unfoldable pub broken : Judged → Header → ℕ → Command → Log → Option ℕ
broken j h clock command log = first_failing 1 (rules_at j h clock command log)

unfoldable pub broken_at_end : Judged → Header → ℕ → Log → Option ℕ
broken_at_end j h clock log = first_failing 1 (rules_at_end j h clock log)

-- the first place at which a judged rule fails, and the least one that fails there
abbrev pub verdict : Judged → Header → Log → Option (ℕ × ℕ)
verdict j h [] = None
verdict j h (place ∷ log) = verdict_after (verdict j h log) (suc (length log)) (broken j h place.clock place.command log)

-- the same with the end, which is the last place
abbrev pub verdict_at_end : Judged → Header → ℕ → Log → Option (ℕ × ℕ)
verdict_at_end j h clock log = verdict_after (verdict j h log) (suc (length log)) (broken_at_end j h clock log)
