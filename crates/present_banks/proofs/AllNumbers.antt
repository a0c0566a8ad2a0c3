-- Over all 32 numbers of banks the definitions are those of `speed_bin`: those that do not go back over a log by
-- computation, the others by an induction of which each step is one.
use Rattle.std.proofs.Common.{◌≡◌, ◌∙◌, ℕ, suc, Bool, ◌&&◌, not, refl, ap, [], ◌∷◌, List, Option, length}
use Rattle.command_words.specs.declared.command.Command.{Command}
use Rattle.command_words.specs.Kinds.{effect, is_rfm_all}
use Rattle.speed_bin.specs.Alert.{alert, alert_after, closes_some, is_hot}
use Rattle.speed_bin.specs.Below.{all_below}
use Rattle.speed_bin.specs.Gap.{gap, meet}
use Rattle.speed_bin.specs.Log.{Log}
use Rattle.speed_bin.specs.Page.{keeps_page, last_row, reopens}
use Rattle.speed_bin.specs.Rules.{all_closed, first_failing, is_wanted, rule_2, rule_5, rules_at, rules_at_end, verdict, verdict_after, verdict_at_end}
use Rattle.speed_bin.specs.declared.header.Header.{Header}
use Rattle.speed_bin.specs.declared.timing.Timing.{Timing}
use Rattle.present_banks.specs.Over.{alert_over, all_closed_over, closes_some_over, gap_over, is_hot_over, is_wanted_over, keeps_page_over, meet_over, rule_2_over, rule_5_over, rules_at_over, rules_at_end_over, verdict_over, verdict_at_end_over}
use Rattle.present_banks.proofs.Agreeing.{same_rules, same_rules_at_end}

-- ---- By computation

all_meet : (first second : Command) → meet first second ≡ meet_over 32 first second
all_meet first second = refl

all_gaps : (t : Timing) (first second : Command) → gap t first second ≡ gap_over 32 t first second
all_gaps t first second = refl

all_spaced : (t : Timing) (clock : ℕ) (command : Command) (log : Log) → rule_2 t clock command log ≡ rule_2_over 32 t clock command log
all_spaced t clock command log = refl

all_covered : (command : Command) (log : Log) → rule_5 command log ≡ rule_5_over 32 command log
all_covered command log = refl

all_shut : (log : Log) → all_closed log ≡ all_closed_over 32 log
all_shut log = refl

all_hot : (h : Header) (log : Log) → is_hot h log ≡ is_hot_over 32 h log
all_hot h log = refl

all_closings : (command : Command) (log : Log) → closes_some command log ≡ closes_some_over 32 command log
all_closings command log = refl

all_wanted : (h : Header) (command : Command) (log : Log) → is_wanted h command log ≡ is_wanted_over 32 h command log
all_wanted h command log = refl

-- ---- By induction

pub all_alerts : (h : Header) (log : Log) → alert h log ≡ alert_over 32 h log
all_alerts h [] = refl
all_alerts h (place ∷ log) = ap (alert_after (is_rfm_all place.command) (closes_some place.command log && is_hot h (place ∷ log)) place.clock) (all_alerts h log)

pub all_pages : (log : Log) → keeps_page log ≡ keeps_page_over 32 log
all_pages [] = refl
all_pages (place ∷ log) = ap (λ (t : Bool). t && all_below 32 (λ b. not (reopens (effect b place.command) (last_row b log)))) (all_pages log)

pub all_rules : (h : Header) (clock : ℕ) (command : Command) (log : Log) → rules_at h clock command log ≡ rules_at_over 32 h clock command log
all_rules h clock command log = same_rules 32 h clock command log refl refl refl (all_alerts h log)

pub all_rules_at_end : (h : Header) (clock : ℕ) (log : Log) → rules_at_end h clock log ≡ rules_at_end_over 32 h clock log
all_rules_at_end h clock log = same_rules_at_end 32 h clock log refl (all_alerts h log)

pub all_verdicts : (h : Header) (log : Log) → verdict h log ≡ verdict_over 32 h log
all_verdicts h [] = refl
all_verdicts h (place ∷ log) =
    ap (λ (o : Option (ℕ × ℕ)). verdict_after o (suc (length log)) (first_failing 1 (rules_at h place.clock place.command log))) (all_verdicts h log)
    ∙ ap (λ (tests : List Bool). verdict_after (verdict_over 32 h log) (suc (length log)) (first_failing 1 tests)) (all_rules h place.clock place.command log)

pub all_verdicts_at_end : (h : Header) (clock : ℕ) (log : Log) → verdict_at_end h clock log ≡ verdict_at_end_over 32 h clock log
all_verdicts_at_end h clock log =
    ap (λ (o : Option (ℕ × ℕ)). verdict_after o (suc (length log)) (first_failing 1 (rules_at_end h clock log))) (all_verdicts h log)
    ∙ ap (λ (tests : List Bool). verdict_after (verdict_over 32 h log) (suc (length log)) (first_failing 1 tests)) (all_rules_at_end h clock log)
