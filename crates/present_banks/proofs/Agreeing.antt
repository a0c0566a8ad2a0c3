-- Each test over the header's own banks comes to the same as over all 32 numbers.
use Rattle.std.proofs.Common.{◌≡◌, ◌∙◌, ◌⊎◌, inl, inr, ℕ, suc, ◌+◌, ◌<◌, ◌≤◌, Bool, true, ◌&&◌, not, refl, ap, subst, arith, [], ◌∷◌, List, Option, None, length, nat_le}
use Rattle.std.specs.Prelude.{IsSome, IsTrue}
use Rattle.command_words.specs.Geometry.{IsGroups}
use Rattle.command_words.specs.Kinds.{effect, is_rfm_all}
use Rattle.command_words.specs.declared.command.Command.{Command}
use Rattle.speed_bin.specs.Alert.{alert, alert_after, is_hot}
use Rattle.speed_bin.specs.Below.{all_below}
use Rattle.speed_bin.specs.Gap.{gap}
use Rattle.speed_bin.specs.Header.{IsAccepted}
use Rattle.speed_bin.specs.Log.{Log, open_at}
use Rattle.speed_bin.specs.Marks.{RowsInRange, stays_inside, opens_inside}
use Rattle.speed_bin.specs.Page.{keeps_page, last_row, reopens}
use Rattle.speed_bin.specs.Present.{has_bank, HasBanks}
use Rattle.speed_bin.specs.Rules.{all_closed, first_failing, is_wanted, rule_2, rule_5, rules_at, rules_at_end, verdict, verdict_after, verdict_at_end}
use Rattle.speed_bin.specs.declared.header.Header.{Header}
use Rattle.speed_bin.specs.declared.timing.Timing.{Timing}
use Rattle.speed_bin.proofs.Present.{Absent, absent_closed, all_closed_agrees, closes_some_agrees, has_banks, is_hot_agrees, is_wanted_agrees, keeps_page_agrees, meet_agrees, rule_5_agrees}
use Rattle.speed_bin.proofs.Splits.{below_or_not}
use Rattle.speed_bin.proofs.Tests.{both}
use Rattle.present_banks.specs.Over.{banks_of_header, alert_over, all_closed_over, closes_some_over, gap_over, gap_where, is_hot_over, is_wanted_over, keeps_page_over, rule_2_over, rule_5_over, rules_at_over, rules_at_end_over, verdict_over, verdict_at_end_over}

-- ---- The rules, once their parts agree

-- the ten tests that speak of no more than one bank are the same on both sides
pub same_rules : (banks : ℕ) (h : Header) (clock : ℕ) (command : Command) (log : Log)
    → rule_2 h.timing clock command log ≡ rule_2_over banks h.timing clock command log → rule_5 command log ≡ rule_5_over banks command log
    → is_wanted h command log ≡ is_wanted_over banks h command log → alert h log ≡ alert_over banks h log
    → rules_at h clock command log ≡ rules_at_over banks h clock command log
same_rules banks h clock command log second fifth wanted raised = rw (second, fifth, wanted, raised) refl

pub same_rules_at_end : (banks : ℕ) (h : Header) (clock : ℕ) (log : Log) → all_closed log ≡ all_closed_over banks log → alert h log ≡ alert_over banks h log
    → rules_at_end h clock log ≡ rules_at_end_over banks h clock log
same_rules_at_end banks h clock log shut raised = rw (shut, raised) refl

-- ---- What an accepted header gives

pub record Ready (h : Header) : Type 0 where
  pub absent : ℕ
  pub are_absent : Absent h.version.groups absent
  pub some_groups : 1 ≤ h.version.groups
  pub ath : 1 ≤ h.settings.ath
  pub raaimt : 1 ≤ h.settings.raaimt

absent_of : (groups : ℕ) → IsGroups groups → (k : ℕ) × Absent groups k
absent_of groups (inl four) = (16, omega (arith, four))
absent_of groups (inr eight) = (0, omega (arith, eight))

some_of : (groups : ℕ) → IsGroups groups → 1 ≤ groups
some_of groups (inl four) = omega (arith, four)
some_of groups (inr eight) = omega (arith, eight)

pub ready : (h : Header) → IsAccepted h → Ready h
ready h ok = record {
  absent = (absent_of h.version.groups ok.version.2).0;
  are_absent = (absent_of h.version.groups ok.version.2).1;
  some_groups = some_of h.version.groups ok.version.2;
  ath = ok.settings.ath.0;
  raaimt = ok.settings.raaimt.0;
}

pub own_bank : (h : Header) (command : Command) → IsTrue (stays_inside h command) → has_bank h.version.groups command ≡ true
own_bank h command inside = (both (opens_inside h command) (has_bank h.version.groups command) inside).1

-- ---- Spacing

gap_agrees : (h : Header) (t : Timing) (first second : Command) → Ready h → has_bank h.version.groups first ≡ true → has_bank h.version.groups second ≡ true
    → gap t first second ≡ gap_over (banks_of_header h) t first second
gap_agrees h t first second r one two = ap (λ (together : Bool). gap_where together t first second) (meet_agrees h.version.groups r.absent first second r.some_groups r.are_absent one two)

pub rule_2_agrees : (h : Header) (t : Timing) (clock : ℕ) (command : Command) (log : Log) → Ready h → HasBanks h.version.groups log → has_bank h.version.groups command ≡ true
    → rule_2 t clock command log ≡ rule_2_over (banks_of_header h) t clock command log
rule_2_agrees h t clock command [] r has own = refl
rule_2_agrees h t clock command (place ∷ log) r has own =
    ap (λ (n : ℕ). nat_le (place.clock + n) clock && rule_2 t clock command log) (gap_agrees h t place.command command r has.1 own)
    ∙ ap (λ (rest : Bool). nat_le (place.clock + gap_over (banks_of_header h) t place.command command) clock && rest) (rule_2_agrees h t clock command log r has.0 own)

-- ---- The alert

pub alert_agrees : (h : Header) (log : Log) → Ready h → HasBanks h.version.groups log → alert h log ≡ alert_over (banks_of_header h) h log
alert_agrees h [] r has = refl
alert_agrees h (place ∷ log) r has =
    ap (λ (shuts : Bool). alert_after (is_rfm_all place.command) (shuts && is_hot h (place ∷ log)) place.clock (alert h log))
    (closes_some_agrees h.version.groups r.absent place.command log r.are_absent has.0)
    ∙ ap (λ (hot : Bool). alert_after (is_rfm_all place.command) (closes_some_over (banks_of_header h) place.command log && hot) place.clock (alert h log))
    (is_hot_agrees h h.version.groups r.absent (place ∷ log) r.ath r.are_absent has)
    ∙ ap (alert_after (is_rfm_all place.command) (closes_some_over (banks_of_header h) place.command log && is_hot_over (banks_of_header h) h (place ∷ log)) place.clock)
    (alert_agrees h log r has.0)

-- ---- The rules and the verdict

pub rules_agree : (h : Header) (clock : ℕ) (command : Command) (log : Log) → Ready h → HasBanks h.version.groups log → has_bank h.version.groups command ≡ true
    → rules_at h clock command log ≡ rules_at_over (banks_of_header h) h clock command log
rules_agree h clock command log r has own =
    same_rules (banks_of_header h) h clock command log (rule_2_agrees h h.timing clock command log r has own) (rule_5_agrees h.version.groups r.absent command log r.are_absent has)
    (is_wanted_agrees h h.version.groups r.absent command log r.raaimt r.are_absent has) (alert_agrees h log r has)

pub rules_agree_at_end : (h : Header) (clock : ℕ) (log : Log) → Ready h → HasBanks h.version.groups log → rules_at_end h clock log ≡ rules_at_end_over (banks_of_header h) h clock log
rules_agree_at_end h clock log r has = same_rules_at_end (banks_of_header h) h clock log (all_closed_agrees h.version.groups r.absent log r.are_absent has) (alert_agrees h log r has)

pub verdict_agrees : (h : Header) (log : Log) → Ready h → HasBanks h.version.groups log → verdict h log ≡ verdict_over (banks_of_header h) h log
verdict_agrees h [] r has = refl
verdict_agrees h (place ∷ log) r has =
    ap (λ (o : Option (ℕ × ℕ)). verdict_after o (suc (length log)) (first_failing 1 (rules_at h place.clock place.command log))) (verdict_agrees h log r has.0)
    ∙ ap (λ (tests : List Bool). verdict_after (verdict_over (banks_of_header h) h log) (suc (length log)) (first_failing 1 tests)) (rules_agree h place.clock place.command log r has.0 has.1)

pub verdict_agrees_at_end : (h : Header) (clock : ℕ) (log : Log) → Ready h → HasBanks h.version.groups log → verdict_at_end h clock log ≡ verdict_at_end_over (banks_of_header h) h clock log
verdict_agrees_at_end h clock log r has =
    ap (λ (o : Option (ℕ × ℕ)). verdict_after o (suc (length log)) (first_failing 1 (rules_at_end h clock log))) (verdict_agrees h log r has)
    ∙ ap (λ (tests : List Bool). verdict_after (verdict_over (banks_of_header h) h log) (suc (length log)) (first_failing 1 tests)) (rules_agree_at_end h clock log r has)

-- ---- Open page, and open banks

pub page_agrees : (h : Header) (log : Log) → Ready h → HasBanks h.version.groups log → keeps_page log ≡ keeps_page_over (banks_of_header h) log
page_agrees h [] r has = refl
page_agrees h (place ∷ log) r has =
    keeps_page_agrees h.version.groups r.absent place log r.are_absent has.0
    ∙ ap (λ (t : Bool). t && all_below (banks_of_header h) (λ b. not (reopens (effect b place.command) (last_row b log)))) (page_agrees h log r has.0)

pub open_is_present : (h : Header) (b : ℕ) (log : Log) → RowsInRange h log → IsSome (open_at b log) → b < banks_of_header h
open_is_present h b log inside opened = go (below_or_not b (banks_of_header h))
  where
    go : (b < banks_of_header h) ⊎ (banks_of_header h ≤ b) → b < banks_of_header h
    go (inl low) = low
    go (inr high) = let shut = absent_closed h.version.groups b log high (has_banks h log inside) in absurd (let none : IsSome {T = ℕ} None = subst IsSome shut opened in cc)
