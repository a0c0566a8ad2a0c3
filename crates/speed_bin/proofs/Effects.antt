-- What the kinds of commands mean for one bank, and what the rules say then.
use Rattle.std.proofs.Common.{◌≡◌, ◌∙◌, ℕ, zero, suc, ◌+◌, ◌<◌, ◌≤◌, Bool, true, false, ◌&&◌, ◌||◌, not, ◌==◌, refl, sym, ap, arith, subst, Option, Some, None, is_none, cond, max, List, [], ◌∷◌, drop, le_trans, leb-true, ltb-true, eqb-true}
use Rattle.command_words.specs.Command.{bank_number, is_at, covers}
use Rattle.command_words.specs.declared.command.Command.{Command}
use Rattle.command_words.specs.declared.command.Command.TheVariants.{Act, PrePb, PreSb, PreAb, RefSb, RfmAb, RfmSb}
use Rattle.speed_bin.specs.declared.header.Header.{Header}
use Rattle.speed_bin.specs.declared.timing.Timing.{Timing}
use Rattle.command_words.specs.Kinds.{Effect, Opens, Closes, Manages, Leaves, effect, is_act, is_precharge, is_rfm_all, needs_closed}
use Rattle.speed_bin.specs.Log.{Issued, Log, open_at}
use Rattle.speed_bin.specs.Alert.{closes, closes_some, alert}
use Rattle.speed_bin.specs.Gap.{Entry, greatest, meet, gap_table, gap}
use Rattle.speed_bin.specs.Rules.{rule_2, rule_4, rule_5, rule_12, until, after}
use Rattle.speed_bin.specs.Marks.{stays_inside}
use Rattle.speed_bin.proofs.Tests.{both, joined, when_not, none_from_test, any_below_at, any_below_none, all_below_at}

-- ---- An effect on a bank tells the kind of the command

-- a test that chooses between an effect and none chose this one
chosen : (t : Bool) (x z : Effect) → (Leaves ≡ z → ⊥) → cond t x Leaves ≡ z → (t ≡ true) × (x ≡ z)
chosen true x z n h = (refl, h)
chosen false x z n h = absurd (n h)

pub opens_act : (b r : ℕ) (c : Command) → effect b c ≡ Opens r → (is_act c ≡ true) × (covers c b ≡ true)
opens_act b r (Act bank row) h = (refl, (chosen (bank_number bank == b) _ _ (λ e. cc) h).0)
opens_act b r (PrePb bank) h = let e = (chosen (bank_number bank == b) _ _ (λ e. cc) h).1 in absurd (cc)
opens_act b r (PreSb address) h = let e = (chosen (is_at address b) _ _ (λ e. cc) h).1 in absurd (cc)
opens_act b r (RefSb address) h = let e = (chosen (is_at address b) _ _ (λ e. cc) h).1 in absurd (cc)
opens_act b r (RfmSb address) h = let e = (chosen (is_at address b) _ _ (λ e. cc) h).1 in absurd (cc)
opens_act b r _ h = absurd (cc)

pub closes_precharge : (b : ℕ) (c : Command) → effect b c ≡ Closes → (is_precharge c ≡ true) × (covers c b ≡ true)
closes_precharge b (PrePb bank) h = (refl, (chosen (bank_number bank == b) _ _ (λ e. cc) h).0)
closes_precharge b (PreSb address) h = (refl, (chosen (is_at address b) _ _ (λ e. cc) h).0)
closes_precharge b PreAb h = (refl, refl)
closes_precharge b (Act bank row) h = let e = (chosen (bank_number bank == b) _ _ (λ e. cc) h).1 in absurd (cc)
closes_precharge b (RefSb address) h = let e = (chosen (is_at address b) _ _ (λ e. cc) h).1 in absurd (cc)
closes_precharge b (RfmSb address) h = let e = (chosen (is_at address b) _ _ (λ e. cc) h).1 in absurd (cc)
closes_precharge b _ h = absurd (cc)

pub manages_rfm : (b : ℕ) (c : Command) → effect b c ≡ Manages → (needs_closed c ≡ true) × (covers c b ≡ true)
manages_rfm b RfmAb h = (refl, refl)
manages_rfm b (RfmSb address) h = (refl, (chosen (is_at address b) _ _ (λ e. cc) h).0)
manages_rfm b (PrePb bank) h = let e = (chosen (bank_number bank == b) _ _ (λ e. cc) h).1 in absurd (cc)
manages_rfm b (PreSb address) h = let e = (chosen (is_at address b) _ _ (λ e. cc) h).1 in absurd (cc)
manages_rfm b (Act bank row) h = let e = (chosen (bank_number bank == b) _ _ (λ e. cc) h).1 in absurd (cc)
manages_rfm b (RefSb address) h = let e = (chosen (is_at address b) _ _ (λ e. cc) h).1 in absurd (cc)
manages_rfm b _ h = absurd (cc)

pub rfm_all_manages : (b : ℕ) (c : Command) → is_rfm_all c ≡ true → effect b c ≡ Manages
rfm_all_manages b RfmAb h = refl
rfm_all_manages b _ h = absurd (cc)

-- an ACT closes nothing, in any bank
act_closes_none : (b : ℕ) (c : Command) (opened : Option ℕ) → is_act c ≡ true → closes (effect b c) opened ≡ false
act_closes_none b (Act bank row) opened h = go (bank_number bank == b)
  where
    go : (t : Bool) → closes (cond t (Opens row) Leaves) opened ≡ false
    go true = refl
    go false = refl
act_closes_none b _ opened h = absurd (cc)

pub act_closes_no_bank : (c : Command) (log : Log) → is_act c ≡ true → closes_some c log ≡ false
act_closes_no_bank c log h = any_below_none 32 (λ b. closes (effect b c) (open_at b log)) (λ b low. act_closes_none b c (open_at b log) h)

pub closes_bank : (b r : ℕ) (c : Command) (log : Log) → b < 32 → effect b c ≡ Closes → open_at b log ≡ Some r → closes_some c log ≡ true
closes_bank b r c log low e o = any_below_at 32 (λ i. closes (effect i c) (open_at i log)) b low (rw (e, o) refl)

-- ---- Gaps

pub meet_at : (b : ℕ) (c e : Command) → b < 32 → covers c b ≡ true → covers e b ≡ true → meet c e ≡ true
meet_at b c e low h k = any_below_at 32 (λ i. covers c i && covers e i) b low (joined (covers c b) (covers e b) h k)

greatest_more : (entry : Entry) (entries : List Entry) → greatest entries ≤ greatest (entry ∷ entries)
greatest_more entry entries = go entry.applies
  where
    go : (t : Bool) → greatest entries ≤ cond t (max entry.clocks (greatest entries)) (greatest entries)
    go true = omega arith
    go false = omega arith

greatest_drop : (n : ℕ) (entries : List Entry) → greatest (drop n entries) ≤ greatest entries
greatest_drop zero entries = omega arith
greatest_drop (suc n) [] = omega arith
greatest_drop (suc n) (entry ∷ entries) = le_trans (greatest_drop n entries) (greatest_more entry entries)

greatest_first : (entry : Entry) (entries : List Entry) → entry.applies ≡ true → entry.clocks ≤ greatest (entry ∷ entries)
greatest_first entry entries h = rw h (omega arith)

pub gap_some : (t : Timing) (c e : Command) → 1 ≤ gap t c e
gap_some t c e = le_trans (greatest_first _ (drop 2 (gap_table t c e)) refl) (greatest_drop 1 (gap_table t c e))

pub gap_acts : (t : Timing) (c e : Command) → is_act c ≡ true → is_act e ≡ true → meet c e ≡ true → t.nrc ≤ gap t c e
gap_acts t c e h k m = le_trans (greatest_first (record { applies = is_act c && (is_act e && meet c e); clocks = t.nrc }) (drop 5 (gap_table t c e)) (joined _ _ h (joined _ _ k m))) (greatest_drop 4 (gap_table t c e))

pub gap_precharge : (t : Timing) (c e : Command) → is_precharge c ≡ true → is_act e ≡ true → meet c e ≡ true → t.nrp ≤ gap t c e
gap_precharge t c e h k m = le_trans (greatest_first (record { applies = is_precharge c && ((is_act e || needs_closed e) && meet c e); clocks = t.nrp }) (drop 17 (gap_table t c e)) (joined _ _ h (joined _ _ (rw k refl) m))) (greatest_drop 16 (gap_table t c e))

-- ---- Rules

pub rule_2_head : (h : Header) (t : ℕ) (c : Command) (place : Issued) (log : Log) → rule_2 h.timing t c (place ∷ log) ≡ true → place.clock + gap h.timing place.command c ≤ t
rule_2_head h t c place log k = leb-true _ _ (both _ _ k).0

pub rule_2_tail : (h : Header) (t : ℕ) (c : Command) (place : Issued) (log : Log) → rule_2 h.timing t c (place ∷ log) ≡ true → rule_2 h.timing t c log ≡ true
rule_2_tail h t c place log k = (both _ _ k).1

pub rule_4_opens : (b r : ℕ) (c : Command) (log : Log) → effect b c ≡ Opens r → rule_4 c log ≡ true → open_at b log ≡ None
rule_4_opens b r (Act bank row) log e k =
    let same : bank_number bank ≡ b = eqb-true _ _ (chosen (bank_number bank == b) _ _ (λ e. cc) e).0 in
    ap (λ (i : ℕ). open_at i log) (sym same) ∙ none_from_test _ k
rule_4_opens b r c log e k = let p = (opens_act b r c e).0 in absurd (cc)

pub rule_5_manages : (b : ℕ) (c : Command) (log : Log) → b < 32 → effect b c ≡ Manages → rule_5 c log ≡ true → open_at b log ≡ None
rule_5_manages b c log low e k =
    let p = manages_rfm b c e in
    let each = when_not _ _ k p.0 in
    let own = all_below_at 32 (λ i. not (covers c i) || is_none (open_at i log)) b each low in
    none_from_test _ (when_not _ _ own p.1)

pub rule_12_opens : (h : Header) (a clock : ℕ) (c : Command) (log : Log) → is_act c ≡ true → alert h log ≡ Some a → rule_12 h clock c log ≡ true → clock ≤ a + h.timing.nabo
rule_12_opens h a clock c log act raised k =
    let u : until clock (after (alert h log) h.timing.nabo) ≡ true = when_not _ _ k act in
    leb-true _ _ (rw raised at u)

pub in_range_opens : (h : Header) (b r : ℕ) (c : Command) → effect b c ≡ Opens r → stays_inside h c ≡ true → r < h.settings.rows
in_range_opens h b r (Act bank row) e k =
    let same : row ≡ r = go (bank_number bank == b) e in
    subst (λ (i : ℕ). i < h.settings.rows) same (ltb-true _ _ (both _ _ k).0)
  where
    go : (t : Bool) → cond t (Opens row) Leaves ≡ Opens r → row ≡ r
    go true f = cc
    go false f = absurd (cc)
in_range_opens h b r c e k = let p = (opens_act b r c e).0 in absurd (cc)
