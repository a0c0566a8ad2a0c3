-- The end of a log comes no later than its idle clocks and its commands allow.
use Rattle.std.proofs.Common.{◌≡◌, ℕ, zero, suc, ◌+◌, ◌-◌, ◌*◌, ◌≤◌, ◌<◌, Bool, true, false, ◌⊎◌, inl, inr, refl, ap, arith, cond, max, [], ◌∷◌, filter, le-leb, lt-ltb, ltb-true, le_trans}
use Rattle.std.proofs.Math.Nat.{mul-le-mul_right, mul-le-mul_left}
use Rattle.command_words.specs.declared.command.Command.{Command}
use Rattle.command_words.specs.declared.command.Command.TheVariants.{RefAb, RefSb, Ecs}
use Rattle.speed_bin.specs.declared.header.Header.{Header}
use Rattle.speed_bin.specs.declared.timing.Timing.{Timing}
use Rattle.speed_bin.specs.Log.{Issued, Log, refs, scrubs}
use Rattle.command_words.specs.Kinds.{is_act, refreshes}
use Rattle.speed_bin.specs.Gap.{gap, n_max}
use Rattle.speed_bin.specs.Rules.{rule_1, rule_2, rule_3, MayFollow}
use Rattle.speed_bin.proofs.Tests.{joined}
use Rattle.requests.specs.Choice.{IsSoonest}
use Rattle.deadlines.specs.Blocking.{AllUpTo}
use Rattle.deadlines.proofs.Moves.{Slack, Reaches, Now, Due, Target}
use Rattle.deadlines.specs.Rounds.{Rounds, next_due}
use Rattle.deadlines.specs.Counts.{is_addressed, AllAddressed}
use Rattle.deadlines.specs.Pace.{span, spans, is_other, others, AllOver, WithinSpans}
use Rattle.deadlines.proofs.Gaps.{gap_max, faw_max, gap_ref_all, gap_ref_same, gap_scrub}
use Rattle.deadlines.proofs.Following.{fourth_back}
use Rattle.deadlines.proofs.Stages.{some_max}
use Rattle.deadlines.proofs.Rounds.{refs_step, scrubs_step, scrubs_scrub, scrubs_all, scrubs_same}

-- ---- All is free once every place is over

some_span : (h : Header) (c : Command) → Slack h → 1 ≤ span h.timing c
some_span h RefAb s = s.some_nrfc
some_span h (RefSb a) s = s.some_nrfcsb
some_span h Ecs s = s.some_necs
some_span h c s = some_max h.timing

at_least_one : (n : ℕ) → 1 ≤ n → max 1 n ≤ n
at_least_one n some = omega arith

gap_span : (h : Header) (c e : Command) → Slack h → gap h.timing c e ≤ span h.timing c
gap_span h RefAb e s = le_trans (gap_ref_all h.timing RefAb e refl) (at_least_one h.timing.nrfc s.some_nrfc)
gap_span h (RefSb a) e s = le_trans (gap_ref_same h.timing (RefSb a) e refl) (at_least_one h.timing.nrfcsb s.some_nrfcsb)
gap_span h Ecs e s = le_trans (gap_scrub h.timing Ecs e refl) (at_least_one h.timing.necs s.some_necs)
gap_span h c e s = gap_max h.timing c e

clear_first : (h : Header) (y : ℕ) (log : Log) → Slack h → AllOver h.timing y log → rule_1 y log ≡ true
clear_first h y [] s k = refl
clear_first h y (place ∷ log) s k = let a = some_span h place.command s in let b = k.0 in lt-ltb _ _ (omega arith)

clear_second : (h : Header) (y : ℕ) (c : Command) (log : Log) → Slack h → AllOver h.timing y log → rule_2 h.timing y c log ≡ true
clear_second h y c [] s k = refl
clear_second h y c (place ∷ log) s k =
    let a = gap_span h place.command c s in
    let b = k.0 in
    joined _ _ (le-leb _ _ (omega arith)) (clear_second h y c log s k.1)

act_span : (t : Timing) (c : Command) → is_act c ≡ true → span t c ≡ n_max t
act_span t RefAb k = absurd (cc)
act_span t (RefSb a) k = absurd (cc)
act_span t Ecs k = absurd (cc)
act_span t c k = refl

-- the clocks of the ACTs, by nMax before the clock at which all is over
acts_clear : (h : Header) (y : ℕ) (log : Log) → AllOver h.timing y log → (m : ℕ) → y ≡ m + n_max h.timing → AllUpTo m (filter (λ (place : Issued). is_act place.command) log)
acts_clear h y [] k m e = tt
acts_clear h y (place ∷ log) k m e = go (is_act place.command) refl (acts_clear h y log k.1 m e)
  where
    rest : Log
    rest = filter (λ (p : Issued). is_act p.command) log

    go : (x : Bool) → is_act place.command ≡ x → AllUpTo m rest → AllUpTo m (cond x (place ∷ rest) rest)
    go true is ih = ((let s = act_span h.timing place.command is in let a = k.0 in omega arith), ih)
    go false is ih = ih

fourth_up : (h : Header) (m t : ℕ) (log : Log) → AllUpTo m log → m + n_max h.timing ≤ t → fourth_back h.timing t log ≡ true
fourth_up h m t [] up more = refl
fourth_up h m t (a ∷ []) up more = refl
fourth_up h m t (a ∷ b ∷ []) up more = refl
fourth_up h m t (a ∷ b ∷ c ∷ []) up more = refl
fourth_up h m t (a ∷ b ∷ c ∷ d ∷ rest) up more =
    let e = up.1.1.1.0 in
    let f = faw_max h.timing in
    le-leb _ _ (omega arith)

-- where y is too small for an ACT to be over, there is none
no_acts : (h : Header) (y : ℕ) (log : Log) → AllOver h.timing y log → y < n_max h.timing → filter (λ (place : Issued). is_act place.command) log ≡ []
no_acts h y [] k low = refl
no_acts h y (place ∷ log) k low = go (is_act place.command) refl (no_acts h y log k.1 low)
  where
    rest : Log
    rest = filter (λ (p : Issued). is_act p.command) log

    go : (x : Bool) → is_act place.command ≡ x → rest ≡ [] → cond x (place ∷ rest) rest ≡ []
    go true is ih = let s = act_span h.timing place.command is in let a = k.0 in absurd (omega arith)
    go false is ih = ih

split : (m n : ℕ) → (m < n) ⊎ ((d : ℕ) × (m ≡ d + n))
split m n = go (cases m n)
  where
    cases : (m n : ℕ) → (m < n) ⊎ (n ≤ m)
    cases m n = grind arith

    go : (m < n) ⊎ (n ≤ m) → (m < n) ⊎ ((d : ℕ) × (m ≡ d + n))
    go (inl low) = inl low
    go (inr more) = inr (m - n, omega arith)

clear_third : (h : Header) (y : ℕ) (c : Command) (log : Log) → AllOver h.timing y log → rule_3 h.timing y c log ≡ true
clear_third h y c log k = go (is_act c) (split y (n_max h.timing))
  where
    acts : Log
    acts = filter (λ (p : Issued). is_act p.command) log

    go : (x : Bool) → (y < n_max h.timing) ⊎ ((d : ℕ) × (y ≡ d + n_max h.timing)) → cond x (fourth_back h.timing y acts) true ≡ true
    go false s = refl
    go true (inl low) = ap (λ (l : Log). fourth_back h.timing y l) (no_acts h y log k low)
    go true (inr p) = fourth_up h p.0 y acts (acts_clear h y log k p.0 p.1) (let e = p.1 in omega arith)

pub clear_may : (h : Header) (y : ℕ) (c : Command) (log : Log) → Slack h → AllOver h.timing y log → MayFollow h.timing y c log
clear_may h y c log s k = record { rises = clear_first h y log s k; gaps = clear_second h y c log s k; window = clear_third h y c log k }

clear_later : (t : Timing) (y z : ℕ) (log : Log) → y ≤ z → AllOver t y log → AllOver t z log
clear_later t y z [] more k = tt
clear_later t y z (place ∷ log) more k = ((let a = k.0 in omega arith), clear_later t y z log more k.1)

-- ---- A turn

-- one more command takes no more than its span, whatever it waited for
pub in_spans_next : (h : Header) (start until idle : ℕ) (place : Issued) (log : Log) → Slack h → (p : WithinSpans h log start until idle) → IsSoonest h log start place.command place.clock → WithinSpans h (place ∷ log) (place.clock + 1) until idle
in_spans_next h start until idle place log s p at =
    let here : place.clock ≤ p.y = at.least p.y p.by_now (clear_may h p.y place.command log s p.over) in
    let some = some_span h place.command s in
    let b = p.bound in
    let u = p.by_until in
    record {
      y = p.y + span h.timing place.command;
      over = (omega arith, clear_later h.timing p.y (p.y + span h.timing place.command) log (omega arith) p.over);
      by_now = omega arith;
      by_until = omega arith;
      bound = omega arith;
    }

-- the e of a candidate is no later, and so is the clock to which now is moved for a refresh that is due there
pub in_spans_due : (h : Header) (now until idle e0 due : ℕ) (c : Command) (log : Log) → Slack h → WithinSpans h log now until idle → (e0 ≡ max now until) ⊎ IsSoonest h log now c e0 → due ≤ e0 → WithinSpans h log (max now due) until idle
in_spans_due h now until idle e0 due c log s p (inl e) low =
    let a = p.by_now in
    let b = p.by_until in
    record { y = p.y; over = p.over; by_now = omega arith; by_until = p.by_until; bound = p.bound }
in_spans_due h now until idle e0 due c log s p (inr at) low =
    let a = p.by_now in
    let k = at.least p.y p.by_now (clear_may h p.y c log s p.over) in
    record { y = p.y; over = p.over; by_now = omega arith; by_until = p.by_until; bound = p.bound }

-- an idle turn, and an I line
pub in_spans_idle : (h : Header) (now until idle : ℕ) (log : Log) → WithinSpans h log now until idle → WithinSpans h log (max now until) until idle
in_spans_idle h now until idle log p = let a = p.by_now in let b = p.by_until in record { y = p.y; over = p.over; by_now = omega arith; by_until = p.by_until; bound = p.bound }

pub in_spans_line : (h : Header) (now until idle clocks : ℕ) (log : Log) → WithinSpans h log now until idle → WithinSpans h log now (now + clocks) (idle + clocks)
in_spans_line h now until idle clocks log p =
    let a = p.by_now in
    let b = p.bound in
    record { y = p.y + clocks; over = clear_later h.timing p.y (p.y + clocks) log (omega arith) p.over; by_now = omega arith; by_until = omega arith; bound = omega arith }

pub in_spans_start : (h : Header) → WithinSpans h [] 0 0 0
in_spans_start h = record { y = 0; over = tt; by_now = omega arith; by_until = omega arith; bound = omega arith }

-- ---- What the refreshes and the scrubs take

unfoldable pub refs_sum : Log → ℕ
refs_sum log = refs 0 log + refs 1 log + refs 2 log + refs 3 log

four_more : (place : Issued) (log : Log) (a b c d : ℕ) → cond (refreshes 0 place.command) 1 0 ≡ a → cond (refreshes 1 place.command) 1 0 ≡ b → cond (refreshes 2 place.command) 1 0 ≡ c → cond (refreshes 3 place.command) 1 0 ≡ d → refs_sum (place ∷ log) ≡ a + b + c + d + refs_sum log
unfolding refs_sum
four_more place log a b c d p q r s =
    let e = refs_step 0 place log in
    let f = refs_step 1 place log in
    let g = refs_step 2 place log in
    let i = refs_step 3 place log in
    omega arith

pub sum_all : (place : Issued) (log : Log) → place.command ≡ RefAb → refs_sum (place ∷ log) ≡ 4 + refs_sum log
sum_all place log e = four_more place log 1 1 1 1 (rw e refl) (rw e refl) (rw e refl) (rw e refl)

pub sum_own : (a : ℕ) (place : Issued) (log : Log) → a < 4 → place.command ≡ RefSb a → refs_sum (place ∷ log) ≡ 1 + refs_sum log
sum_own zero place log low e = four_more place log 1 0 0 0 (rw e refl) (rw e refl) (rw e refl) (rw e refl)
sum_own (suc zero) place log low e = four_more place log 0 1 0 0 (rw e refl) (rw e refl) (rw e refl) (rw e refl)
sum_own (suc (suc zero)) place log low e = four_more place log 0 0 1 0 (rw e refl) (rw e refl) (rw e refl) (rw e refl)
sum_own (suc (suc (suc zero))) place log low e = four_more place log 0 0 0 1 (rw e refl) (rw e refl) (rw e refl) (rw e refl)
sum_own (suc (suc (suc (suc n)))) place log low e = absurd (omega arith)

pub sum_grows : (place : Issued) (log : Log) → refs_sum log ≤ refs_sum (place ∷ log)
sum_grows place log = let e = four_more place log _ _ _ _ refl refl refl refl in omega arith

added : (sp o s t r q m : ℕ) → 4 * sp ≤ 4 * (o * m) + 4 * s + r → s ≤ t → r ≤ q → 4 * (m + sp) ≤ 4 * (suc o * m) + 4 * t + q
added sp o s t r q m ih a b = omega arith

closing_sum : (sp k e r m x p n sum now y idle : ℕ) → 4 * sp ≤ 4 * k + 4 * (e * x) + sum * m → sum * m ≤ (4 * r) * m → e * x ≤ r * x → r * (2 * (m + 5 * p + x)) ≤ r * n → r * n ≤ now → now ≤ y → y ≤ idle + sp → y ≤ 2 * (idle + k)
closing_sum sp k e r m x p n sum now y idle a b c d f g i = omega arith

-- four times the spans, m being at least nRFC and 4 * nRFCsb
pub spans_most : (h : Header) (m : ℕ) (log : Log) → h.timing.nrfc ≤ m → 4 * h.timing.nrfcsb ≤ m → AllAddressed log → 4 * spans h.timing log ≤ 4 * (others log * n_max h.timing) + 4 * (scrubs log * h.timing.necs) + refs_sum log * m
spans_most h m [] all same ok = omega arith
spans_most h m (place ∷ log) all same ok = go place.command refl (spans_most h m log all same ok.1)
  where
    plain : (c : Command) → 4 * spans h.timing log ≤ 4 * (others log * n_max h.timing) + 4 * (scrubs log * h.timing.necs) + refs_sum log * m → 4 * (n_max h.timing + spans h.timing log) ≤ 4 * (suc (others log) * n_max h.timing) + 4 * (scrubs (place ∷ log) * h.timing.necs) + refs_sum (place ∷ log) * m
    plain c ih =
        let g = mul-le-mul_right m (sum_grows place log) in
        let e = scrubs_step place log in
        let f : scrubs log * h.timing.necs ≤ scrubs (place ∷ log) * h.timing.necs = mul-le-mul_right h.timing.necs (omega arith) in
        added (spans h.timing log) (others log) (scrubs log * h.timing.necs) (scrubs (place ∷ log) * h.timing.necs) (refs_sum log * m) (refs_sum (place ∷ log) * m) (n_max h.timing) ih f g

    go : (c : Command) → place.command ≡ c → 4 * spans h.timing log ≤ 4 * (others log * n_max h.timing) + 4 * (scrubs log * h.timing.necs) + refs_sum log * m → 4 * (span h.timing c + spans h.timing log) ≤ 4 * (cond (is_other c) (suc (others log)) (others log) * n_max h.timing) + 4 * (scrubs (place ∷ log) * h.timing.necs) + refs_sum (place ∷ log) * m
    go RefAb is ih =
        let g : refs_sum (place ∷ log) * m ≡ (4 + refs_sum log) * m = ap (λ (n : ℕ). n * m) (sum_all place log is) in
        let f : scrubs (place ∷ log) * h.timing.necs ≡ scrubs log * h.timing.necs = ap (λ (n : ℕ). n * h.timing.necs) (scrubs_all place log is) in
        omega arith
    go (RefSb a) is ih =
        let low : a < 4 = ltb-true _ _ (let k : is_addressed (RefSb a) ≡ true = rw is at ok.0 in k) in
        let g : refs_sum (place ∷ log) * m ≡ (1 + refs_sum log) * m = ap (λ (n : ℕ). n * m) (sum_own a place log low is) in
        let f : scrubs (place ∷ log) * h.timing.necs ≡ scrubs log * h.timing.necs = ap (λ (n : ℕ). n * h.timing.necs) (scrubs_same a place log is) in
        omega arith
    go Ecs is ih =
        let g = mul-le-mul_right m (sum_grows place log) in
        let f : scrubs (place ∷ log) * h.timing.necs ≡ suc (scrubs log) * h.timing.necs = ap (λ (n : ℕ). n * h.timing.necs) (scrubs_scrub place log is) in
        omega arith
    go c is ih = plain c ih

-- now and the idle target are at most twice the idle clocks and nMax for each command that is neither REF nor ECS
pub in_spans_bound : (h : Header) (log : Log) (now until idle : ℕ) → Slack h → AllAddressed log → Rounds log → scrubs log ≤ refs 0 log → refs 0 log * h.timing.nrefi ≤ now → (p : WithinSpans h log now until idle) → p.y ≤ 2 * (idle + others log * n_max h.timing)
unfolding refs_sum
in_spans_bound h log now until idle slack ok r few early p =
    let m : ℕ = max h.timing.nrfc (4 * h.timing.nrfcsb) in
    let sixth = slack.sixth in
    let s = spans_most h m log (omega arith) (omega arith) ok in
    let a = r.first in
    let b = r.second in
    let c = r.third in
    let sum : refs_sum log * m ≤ (4 * refs 0 log) * m = mul-le-mul_right m (let e : refs_sum log ≡ refs 0 log + refs 1 log + refs 2 log + refs 3 log = refl in omega arith) in
    let scrub : scrubs log * h.timing.necs ≤ refs 0 log * h.timing.necs = mul-le-mul_right h.timing.necs few in
    let half : refs 0 log * (2 * (m + 5 * h.timing.nrp + h.timing.necs)) ≤ refs 0 log * h.timing.nrefi = mul-le-mul_left (refs 0 log) sixth in
    closing_sum (spans h.timing log) (others log * n_max h.timing) (scrubs log) (refs 0 log) m h.timing.necs h.timing.nrp h.timing.nrefi (refs_sum log) now p.y idle s sum scrub half early p.by_now p.bound

-- whatever a turn waits for, its command takes no more than its span
pub in_spans_turn : (h : Header) (now until idle start : ℕ) (place : Issued) (log : Log) → Slack h → WithinSpans h log now until idle → Reaches h log now until start → IsSoonest h log start place.command place.clock → WithinSpans h (place ∷ log) (place.clock + 1) until idle
in_spans_turn h now until idle start place log s p (Now e) at = in_spans_next h now until idle place log s p (rw e at at)
in_spans_turn h now until idle start place log s p (Due e0 c e low from) at = in_spans_next h (max now (next_due h log)) until idle place log s (in_spans_due h now until idle e0 (next_due h log) c log s p from low) (rw e at at)
in_spans_turn h now until idle start place log s p (Target e) at = in_spans_next h (max now until) until idle place log s (in_spans_idle h now until idle log p) (rw e at at)
