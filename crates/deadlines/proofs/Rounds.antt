-- Refreshes and rounds after one more place.
use Rattle.std.proofs.Common.{◌≡◌, ◌∙◌, ℕ, suc, ◌+◌, ◌*◌, ◌≤◌, ◌<◌, Bool, true, false, ◌==◌, refl, ap, arith, cond, max, ◌∷◌, eq-eqb, ne_eqb}
use Rattle.std.proofs.Math.Nat.{mul-le-mul_right}
use Rattle.std.proofs.lemmas.List.Sums.{sum_by-cons}
use Rattle.command_words.specs.declared.command.Command.{Command}
use Rattle.command_words.specs.declared.command.Command.TheVariants.{RefAb, RefSb, Ecs}
use Rattle.speed_bin.specs.declared.header.Header.{Header}
use Rattle.speed_bin.specs.Log.{Issued, Log, refs, scrubs}
use Rattle.command_words.specs.Kinds.{refreshes, is_scrub}
use Rattle.speed_bin.specs.Gap.{n_max, n_col, n_close, n_tail}
use Rattle.deadlines.specs.Rounds.{next_due, Rounds, round, per_task, limit}
use Rattle.deadlines.proofs.Moves.{Slack}
use Rattle.deadlines.proofs.Gaps.{gap_max}

-- ---- A place that is neither a REF nor an ECS

unfoldable pub is_plain : Command → Bool
is_plain RefAb = false
is_plain (RefSb address) = false
is_plain Ecs = false
is_plain c = true

pub refs_step : (a : ℕ) (place : Issued) (log : Log) → refs a (place ∷ log) ≡ cond (refreshes a place.command) 1 0 + refs a log
refs_step a place log = sum_by-cons (λ (p : Issued). cond (refreshes a p.command) 1 0) place log

pub scrubs_step : (place : Issued) (log : Log) → scrubs (place ∷ log) ≡ cond (is_scrub place.command) 1 0 + scrubs log
scrubs_step place log = sum_by-cons (λ (p : Issued). cond (is_scrub p.command) 1 0) place log

none_more : (n : ℕ) → 0 + n ≡ n
none_more n = omega arith

one_more : (n : ℕ) → 1 + n ≡ suc n
one_more n = omega arith

pub refs_plain : (a : ℕ) (place : Issued) (log : Log) → is_plain place.command ≡ true → refs a (place ∷ log) ≡ refs a log
unfolding is_plain
refs_plain a place log h = refs_step a place log ∙ go place.command h
  where
    go : (c : Command) → is_plain c ≡ true → cond (refreshes a c) 1 0 + refs a log ≡ refs a log
    go RefAb h = absurd (cc)
    go (RefSb address) h = absurd (cc)
    go c h = none_more (refs a log)

pub scrubs_plain : (place : Issued) (log : Log) → is_plain place.command ≡ true → scrubs (place ∷ log) ≡ scrubs log
unfolding is_plain
scrubs_plain place log h = scrubs_step place log ∙ go place.command h
  where
    go : (c : Command) → is_plain c ≡ true → cond (is_scrub c) 1 0 + scrubs log ≡ scrubs log
    go Ecs h = absurd (cc)
    go c h = none_more (scrubs log)

refs_by : (a : ℕ) (x : Bool) (place : Issued) (log : Log) → refreshes a place.command ≡ x → refs a (place ∷ log) ≡ cond x 1 0 + refs a log
refs_by a x place log e = refs_step a place log ∙ ap (λ (t : Bool). cond t 1 0 + refs a log) e

pub refs_all : (a : ℕ) (place : Issued) (log : Log) → place.command ≡ RefAb → refs a (place ∷ log) ≡ suc (refs a log)
refs_all a place log e = refs_by a true place log (rw e refl) ∙ one_more (refs a log)

pub refs_own : (a : ℕ) (place : Issued) (log : Log) → place.command ≡ RefSb a → refs a (place ∷ log) ≡ suc (refs a log)
refs_own a place log e = refs_by a true place log (let k : (a == a) ≡ true = eq-eqb a a refl in rw (e, k) refl) ∙ one_more (refs a log)

pub refs_other : (a b : ℕ) (place : Issued) (log : Log) → place.command ≡ RefSb b → (b ≡ a → ⊥) → refs a (place ∷ log) ≡ refs a log
refs_other a b place log e other = refs_by a false place log (let k : (b == a) ≡ false = ne_eqb b a other in rw (e, k) refl) ∙ none_more (refs a log)

pub refs_scrub : (a : ℕ) (place : Issued) (log : Log) → place.command ≡ Ecs → refs a (place ∷ log) ≡ refs a log
refs_scrub a place log e = refs_by a false place log (rw e refl) ∙ none_more (refs a log)

scrubs_by : (x : Bool) (place : Issued) (log : Log) → is_scrub place.command ≡ x → scrubs (place ∷ log) ≡ cond x 1 0 + scrubs log
scrubs_by x place log e = scrubs_step place log ∙ ap (λ (t : Bool). cond t 1 0 + scrubs log) e

pub scrubs_scrub : (place : Issued) (log : Log) → place.command ≡ Ecs → scrubs (place ∷ log) ≡ suc (scrubs log)
scrubs_scrub place log e = scrubs_by true place log (rw e refl) ∙ one_more (scrubs log)

pub scrubs_all : (place : Issued) (log : Log) → place.command ≡ RefAb → scrubs (place ∷ log) ≡ scrubs log
scrubs_all place log e = scrubs_by false place log (rw e refl) ∙ none_more (scrubs log)

pub scrubs_same : (a : ℕ) (place : Issued) (log : Log) → place.command ≡ RefSb a → scrubs (place ∷ log) ≡ scrubs log
scrubs_same a place log e = scrubs_by false place log (rw e refl) ∙ none_more (scrubs log)

-- ---- What hangs on the refreshes alone

pub next_due_is : (h : Header) (log : Log) → next_due h log ≡ (refs 3 log + 2) * h.timing.nrefi
unfolding next_due
next_due_is h log = refl

pub next_due_same : (h : Header) (place : Issued) (log : Log) → refs 3 (place ∷ log) ≡ refs 3 log → next_due h (place ∷ log) ≡ next_due h log
unfolding next_due
next_due_same h place log e = ap (λ (n : ℕ). (n + 2) * h.timing.nrefi) e

pub next_due_more : (h : Header) (place : Issued) (log : Log) → refs 3 (place ∷ log) ≡ suc (refs 3 log) → next_due h (place ∷ log) ≡ next_due h log + h.timing.nrefi
unfolding next_due
next_due_more h place log e = ap (λ (n : ℕ). (n + 2) * h.timing.nrefi) e ∙ step (refs 3 log) h.timing.nrefi
  where
    step : (n k : ℕ) → (suc n + 2) * k ≡ (n + 2) * k + k
    step n k = omega arith

pub round_is : (log : Log) → Rounds log → (refs 0 log + refs 1 log + refs 2 log ≡ 3 * refs 3 log + round log) × (round log ≤ 3)
unfolding round
round_is log r =
    let a = r.first in
    let b = r.second in
    let c = r.third in
    let d = r.whole in
    (omega arith, omega arith)

pub per_task_is : (h : Header) → per_task h ≡ n_max h.timing + n_close h.timing
unfolding per_task
per_task_is h = refl

pub limit_is : (h : Header) (log : Log) → limit h log ≡ next_due h log + 4 * per_task h + round log * (2 * per_task h) + 32 * n_col h.timing
unfolding limit
limit_is h log = refl

pub limit_low : (h : Header) (log : Log) → next_due h log + 4 * per_task h + 32 * n_col h.timing ≤ limit h log
limit_low h log = let e = limit_is h log in omega arith

pub limit_high : (h : Header) (log : Log) → Rounds log → limit h log ≤ next_due h log + 10 * per_task h + 32 * n_col h.timing
limit_high h log r =
    let e = limit_is h log in
    let p = round_is log r in
    let most : round log * (2 * per_task h) ≤ 3 * (2 * per_task h) = mul-le-mul_right (2 * per_task h) p.1 in
    omega arith

-- checks 5 and 6 as they are used
pub slack_tasks : (h : Header) → Slack h → 13 * per_task h + 32 * n_col h.timing ≤ 2 * h.timing.nrefi
unfolding n_tail per_task
slack_tasks h k = let f = k.fifth in omega arith

pub slack_refreshes : (h : Header) → Slack h → (h.timing.nrfc + h.timing.necs ≤ h.timing.nrefi) × (4 * h.timing.nrfcsb + h.timing.necs < h.timing.nrefi)
slack_refreshes h k =
    let f = k.sixth in
    let a = k.some_necs in
    (omega arith, omega arith)

pub scrub_max : (h : Header) → h.timing.necs ≤ per_task h
unfolding per_task
scrub_max h =
    let g : max 1 (max h.timing.necs 0) ≤ n_max h.timing = gap_max h.timing Ecs RefAb in
    omega arith
