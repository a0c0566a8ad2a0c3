-- The phase after one more place, and that the place comes in time for rule 6.
use Rattle.std.proofs.Common.{◌≡◌, ◌∙◌, ℕ, suc, ◌+◌, ◌*◌, ◌≤◌, ◌<◌, Bool, true, false, refl, ap, arith, max, ◌∷◌, Option, Some, None, lt-ltb, le-ltb}
use Rattle.std.proofs.Math.Nat.{mul-le-mul_right}
use Rattle.command_words.specs.declared.command.Command.{Command}
use Rattle.command_words.specs.declared.command.Command.TheVariants.{RefAb, RefSb, RfmAb, RfmSb, Ecs, Mrw}
use Rattle.speed_bin.specs.declared.header.Header.{Header}
use Rattle.speed_bin.specs.Log.{Issued, Log, open_after, open_at, refs}
use Rattle.command_words.specs.Kinds.{Effect, Opens, Closes, Manages, Refreshes, Leaves, effect, is_act, is_precharge, needs_closed, is_rfm_all}
use Rattle.speed_bin.specs.Alert.{closes, closes_some, alert_after, alert}
use Rattle.speed_bin.specs.Gap.{gap, n_max, n_col}
use Rattle.speed_bin.proofs.Tests.{any_below_none}
use Rattle.speed_bin.proofs.Effects.{opens_act, closes_precharge}
use Rattle.speed_bin.specs.Rules.{MayFollow}
use Rattle.requests.specs.Choice.{IsSoonest}
use Rattle.deadlines.specs.Blocking.{AllRise}
use Rattle.deadlines.specs.declared.task.Task.{Task}
use Rattle.deadlines.specs.declared.task.Task.TheVariants.{RfmAll, Ecs as Scrub, RefAll, RefSame, RfmSame}
use Rattle.deadlines.specs.Tasks.{task_covers, command_of}
use Rattle.deadlines.proofs.Moves.{Advances, Column, Shut, Slack}
use Rattle.deadlines.specs.Rounds.{next_due, ecs_due, Rounds, round, per_task, limit, begun, when}
use Rattle.deadlines.specs.Timely.{beside, Quiet, Phase, Busy, Calm, Within}
use Rattle.deadlines.proofs.Gaps.{gap_scrub, gap_ref_same, gap_ref_all}
use Rattle.deadlines.proofs.Following.{up_last, may_from, may_next, closer_other}
use Rattle.deadlines.proofs.Stages.{stage_next, stage_done, some_max, owed_fewer, owed_open}
use Rattle.deadlines.proofs.Backoffs.{alert_ends}
use Rattle.deadlines.proofs.Rounds.{is_plain, per_task_is, limit_high, scrub_max, slack_tasks, slack_refreshes, next_due_same, next_due_more, round_is, refs_plain, scrubs_plain, refs_scrub}
use Rattle.deadlines.proofs.Refreshing.{SameRefs, same_refs, ecs_same, NextTurn, round_next, limit_next, Complete}
use Rattle.deadlines.proofs.Starts.{InTask, Calmed, when_most}

-- ---- Quiet stays

pub stays_closed : (b : ℕ) (place : Issued) (log : Log) → is_act place.command ≡ false → open_at b log ≡ None → open_at b (place ∷ log) ≡ None
stays_closed b place log other none = go (effect b place.command) refl
  where
    go : (e : Effect) → effect b place.command ≡ e → open_after e (open_at b log) ≡ None
    go (Opens r) is = let p : is_act place.command ≡ true = (opens_act b r place.command is).0 in absurd (cc)
    go Closes is = refl
    go Manages is = none
    go Refreshes is = none
    go Leaves is = none

no_close : (b : ℕ) (c : Command) (o : Option ℕ) → is_precharge c ≡ false → closes (effect b c) o ≡ false
no_close b c o other = go (effect b c) refl
  where
    go : (e : Effect) → effect b c ≡ e → closes e o ≡ false
    go (Opens r) is = refl
    go Closes is = let p : is_precharge c ≡ true = (closes_precharge b c is).0 in absurd (cc)
    go Manages is = refl
    go Refreshes is = refl
    go Leaves is = refl

pub stays_calm : (h : Header) (place : Issued) (log : Log) → is_precharge place.command ≡ false → alert h log ≡ None → alert h (place ∷ log) ≡ None
stays_calm h place log other none =
    let k : closes_some place.command log ≡ false = any_below_none 32 (λ b. closes (effect b place.command) (open_at b log)) (λ b low. no_close b place.command (open_at b log) other) in
    rw (k, none) (go (is_rfm_all place.command))
  where
    go : (x : Bool) → alert_after x false place.clock None ≡ None
    go true = refl
    go false = refl

pub closer_no_precharge : (c : Command) → needs_closed c ≡ true → is_precharge c ≡ false
closer_no_precharge RefAb h = refl
closer_no_precharge (RefSb a) h = refl
closer_no_precharge RfmAb h = refl
closer_no_precharge (RfmSb a) h = refl
closer_no_precharge Ecs h = refl
closer_no_precharge (Mrw w) h = refl
closer_no_precharge c h = absurd (cc)

pub quiet_stays : (h : Header) (place : Issued) (log : Log) → needs_closed place.command ≡ true → Quiet h log → Quiet h (place ∷ log)
quiet_stays h place log closed q = record {
  shut = λ b low. stays_closed b place log (closer_other place.command closed) (q.shut b low);
  calm = stays_calm h place log (closer_no_precharge place.command closed) q.calm;
}

-- ---- A command for a task that goes on

pub within_next : (h : Header) (own : Task) (start : ℕ) (place : Issued) (log : Log) → Slack h → InTask h log own start → IsSoonest h log start place.command place.clock → Advances h own log start place → SameRefs h place log → ecs_due h (place ∷ log) ≡ ecs_due h log → (place.clock ≤ limit h log + per_task h) × Phase h (place ∷ log) (Some own) (place.clock + 1)
within_next h own start place log slack k at adv same e =
    let q = stage_next h own start k.y place log slack.some_nrp at adv k.stage in
    let here : place.clock ≤ k.y = q.0 in
    let g = q.1 in
    let w = k.weight in
    let v = g.weight in
    let l = same.limits in
    let s : when (ecs_due h (place ∷ log)) (per_task h) ≡ when (ecs_due h log) (per_task h) = ap (λ (x : Bool). when x (per_task h)) e in
    (omega arith, Within own refl g.reach g.stage (omega arith))

-- with all banks closed no task has another command than its own
pub calm_ends : (h : Header) (own : Task) (start : ℕ) (place : Issued) (log : Log) → Quiet h log → Advances h own log start place → ⊥
calm_ends h own start place log q (Column b low column cover own_b within) = owed_open b log own_b (q.shut b low)
calm_ends h own start place log q (Shut b low precharge within opened shuts) = opened (q.shut b low)

-- ---- The end of a task that was begun where an alert could come

-- a clock that is far enough before the next refresh but two leaves all that needs closed banks free soon
calm_from : (h : Header) (place : Issued) (log : Log) (due : ℕ) → Slack h → AllRise (place ∷ log) → Quiet h (place ∷ log) → due ≤ next_due h (place ∷ log) → place.clock ≤ due + 11 * per_task h + 32 * n_col h.timing → Phase h (place ∷ log) None (place.clock + 1)
calm_from h place log due slack rises quiet more soon = Calm refl quiet (place.clock + n_max h.timing) (let s = some_max h.timing in omega arith)
    (λ c own. may_from h place.clock (place.clock + n_max h.timing) c (place ∷ log) (up_last (place ∷ log) rises) (let s = some_max h.timing in omega arith) (omega arith))
    (let a = when_most (ecs_due h (place ∷ log)) h.timing.necs in
    let b = scrub_max h in
    let c = slack_tasks h slack in
    let d = per_task_is h in
    omega arith)

-- what is known at a task's command
pub record AtEnd (h : Header) (place : Issued) (log : Log) (own : Task) : Type 0 where
  pub is : place.command ≡ command_of own
  pub shut : (b : ℕ) → b < 32 → task_covers own b ≡ true → open_at b log ≡ None
  pub rises : AllRise (place ∷ log)
  pub rounds : Rounds log
  pub slack : Slack h

command_closed : (own : Task) → needs_closed (command_of own) ≡ true
command_closed RfmAll = refl
command_closed Scrub = refl
command_closed RefAll = refl
command_closed (RefSame address) = refl
command_closed (RfmSame address) = refl

pub end_closed : (h : Header) (place : Issued) (log : Log) (own : Task) → AtEnd h place log own → needs_closed place.command ≡ true
end_closed h place log own a = ap needs_closed a.is ∙ command_closed own

end_here : (h : Header) (place : Issued) (log : Log) (own : Task) (start : ℕ) → AtEnd h place log own → (k : InTask h log own start) → IsSoonest h log start place.command place.clock → place.clock ≤ k.y
end_here h place log own start a k at = stage_done h own start k.y place log (end_closed h place log own a) at k.stage

pub end_plain_all : (h : Header) (place : Issued) (log : Log) → place.command ≡ RfmAb → is_plain place.command ≡ true
unfolding is_plain
end_plain_all h place log e = rw e refl

pub end_plain_same : (h : Header) (a : ℕ) (place : Issued) (log : Log) → place.command ≡ RfmSb a → is_plain place.command ≡ true
unfolding is_plain
end_plain_same h a place log e = rw e refl

pub end_rfm_all : (h : Header) (place : Issued) (log : Log) (start : ℕ) → AtEnd h place log RfmAll → InTask h log RfmAll start → IsSoonest h log start place.command place.clock → (place.clock ≤ limit h log + per_task h) × Phase h (place ∷ log) None (place.clock + 1)
end_rfm_all h place log start a k at =
    let here = end_here h place log RfmAll start a k at in
    let w = k.weight in
    let plain = end_plain_all h place log a.is in
    let same = same_refs h place log (λ i. refs_plain i place log plain) in
    let due = same.due in
    let high = limit_high h log a.rounds in
    let quiet : Quiet h (place ∷ log) = record {
      shut = λ b low. stays_closed b place log (closer_other place.command (end_closed h place log RfmAll a)) (a.shut b low refl);
      calm = alert_ends h place log (rw a.is refl);
    } in
    (omega arith, calm_from h place log (next_due h log) a.slack a.rises quiet (omega arith) (omega arith))

pub end_rfm_same : (h : Header) (address : ℕ) (place : Issued) (log : Log) (start : ℕ) → AtEnd h place log (RfmSame address) → InTask h log (RfmSame address) start → IsSoonest h log start place.command place.clock → (place.clock ≤ limit h log + per_task h) × Phase h (place ∷ log) None (place.clock + 1)
end_rfm_same h address place log start a k at =
    let here = end_here h place log (RfmSame address) start a k at in
    let w = k.weight in
    let plain = end_plain_same h address place log a.is in
    let same = same_refs h place log (λ i. refs_plain i place log plain) in
    let limits = same.limits in
    let e = ecs_same h place log (refs_plain 0 place log plain) (scrubs_plain place log plain) in
    let s : when (ecs_due h (place ∷ log)) (per_task h) ≡ when (ecs_due h log) (per_task h) = ap (λ (x : Bool). when x (per_task h)) e in
    let fewer = mul-le-mul_right (n_col h.timing) (owed_fewer place log (closer_other place.command (end_closed h place log (RfmSame address) a))) in
    (omega arith, Busy refl (omega arith))

pub end_scrub : (h : Header) (place : Issued) (log : Log) (start : ℕ) → AtEnd h place log Scrub → ecs_due h log ≡ true → ecs_due h (place ∷ log) ≡ false → InTask h log Scrub start → IsSoonest h log start place.command place.clock → (place.clock ≤ limit h log + per_task h) × Phase h (place ∷ log) None (place.clock + 1)
end_scrub h place log start a due done k at =
    let here = end_here h place log Scrub start a k at in
    let w = k.weight in
    let same = same_refs h place log (λ i. refs_scrub i place log a.is) in
    let limits = same.limits in
    let s : when (ecs_due h (place ∷ log)) (per_task h) ≡ 0 = ap (λ (x : Bool). when x (per_task h)) done in
    let r : when (ecs_due h log) (per_task h) ≡ per_task h = ap (λ (x : Bool). when x (per_task h)) due in
    let fewer = mul-le-mul_right (n_col h.timing) (owed_fewer place log (closer_other place.command (end_closed h place log Scrub a))) in
    (omega arith, Busy refl (omega arith))

-- a refresh that does not complete its round
pub end_next : (h : Header) (address : ℕ) (place : Issued) (log : Log) (start : ℕ) → AtEnd h place log (RefSame address) → NextTurn h place log → ecs_due h log ≡ false → InTask h log (RefSame address) start → IsSoonest h log start place.command place.clock → (place.clock ≤ limit h log + per_task h) × Phase h (place ∷ log) None (place.clock + 1)
end_next h address place log start a n none k at =
    let here = end_here h place log (RefSame address) start a k at in
    let w = k.weight in
    let limits = limit_next h place log a.rounds n in
    let most = when_most (ecs_due h (place ∷ log)) (per_task h) in
    let fewer = mul-le-mul_right (n_col h.timing) (owed_fewer place log (closer_other place.command (end_closed h place log (RefSame address) a))) in
    (omega arith, Busy refl (omega arith))

-- one that completes it
pub end_complete : (h : Header) (own : Task) (place : Issued) (log : Log) (start : ℕ) → AtEnd h place log own → beside h own ≡ 2 * per_task h → Complete place log → Quiet h (place ∷ log) → InTask h log own start → IsSoonest h log start place.command place.clock → (place.clock ≤ limit h log + per_task h) × Phase h (place ∷ log) None (place.clock + 1)
end_complete h own place log start a two c quiet k at =
    let here = end_here h place log own start a k at in
    let w = k.weight in
    let high = limit_high h log a.rounds in
    let due = next_due_more h place log c.fourth in
    (omega arith, calm_from h place log (next_due h log) a.slack a.rises quiet (omega arith) (omega arith))

-- ---- The end of a task where all banks are closed

begun_when : (n : ℕ) (log : Log) → refs 3 log < refs 0 log → when (begun log) n ≡ n
unfolding begun
begun_when n log more = ap (λ (x : Bool). when x n) (lt-ltb _ _ more)

not_begun_when : (n : ℕ) (log : Log) → refs 0 log ≡ refs 3 log → when (begun log) n ≡ 0
unfolding begun
not_begun_when n log same = ap (λ (x : Bool). when x n) (le-ltb (refs 3 log) (refs 0 log) (omega arith))

calm_here : (h : Header) (place : Issued) (log : Log) (own : Task) (start : ℕ) → AtEnd h place log own → (k : Calmed h log start) → IsSoonest h log start place.command place.clock → place.clock ≤ k.x
calm_here h place log own start a k at = at.least k.x k.by_now (k.closers place.command (end_closed h place log own a))

calm_next : (h : Header) (place : Issued) (log : Log) (own : Task) (start n : ℕ) → AtEnd h place log own → (k : Calmed h log start) → IsSoonest h log start place.command place.clock → 1 ≤ n → ((c : Command) → gap h.timing place.command c ≤ max 1 n) → (c : Command) → needs_closed c ≡ true → MayFollow h.timing (k.x + n) c (place ∷ log)
calm_next h place log own start n a k at some gaps c closed =
    let here = calm_here h place log own start a k at in
    let g = gaps c in
    may_next h k.x (k.x + n) c place log (closer_other c closed) (k.closers c closed) (omega arith) (omega arith)

-- what a calm start gives for rule 6
pub calm_soon : (h : Header) (place : Issued) (log : Log) (own : Task) (start : ℕ) → AtEnd h place log own → Calmed h log start → IsSoonest h log start place.command place.clock → place.clock < next_due h log + 3 * h.timing.nrefi
calm_soon h place log own start a k at =
    let here = calm_here h place log own start a k at in
    let w = k.weight in
    let s = slack_refreshes h a.slack in
    let s0 = s.0 in
    let s1 = s.1 in
    let r = round_is log a.rounds in
    let b : round log * h.timing.nrfcsb ≤ 3 * h.timing.nrfcsb = mul-le-mul_right h.timing.nrfcsb r.1 in
    let m = when_most (begun log) h.timing.necs in
    omega arith

pub calm_scrub : (h : Header) (place : Issued) (log : Log) (start : ℕ) → AtEnd h place log Scrub → ecs_due h log ≡ true → ecs_due h (place ∷ log) ≡ false → Calmed h log start → IsSoonest h log start place.command place.clock → Phase h (place ∷ log) None (place.clock + 1)
calm_scrub h place log start a due done k at =
    let here = calm_here h place log Scrub start a k at in
    let some = a.slack.some_necs in
    let w = k.weight in
    let same = same_refs h place log (λ i. refs_scrub i place log a.is) in
    let nd = same.due in
    let rd : round (place ∷ log) * h.timing.nrfcsb ≡ round log * h.timing.nrfcsb = ap (λ (n : ℕ). n * h.timing.nrfcsb) same.rounds in
    let bg : when (begun (place ∷ log)) h.timing.necs ≡ when (begun log) h.timing.necs = ap (λ (x : Bool). when x h.timing.necs) same.begins in
    let s : when (ecs_due h (place ∷ log)) h.timing.necs ≡ 0 = ap (λ (x : Bool). when x h.timing.necs) done in
    let r : when (ecs_due h log) h.timing.necs ≡ h.timing.necs = ap (λ (x : Bool). when x h.timing.necs) due in
    Calm refl (quiet_stays h place log (end_closed h place log Scrub a) k.quiet) (k.x + h.timing.necs) (omega arith)
    (calm_next h place log Scrub start h.timing.necs a k at some (λ c. gap_scrub h.timing place.command c (rw a.is refl)))
    (omega arith)

-- a refresh that does not complete its round: of address 0, after which an ECS may be due, or of another
pub calm_first : (h : Header) (place : Issued) (log : Log) (start : ℕ) → AtEnd h place log (RefSame 0) → NextTurn h place log → refs 0 log ≡ refs 3 log → ecs_due h log ≡ false → Calmed h log start → IsSoonest h log start place.command place.clock → Phase h (place ∷ log) None (place.clock + 1)
calm_first h place log start a n first none k at =
    let here = calm_here h place log (RefSame 0) start a k at in
    let some = a.slack.some_nrfcsb in
    let w = k.weight in
    let nd = next_due_same h place log n.same in
    let rd : round (place ∷ log) * h.timing.nrfcsb ≡ suc (round log) * h.timing.nrfcsb = ap (λ (m : ℕ). m * h.timing.nrfcsb) (round_next h place log a.rounds n) in
    let bg = begun_when h.timing.necs (place ∷ log) (let x = n.same in let y = n.whole in omega arith) in
    let not_yet = not_begun_when h.timing.necs log first in
    let most = when_most (ecs_due h (place ∷ log)) h.timing.necs in
    Calm refl (quiet_stays h place log (end_closed h place log (RefSame 0) a) k.quiet) (k.x + h.timing.nrfcsb) (omega arith)
    (calm_next h place log (RefSame 0) start h.timing.nrfcsb a k at some (λ c. gap_ref_same h.timing place.command c (rw a.is refl)))
    (omega arith)

pub calm_other : (h : Header) (address : ℕ) (place : Issued) (log : Log) (start : ℕ) → AtEnd h place log (RefSame address) → NextTurn h place log → refs 0 log ≡ suc (refs 3 log) → ecs_due h (place ∷ log) ≡ false → Calmed h log start → IsSoonest h log start place.command place.clock → Phase h (place ∷ log) None (place.clock + 1)
calm_other h address place log start a n first none k at =
    let here = calm_here h place log (RefSame address) start a k at in
    let some = a.slack.some_nrfcsb in
    let w = k.weight in
    let nd = next_due_same h place log n.same in
    let rd : round (place ∷ log) * h.timing.nrfcsb ≡ suc (round log) * h.timing.nrfcsb = ap (λ (m : ℕ). m * h.timing.nrfcsb) (round_next h place log a.rounds n) in
    let bg = begun_when h.timing.necs (place ∷ log) (let x = n.same in let y = n.whole in omega arith) in
    let old = begun_when h.timing.necs log (omega arith) in
    let s : when (ecs_due h (place ∷ log)) h.timing.necs ≡ 0 = ap (λ (x : Bool). when x h.timing.necs) none in
    Calm refl (quiet_stays h place log (end_closed h place log (RefSame address) a) k.quiet) (k.x + h.timing.nrfcsb) (omega arith)
    (calm_next h place log (RefSame address) start h.timing.nrfcsb a k at some (λ c. gap_ref_same h.timing place.command c (rw a.is refl)))
    (omega arith)

-- the refresh that completes its round
pub calm_last : (h : Header) (place : Issued) (log : Log) (start : ℕ) → AtEnd h place log (RefSame 3) → Complete place log → ecs_due h (place ∷ log) ≡ false → Calmed h log start → IsSoonest h log start place.command place.clock → Phase h (place ∷ log) None (place.clock + 1)
calm_last h place log start a c none k at =
    let here = calm_here h place log (RefSame 3) start a k at in
    let some = a.slack.some_nrfcsb in
    let w = k.weight in
    let nd = next_due_more h place log c.fourth in
    let sl = (slack_refreshes h a.slack).1 in
    let r = round_is log a.rounds in
    let b : round log * h.timing.nrfcsb ≤ 3 * h.timing.nrfcsb = mul-le-mul_right h.timing.nrfcsb r.1 in
    let m = when_most (begun log) h.timing.necs in
    let s : when (ecs_due h (place ∷ log)) h.timing.necs ≡ 0 = ap (λ (x : Bool). when x h.timing.necs) none in
    Calm refl (quiet_stays h place log (end_closed h place log (RefSame 3) a) k.quiet) (k.x + h.timing.nrfcsb) (omega arith)
    (calm_next h place log (RefSame 3) start h.timing.nrfcsb a k at some (λ c. gap_ref_same h.timing place.command c (rw a.is refl)))
    (omega arith)

pub calm_all : (h : Header) (place : Issued) (log : Log) (start : ℕ) → AtEnd h place log RefAll → Complete place log → refs 0 log ≡ refs 3 log → Calmed h log start → IsSoonest h log start place.command place.clock → Phase h (place ∷ log) None (place.clock + 1)
calm_all h place log start a c all k at =
    let here = calm_here h place log RefAll start a k at in
    let some = a.slack.some_nrfc in
    let w = k.weight in
    let nd = next_due_more h place log c.fourth in
    let sl = (slack_refreshes h a.slack).0 in
    let r = round_is log a.rounds in
    let r0 = r.0 in
    let p = a.rounds.first in
    let q = a.rounds.second in
    let u = a.rounds.third in
    let zero_now : round log ≡ 0 = omega arith in
    let b : round log * h.timing.nrfcsb ≡ 0 * h.timing.nrfcsb = ap (λ (n : ℕ). n * h.timing.nrfcsb) zero_now in
    let m = not_begun_when h.timing.necs log all in
    let most = when_most (ecs_due h (place ∷ log)) h.timing.necs in
    Calm refl (quiet_stays h place log (end_closed h place log RefAll a) k.quiet) (k.x + h.timing.nrfc) (omega arith)
    (calm_next h place log RefAll start h.timing.nrfc a k at some (λ c. gap_ref_all h.timing place.command c (rw a.is refl)))
    (omega arith)
