-- The task of a turn begins in time.
use Rattle.std.proofs.Common.{◌≡◌, ℕ, ◌+◌, ◌*◌, ◌≤◌, ◌<◌, Bool, true, false, ◌⊎◌, inl, inr, refl, arith, max, Option, Some, None}
use Rattle.command_words.specs.declared.command.Command.{Command}
use Rattle.speed_bin.specs.declared.header.Header.{Header}
use Rattle.speed_bin.specs.Log.{Log, last_clock}
use Rattle.command_words.specs.Kinds.{needs_closed}
use Rattle.speed_bin.specs.Alert.{alert}
use Rattle.speed_bin.specs.Gap.{n_max, n_col, n_close}
use Rattle.speed_bin.specs.Rules.{MayFollow}
use Rattle.requests.specs.Owed.{owed_count}
use Rattle.deadlines.specs.Blocking.{AllRise}
use Rattle.deadlines.specs.declared.task.Task.{Task}
use Rattle.deadlines.specs.declared.task.Task.TheVariants.{RfmAll, Ecs as Scrub, RefAll, RefSame, RfmSame}
use Rattle.deadlines.specs.Stages.{Stage, Before, After}
use Rattle.deadlines.specs.Rounds.{next_due, ecs_due, round, per_task, limit, begun, when}
use Rattle.deadlines.proofs.Moves.{Slack, Decides, Backs_off, Goes_on, Scrubs, Refreshes_all, Refreshes_same, Manages_same}
use Rattle.deadlines.specs.Timely.{beside, Quiet, Phase, Busy, Calm, Within, Timely}
use Rattle.deadlines.specs.Backoffs.{Backoff}
use Rattle.deadlines.proofs.Following.{up_last, up_more, may_later}
use Rattle.deadlines.proofs.Stages.{stage_start, some_max}
use Rattle.deadlines.proofs.Backoffs.{all_owed}
use Rattle.deadlines.proofs.Rounds.{per_task_is, limit_low, scrub_max, slack_tasks}

pub record InTask (h : Header) (log : Log) (own : Task) (now : ℕ) : Type 0 where
  pub y : ℕ
  pub stage : Stage h own log now y
  pub weight : y + owed_count log * n_col h.timing + when (ecs_due h log) (per_task h) + beside h own ≤ limit h log + per_task h

pub record Calmed (h : Header) (log : Log) (now : ℕ) : Type 0 where
  pub quiet : Quiet h log
  pub x : ℕ
  pub by_now : now ≤ x
  pub closers : (c : Command) → needs_closed c ≡ true → MayFollow h.timing x c log
  pub weight : x + when (ecs_due h log) h.timing.necs ≤ next_due h log + 2 * h.timing.nrefi + round log * h.timing.nrfcsb + when (begun log) h.timing.necs

pub when_most : (e : Bool) (n : ℕ) → when e n ≤ n
when_most true n = omega arith
when_most false n = omega arith

pub stage_by_now : (h : Header) (own : Task) (log : Log) (now y : ℕ) → Stage h own log now y → now ≤ y
stage_by_now h own log now y (Before x k more) = let n = k.by_now in omega arith
stage_by_now h own log now y (After k) = k.by_now

beside_most : (h : Header) (own : Task) → beside h own ≤ 3 * per_task h
beside_most h RfmAll = omega arith
beside_most h Scrub = omega arith
beside_most h RefAll = omega arith
beside_most h (RefSame address) = omega arith
beside_most h (RfmSame address) = omega arith

-- from the last command
from_last : (h : Header) (log : Log) (own : Task) (start : ℕ) → AllRise log → start ≤ last_clock log + 1 → last_clock log + owed_count log * n_col h.timing + when (ecs_due h log) (per_task h) + beside h own ≤ limit h log → InTask h log own start
from_last h log own start rises early w = record {
  y = last_clock log + n_max h.timing + n_close h.timing;
  stage = stage_start h own (last_clock log) start (last_clock log + n_max h.timing + n_close h.timing) log (some_max h.timing) (up_last log rises) (omega arith) early (omega arith);
  weight = (let p = per_task_is h in omega arith);
}

-- from the clock at which a refresh is due, where no command came later
from_due : (h : Header) (log : Log) (own : Task) (start : ℕ) → AllRise log → last_clock log ≤ next_due h log → start ≤ next_due h log + 1 → InTask h log own start
from_due h log own start rises below early = record {
  y = next_due h log + n_max h.timing + n_close h.timing;
  stage = stage_start h own (next_due h log) start (next_due h log + n_max h.timing + n_close h.timing) log (some_max h.timing) (up_more (last_clock log) (next_due h log) log below (up_last log rises)) below early (omega arith);
  weight = (
      let p = per_task_is h in
      let low = limit_low h log in
      let most = all_owed h log in
      let a = when_most (ecs_due h log) (per_task h) in
      let b = beside_most h own in
      omega arith);
}

-- a task with two beside it, set where an alert may still come
from_busy : (h : Header) (log : Log) (task : Option Task) (now : ℕ) (own : Task) (start : ℕ) → Backoff h log task now → Timely h log task now → beside h own ≤ 2 * per_task h → (start ≡ now) ⊎ (start ≡ max now (next_due h log)) → last_clock log + owed_count log * n_col h.timing + when (ecs_due h log) (per_task h) + 2 * per_task h ≤ limit h log → InTask h log own start
from_busy h log task now own start b t two at w = go at t.fresh (split (last_clock log) (next_due h log))
  where
    split : (m n : ℕ) → (m ≤ n) ⊎ (n < m)
    split m n = grind arith

    go : (start ≡ now) ⊎ (start ≡ max now (next_due h log)) → (now ≤ last_clock log + 1) ⊎ (now ≤ next_due h log) → (last_clock log ≤ next_due h log) ⊎ (next_due h log < last_clock log) → InTask h log own start
    go (inl same) (inl early) x = from_last h log own start b.rises (omega arith) (omega arith)
    go (inl same) (inr early) x = let e = b.early in from_due h log own start b.rises (omega arith) (omega arith)
    go (inr same) (inl early) (inl below) = from_due h log own start b.rises below (omega arith)
    go (inr same) (inl early) (inr above) = from_last h log own start b.rises (omega arith) (omega arith)
    go (inr same) (inr early) x = let e = b.early in from_due h log own start b.rises (omega arith) (omega arith)

-- the same where all banks are closed
from_calm : (h : Header) (log : Log) (now start x : ℕ) → Slack h → Quiet h log → now ≤ x → ((c : Command) → needs_closed c ≡ true → MayFollow h.timing x c log) → x + when (ecs_due h log) h.timing.necs ≤ next_due h log + 2 * h.timing.nrefi + round log * h.timing.nrfcsb + when (begun log) h.timing.necs → (start ≡ now) ⊎ (start ≡ max now (next_due h log)) → Calmed h log start
from_calm h log now start x slack quiet by closers w (inl same) = record { quiet = quiet; x = x; by_now = omega arith; closers = closers; weight = w }
from_calm h log now start x slack quiet by closers w (inr same) = record {
  quiet = quiet;
  x = max x (next_due h log);
  by_now = omega arith;
  closers = λ c own. may_later h x (max x (next_due h log)) c log (omega arith) (closers c own);
  weight = (
      let a = when_most (ecs_due h log) h.timing.necs in
      let b = scrub_max h in
      let c = slack_tasks h slack in
      omega arith);
}

-- an RfmAll, whatever was set before it
from_alert : (h : Header) (log : Log) (task : Option Task) (now a : ℕ) → Backoff h log task now → alert h log ≡ Some a → Phase h log task now → InTask h log RfmAll now
from_alert h log task now a b raised (Busy none w) = from_last h log RfmAll now b.rises (b.prompt a raised) (omega arith)
from_alert h log task now a b raised (Calm none quiet x by closers w) = let q = quiet.calm in absurd (cc)
from_alert h log task now a b raised (Within own is y stage w) = go own stage w
  where
    anew : (two : ℕ) → 2 * per_task h ≤ two → now ≤ y → y + owed_count log * n_col h.timing + when (ecs_due h log) (per_task h) + two ≤ limit h log + per_task h → InTask h log RfmAll now
    anew two more by k = let e = b.early in from_last h log RfmAll now b.rises (b.prompt a raised) (omega arith)

    go : (own : Task) → Stage h own log now y → y + owed_count log * n_col h.timing + when (ecs_due h log) (per_task h) + beside h own ≤ limit h log + per_task h → InTask h log RfmAll now
    go RfmAll s k = record { y = y; stage = s; weight = k }
    go Scrub s k = anew (2 * per_task h) (omega arith) (stage_by_now h Scrub log now y s) k
    go RefAll s k = anew (2 * per_task h) (omega arith) (stage_by_now h RefAll log now y s) k
    go (RefSame address) s k = anew (2 * per_task h) (omega arith) (stage_by_now h (RefSame address) log now y s) k
    go (RfmSame address) s k = anew (3 * per_task h) (omega arith) (stage_by_now h (RfmSame address) log now y s) k

-- a task that needs no alert, and is set in this turn
set_now : (h : Header) (log : Log) (task : Option Task) (now : ℕ) (own : Task) (start : ℕ) → Slack h → Backoff h log task now → Timely h log task now → task ≡ None → beside h own ≡ 2 * per_task h → (start ≡ now) ⊎ (start ≡ max now (next_due h log)) → Phase h log task now → InTask h log own start ⊎ Calmed h log start
set_now h log task now own start slack b t none two at (Busy n w) = inl (from_busy h log task now own start b t (omega arith) at w)
set_now h log task now own start slack b t none two at (Calm n quiet x by closers w) = inr (from_calm h log now start x slack quiet by closers w at)
set_now h log task now own start slack b t none two at (Within other is y stage w) = absurd (cc)

-- a Calm start is that of an ECS or a refresh
pub data NoRfm (own : Task) : Type 0 where
  Ecs_or_refresh : (own ≡ RfmAll → ⊥) → ((a : ℕ) → own ≡ RfmSame a → ⊥) → NoRfm own

with_kind : (h : Header) (log : Log) (own : Task) (start : ℕ) → NoRfm own → InTask h log own start ⊎ Calmed h log start → InTask h log own start ⊎ (Calmed h log start × NoRfm own)
with_kind h log own start k (inl x) = inl x
with_kind h log own start k (inr x) = inr (x, k)

pub started : (h : Header) (log : Log) (task : Option Task) (now : ℕ) (chosen : Task) (start : ℕ) → Slack h → Backoff h log task now → Timely h log task now → Decides h log task now chosen start → InTask h log chosen start ⊎ (Calmed h log start × NoRfm chosen)
started h log task now chosen start slack b t (Backs_off a raised is same) = inl (rw (is, same) (from_alert h log task now a b raised t.phase))
started h log task now chosen start slack b t (Goes_on none is same) = inl (rw same (go t.phase))
  where
    go : Phase h log task now → InTask h log chosen now
    go (Busy n w) = absurd (cc)
    go (Calm n quiet x by closers w) = absurd (cc)
    go (Within own e y stage w) =
        let eq : own ≡ chosen = cc in
        record { y = y; stage = rw eq at stage; weight = rw eq at w }
started h log task now chosen start slack b t (Scrubs none n e is same) = rw is (with_kind h log Scrub start (Ecs_or_refresh (λ k. cc) (λ a k. cc)) (set_now h log task now Scrub start slack b t n refl (inl same) t.phase))
started h log task now chosen start slack b t (Refreshes_all none n e is all same) = rw is (with_kind h log RefAll start (Ecs_or_refresh (λ k. cc) (λ a k. cc)) (set_now h log task now RefAll start slack b t n refl (inr same) t.phase))
started h log task now chosen start slack b t (Refreshes_same address none n e is turn same) = rw is (with_kind h log (RefSame address) start (Ecs_or_refresh (λ k. cc) (λ a k. cc)) (set_now h log task now (RefSame address) start slack b t n refl (inr same) t.phase))
started h log task now chosen start slack b t (Manages_same address none n e low is same) = let early = b.early in inl (rw is (from_due h log (RfmSame address) start b.rises (omega arith) (omega arith)))
