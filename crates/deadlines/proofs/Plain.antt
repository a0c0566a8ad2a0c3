-- Places that are neither REF nor ECS keep what rules 6 to 8 rest on, and come in time.
use Rattle.std.proofs.Common.{◌≡◌, ◌∙◌, ℕ, zero, suc, ◌+◌, ◌*◌, ◌/◌, ◌%◌, ◌≤◌, ◌<◌, true, false, ◌||◌, ◌⊎◌, inl, inr, refl, sym, ap, arith, ◌∷◌, Option, Some, None}
use Rattle.command_words.specs.declared.command.Command.{Command}
use Rattle.command_words.specs.declared.command.Command.TheVariants.{RefAb, RefSb, Ecs, Act, PreAb}
use Rattle.speed_bin.specs.declared.header.Header.{Header}
use Rattle.speed_bin.specs.Log.{Issued, Log, open_at, refs, scrubs, last_clock}
use Rattle.command_words.specs.Kinds.{is_act, is_mrw, is_precharge}
use Rattle.speed_bin.specs.Gap.{n_max}
use Rattle.requests.specs.Choice.{IsSoonest}
use Rattle.requests.specs.Owed.{is_column}
use Rattle.deadlines.specs.Blocking.{AllRise}
use Rattle.deadlines.specs.declared.task.Task.{Task}
use Rattle.deadlines.proofs.Moves.{Advances, Column, Shut, Slack, Decides, Backs_off, Goes_on, Scrubs, Refreshes_all, Refreshes_same, Manages_same}
use Rattle.deadlines.specs.Rounds.{next_due, ecs_due, Rounds, per_task, limit}
use Rattle.deadlines.specs.Timely.{Phase, Busy, Ready, ForRefAll, ForRefSame, ForEcs, ForRfmAll, ForRfmSame, Timely}
use Rattle.deadlines.specs.Backoffs.{Backoff}
use Rattle.deadlines.proofs.Following.{up_last, may_from, column_other, precharge_other}
use Rattle.deadlines.proofs.Stages.{some_max}
use Rattle.deadlines.proofs.Backoffs.{all_owed}
use Rattle.deadlines.proofs.Rounds.{is_plain, per_task_is, limit_low, limit_high, slack_tasks, slack_refreshes, next_due_same, refs_plain, scrubs_plain}
use Rattle.deadlines.proofs.Refreshing.{SameRefs, same_refs, ecs_same, rounds_same}
use Rattle.deadlines.proofs.Starts.{InTask, Calmed, NoRfm, started, when_most}
use Rattle.deadlines.proofs.Phases.{stays_closed, within_next, calm_ends}

-- ---- Plain commands

pub free_plain : (c : Command) → (is_act c || (is_column c || is_precharge c)) ≡ true → is_plain c ≡ true
unfolding is_plain
free_plain RefAb k = absurd (cc)
free_plain (RefSb a) k = absurd (cc)
free_plain Ecs k = absurd (cc)
free_plain c k = refl

pub write_plain : (c : Command) → is_mrw c ≡ true → is_plain c ≡ true
unfolding is_plain
write_plain RefAb k = absurd (cc)
write_plain (RefSb a) k = absurd (cc)
write_plain Ecs k = absurd (cc)
write_plain c k = refl

write_other : (c : Command) → is_mrw c ≡ true → is_act c ≡ false
write_other (Act b r) k = absurd (cc)
write_other c k = refl

column_plain : (c : Command) → is_column c ≡ true → is_plain c ≡ true
unfolding is_plain
column_plain RefAb k = absurd (cc)
column_plain (RefSb a) k = absurd (cc)
column_plain Ecs k = absurd (cc)
column_plain c k = refl

precharge_plain : (c : Command) → is_precharge c ≡ true → is_plain c ≡ true
unfolding is_plain
precharge_plain RefAb k = absurd (cc)
precharge_plain (RefSb a) k = absurd (cc)
precharge_plain Ecs k = absurd (cc)
precharge_plain c k = refl

pub advance_plain : (h : Header) (own : Task) (log : Log) (now : ℕ) (place : Issued) → Advances h own log now place → (is_plain place.command ≡ true) × (is_act place.command ≡ false)
advance_plain h own log now place (Column b low column cover o within) = (column_plain place.command column, column_other place.command column)
advance_plain h own log now place (Shut b low precharge within opened shuts) = (precharge_plain place.command precharge, precharge_other place.command precharge)

-- ---- What a plain place keeps

-- every address has as many refreshes where the first and the last have
all_equal : (log : Log) (i : ℕ) → Rounds log → refs 0 log ≡ refs 3 log → i < 4 → refs i log ≡ refs 3 log
all_equal log zero r e low = e
all_equal log (suc zero) r e low = let p = r.first in let q = r.second in let u = r.third in omega arith
all_equal log (suc (suc zero)) r e low = let p = r.first in let q = r.second in let u = r.third in omega arith
all_equal log (suc (suc (suc zero))) r e low = refl
all_equal log (suc (suc (suc (suc n)))) r e low = absurd (omega arith)

pub plain_next : (h : Header) (task next : Option Task) (now : ℕ) (place : Issued) (log : Log) → Timely h log task now → is_plain place.command ≡ true → last_clock log ≤ place.clock → ((b : ℕ) → b < 32 → (open_at b (place ∷ log) ≡ None → ⊥) → refs (b % 4) log ≡ refs 3 log) → ((own : Task) → next ≡ Some own → Ready h (place ∷ log) (place.clock + 1) own) → Phase h (place ∷ log) next (place.clock + 1) → Timely h (place ∷ log) next (place.clock + 1)
plain_next h task next now place log t plain later opened ready phase = record {
  rounds = rounds_same h place log same t.rounds;
  fresh = inl (omega arith);
  begins_late = late t.begins_late;
  not_early = early;
  opened = λ b low o. each (b % 4) ∙ opened b low o ∙ sym (each 3);
  scrubbed = λ some. scrubbed (t.scrubbed some);
  scrubs_soon = λ some. soon (t.scrubs_soon some);
  ready = ready;
  phase = phase;
}
  where
    each : (a : ℕ) → refs a (place ∷ log) ≡ refs a log
    each a = refs_plain a place log plain

    same : SameRefs h place log
    same = same_refs h place log each

    quotient : refs 0 (place ∷ log) / h.settings.ecs_every ≡ refs 0 log / h.settings.ecs_every
    quotient = ap (λ (n : ℕ). n / h.settings.ecs_every) (each 0)

    late : (refs 0 log ≡ refs 3 log) ⊎ (next_due h log ≤ last_clock log) → (refs 0 (place ∷ log) ≡ refs 3 (place ∷ log)) ⊎ (next_due h (place ∷ log) ≤ place.clock)
    late (inl e) = inl (each 0 ∙ e ∙ sym (each 3))
    late (inr e) = inr (let d = same.due in omega arith)

    early : refs 0 (place ∷ log) * h.timing.nrefi ≤ place.clock
    early =
        let k = t.not_early in
        let e : refs 0 (place ∷ log) * h.timing.nrefi ≡ refs 0 log * h.timing.nrefi = ap (λ (n : ℕ). n * h.timing.nrefi) (each 0) in
        omega arith

    scrubbed : scrubs log ≤ refs 0 log / h.settings.ecs_every → scrubs (place ∷ log) ≤ refs 0 (place ∷ log) / h.settings.ecs_every
    scrubbed k = let s = scrubs_plain place log plain in omega (arith, quotient)

    soon : refs 0 log / h.settings.ecs_every ≤ suc (scrubs log) → refs 0 (place ∷ log) / h.settings.ecs_every ≤ suc (scrubs (place ∷ log))
    soon k = let s = scrubs_plain place log plain in omega (arith, quotient)

pub still_open : (b : ℕ) (place : Issued) (log : Log) → is_act place.command ≡ false → (open_at b (place ∷ log) ≡ None → ⊥) → open_at b log ≡ None → ⊥
still_open b place log other o none = o (stays_closed b place log other none)

-- ---- What a task that is set rests on

pub ready_chosen : (h : Header) (task : Option Task) (now start : ℕ) (chosen : Task) (log : Log) → Timely h log task now → Decides h log task now chosen start → Ready h log start chosen
ready_chosen h task now start chosen log t (Backs_off a raised is same) = ForRfmAll is
ready_chosen h task now start chosen log t (Goes_on none is same) = rw same (t.ready chosen is)
ready_chosen h task now start chosen log t (Scrubs none n e is same) = ForEcs is e
ready_chosen h task now start chosen log t (Refreshes_all none n e is all same) = ForRefAll is e all (omega arith)
ready_chosen h task now start chosen log t (Refreshes_same address none n e is turn same) = ForRefSame address is e turn (omega arith)
ready_chosen h task now start chosen log t (Manages_same address none n e low is same) = ForRfmSame address is

ready_next : (h : Header) (start : ℕ) (own : Task) (place : Issued) (log : Log) → is_plain place.command ≡ true → start ≤ place.clock → Ready h log start own → Ready h (place ∷ log) (place.clock + 1) own
ready_next h start own place log plain later (ForRefAll is e all due) = ForRefAll is (ecs_same h place log (refs_plain 0 place log plain) (scrubs_plain place log plain) ∙ e) (refs_plain 0 place log plain ∙ all ∙ sym (refs_plain 3 place log plain)) (let d = next_due_same h place log (refs_plain 3 place log plain) in omega arith)
ready_next h start own place log plain later (ForRefSame address is e turn due) = ForRefSame address is (ecs_same h place log (refs_plain 0 place log plain) (scrubs_plain place log plain) ∙ e) (record {
  inside = turn.inside;
  waits = refs_plain address place log plain ∙ turn.waits ∙ sym (refs_plain 3 place log plain);
  earlier = λ i low. refs_plain i place log plain ∙ turn.earlier i low ∙ ap (λ (n : ℕ). suc n) (sym (refs_plain 3 place log plain));
}) (let d = next_due_same h place log (refs_plain 3 place log plain) in omega arith)
ready_next h start own place log plain later (ForEcs is e) = ForEcs is (ecs_same h place log (refs_plain 0 place log plain) (scrubs_plain place log plain) ∙ e)
ready_next h start own place log plain later (ForRfmAll is) = ForRfmAll is
ready_next h start own place log plain later (ForRfmSame address is) = ForRfmSame address is

-- ---- In time for rule 6

pub soon_enough : (h : Header) (log : Log) (t : ℕ) → Slack h → Rounds log → t ≤ limit h log + per_task h → t < next_due h log + 3 * h.timing.nrefi
soon_enough h log t slack r low =
    let a = limit_high h log r in
    let b = slack_tasks h slack in
    let c = (slack_refreshes h slack).1 in
    omega arith

pub none_ready : (h : Header) (place : Issued) (log : Log) (next : Option Task) → next ≡ None → (own : Task) → next ≡ Some own → Ready h (place ∷ log) (place.clock + 1) own
none_ready h place log next e own k = absurd (cc)

-- a command before a refresh is due leaves all free
busy_from : (h : Header) (place : Issued) (log : Log) (next : Option Task) → is_plain place.command ≡ true → next ≡ None → place.clock ≤ next_due h log + per_task h → Phase h (place ∷ log) next (place.clock + 1)
busy_from h place log next plain none low =
    let same = same_refs h place log (λ i. refs_plain i place log plain) in
    let due = same.due in
    let l = limit_low h (place ∷ log) in
    let most = all_owed h (place ∷ log) in
    let e = when_most (ecs_due h (place ∷ log)) (per_task h) in
    Busy none (omega arith)

pub record Kept (h : Header) (place : Issued) (log : Log) (next : Option Task) : Type 0 where
  pub soon : place.clock < next_due h log + 3 * h.timing.nrefi
  pub timely : Timely h (place ∷ log) next (place.clock + 1)

pub writes_next : (h : Header) (task next : Option Task) (now : ℕ) (place : Issued) (log : Log) → Slack h → Timely h log task now → last_clock log ≤ place.clock → is_mrw place.command ≡ true → next ≡ None → place.clock ≤ next_due h log → Kept h place log next
writes_next h task next now place log slack t later mrw none first = record {
  soon = (let c = (slack_refreshes h slack).1 in omega arith);
  timely = plain_next h task next now place log t (write_plain place.command mrw) later
      (λ b low o. t.opened b low (still_open b place log (write_other place.command mrw) o))
      (none_ready h place log next none)
      (busy_from h place log next (write_plain place.command mrw) none (omega arith));
}

pub freely_next : (h : Header) (task next : Option Task) (now : ℕ) (place : Issued) (log : Log) → Slack h → Timely h log task now → last_clock log ≤ place.clock → next ≡ None → place.clock < next_due h log → (is_act place.command || (is_column place.command || is_precharge place.command)) ≡ true → Kept h place log next
freely_next h task next now place log slack t later none due kind = record {
  soon = (let c = (slack_refreshes h slack).1 in omega arith);
  timely = plain_next h task next now place log t (free_plain place.command kind) later
      (λ b low o. equal (b % 4) (omega arith) t.begins_late)
      (none_ready h place log next none)
      (busy_from h place log next (free_plain place.command kind) none (omega arith));
}
  where
    equal : (i : ℕ) → i < 4 → (refs 0 log ≡ refs 3 log) ⊎ (next_due h log ≤ last_clock log) → refs i log ≡ refs 3 log
    equal i low (inl e) = all_equal log i t.rounds e low
    equal i low (inr e) = absurd (omega arith)

-- ---- The PREab at the end, and a command for a task that goes on

preab_clock : (h : Header) (now start t : ℕ) (log : Log) → AllRise log → last_clock log ≤ now → now ≤ start → start < next_due h log → IsSoonest h log start PreAb t → t ≤ next_due h log + n_max h.timing
preab_clock h now start t log rises early l due at =
    let s = some_max h.timing in
    at.least (next_due h log + n_max h.timing) (omega arith) (may_from h (last_clock log) (next_due h log + n_max h.timing) PreAb log (up_last log rises) (omega arith) (omega arith))

pub finally_next : (h : Header) (task next : Option Task) (now start : ℕ) (place : Issued) (log : Log) → Slack h → AllRise log → last_clock log ≤ now → Timely h log task now → next ≡ None → now ≤ start → start < next_due h log → place.command ≡ PreAb → IsSoonest h log start place.command place.clock → Kept h place log next
finally_next h task next now start place log slack rises early t none l due is at =
    let k : IsSoonest h log start PreAb place.clock = rw is at at in
    let low = preab_clock h now start place.clock log rises early l due k in
    let p = per_task_is h in
    let late = k.not_before in
    let pre : is_precharge place.command ≡ true = rw is refl in
    let plain = precharge_plain place.command pre in
    record {
      soon = soon_enough h log place.clock slack t.rounds (let g = limit_low h log in omega arith);
      timely = plain_next h task next now place log t plain (omega arith)
          (λ b low o. t.opened b low (still_open b place log (precharge_other place.command pre) o))
          (none_ready h place log next none)
          (busy_from h place log next plain none (omega arith));
    }

pub serves_next : (h : Header) (task next : Option Task) (now start : ℕ) (chosen : Task) (place : Issued) (log : Log) → Slack h → Backoff h log task now → Timely h log task now → now ≤ start → Decides h log task now chosen start → IsSoonest h log start place.command place.clock → Advances h chosen log start place → next ≡ Some chosen → Kept h place log next
serves_next h task next now start chosen place log slack b t l d at adv n = go (started h log task now chosen start slack b t d)
  where
    plain : is_plain place.command ≡ true
    plain = (advance_plain h chosen log start place adv).0

    other : is_act place.command ≡ false
    other = (advance_plain h chosen log start place adv).1

    ready : (own : Task) → next ≡ Some own → Ready h (place ∷ log) (place.clock + 1) own
    ready own e =
        let same : chosen ≡ own = cc in
        rw (← same) (ready_next h start chosen place log plain at.not_before (ready_chosen h task now start chosen log t d))

    go : InTask h log chosen start ⊎ (Calmed h log start × NoRfm chosen) → Kept h place log next
    go (inl k) =
        let q = within_next h chosen start place log slack k at adv (same_refs h place log (λ i. refs_plain i place log plain)) (ecs_same h place log (refs_plain 0 place log plain) (scrubs_plain place log plain)) in
        record {
          soon = soon_enough h log place.clock slack t.rounds q.0;
          timely = plain_next h task next now place log t plain (let e = b.early in let f = at.not_before in omega arith)
              (λ b low o. t.opened b low (still_open b place log other o))
              ready
              (rw n q.1);
        }
    go (inr k) = absurd (calm_ends h chosen start place log k.0.quiet adv)
