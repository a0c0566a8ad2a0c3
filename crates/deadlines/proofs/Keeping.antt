-- The rules 6, 7, 8 and 13 at each place that a turn issues, and at the end; the start, an idle turn and the end.
use Rattle.std.proofs.Common.{◌≡◌, ◌∙◌, ℕ, zero, suc, ◌+◌, ◌*◌, ◌/◌, ◌≤◌, ◌<◌, Bool, true, false, not, ◌&&◌, ◌||◌, ◌==◌, ◌⊎◌, inl, inr, refl, sym, arith, cond, max, [], ◌∷◌, length, Option, None, eq-eqb, ne_eqb, le-leb, nat_le}
use Rattle.std.proofs.lemmas.Nat.{div_below, le-div}
use Rattle.std.proofs.Math.Nat.{div-le_self}
use Rattle.std.proofs.Math.Nat.{mul-le-mul_right}
use Rattle.command_words.specs.declared.command.Command.{Command}
use Rattle.command_words.specs.declared.command.Command.TheVariants.{RefAb, RefSb, Ecs}
use Rattle.speed_bin.specs.declared.header.Header.{Header}
use Rattle.speed_bin.specs.Log.{Issued, Log, refs, scrubs, last_clock}
use Rattle.speed_bin.specs.Alert.{alert}
use Rattle.command_words.specs.Kinds.{refreshes, is_scrub}
use Rattle.speed_bin.specs.Rules.{is_on_time, rule_6, rule_7, rule_8}
use Rattle.speed_bin.specs.Below.{all_below}
use Rattle.speed_bin.proofs.Tests.{joined, all_below_from}
use Rattle.speed_bin.specs.Gap.{n_max}
use Rattle.requests.specs.Choice.{IsSoonest}
use Rattle.deadlines.specs.declared.task.Task.{Task}
use Rattle.deadlines.specs.declared.task.Task.TheVariants.{RfmAll, Ecs as Scrub, RefAll, RefSame, RfmSame}
use Rattle.deadlines.specs.Rounds.{next_due, ecs_due, Rounds, per_task}
use Rattle.deadlines.proofs.Moves.{Slack, Issues, Writes, Serves, Ends, Freely, Finally}
use Rattle.deadlines.specs.Timely.{Timely, Ready, ForRefAll, ForRefSame, ForEcs, ForRfmAll, ForRfmSame, Phase, Busy, Calm, Within}
use Rattle.deadlines.specs.Backoffs.{Backoff}
use Rattle.deadlines.specs.Tasks.{command_of}
use Rattle.deadlines.specs.Standing.{Stands, AllInTime, Opening}
use Rattle.deadlines.proofs.Following.{may_later, may_from, up_last}
use Rattle.deadlines.proofs.Stages.{some_max}
use Rattle.deadlines.proofs.Starts.{when_most}
use Rattle.deadlines.proofs.Backoffs.{rule_13_holds, backoff_next, all_owed}
use Rattle.deadlines.proofs.Rounds.{is_plain, next_due_is, refs_step, limit_low, slack_refreshes, slack_tasks, per_task_is, scrubs_step}
use Rattle.deadlines.proofs.Refreshing.{ecs_true, ecs_false}
use Rattle.deadlines.proofs.Plain.{Kept, ready_chosen, advance_plain, free_plain, write_plain}
use Rattle.deadlines.proofs.Timing.{timely_next}

-- ---- Between the least and the greatest

pub least_refs : (log : Log) (i : ℕ) → Rounds log → i < 4 → (refs 3 log ≤ refs i log) × (refs i log ≤ refs 0 log)
least_refs log zero r low = let p = r.first in let q = r.second in let u = r.third in (omega arith, omega arith)
least_refs log (suc zero) r low = let p = r.first in let q = r.second in let u = r.third in (omega arith, omega arith)
least_refs log (suc (suc zero)) r low = let p = r.first in let q = r.second in let u = r.third in (omega arith, omega arith)
least_refs log (suc (suc (suc zero))) r low = let p = r.first in let q = r.second in let u = r.third in (omega arith, omega arith)
least_refs log (suc (suc (suc (suc n)))) r low = absurd (omega arith)

refs_grow : (a : ℕ) (place : Issued) (log : Log) → refs a log ≤ refs a (place ∷ log)
refs_grow a place log = let s = refs_step a place log in omega arith

on_time : (h : Header) (clock i m : ℕ) (log : Log) → 0 < h.timing.nrefi → i < 4 → Rounds log → refs 0 log * h.timing.nrefi ≤ clock → m ≤ refs 3 log → clock < (m + 5) * h.timing.nrefi → is_on_time h clock i log ≡ true
on_time h clock i m log some low r early more soon =
    let b = least_refs log i r low in
    let above = b.0 in
    let below = b.1 in
    let q : clock / h.timing.nrefi < m + 5 = div_below clock h.timing.nrefi (m + 5) some soon in
    let p : refs 0 log ≤ clock / h.timing.nrefi = le-div (refs 0 log) clock h.timing.nrefi some early in
    joined _ _ (le-leb (clock / h.timing.nrefi) (refs i log + 4) (omega arith)) (le-leb (refs i log) (clock / h.timing.nrefi + 4) (omega arith))

pub some_interval : (h : Header) → Slack h → 0 < h.timing.nrefi
some_interval h slack = let s = (slack_refreshes h slack).1 in omega arith

pub rule_6_holds : (h : Header) (next : Option Task) (place : Issued) (log : Log) → Slack h → Kept h place log next → rule_6 h place.clock place.command log ≡ true
rule_6_holds h next place log slack k = all_below_from 4 (λ i. is_on_time h place.clock i (place ∷ log)) (λ i low.
    on_time h place.clock i (refs 3 log) (place ∷ log) (some_interval h slack) low k.timely.rounds k.timely.not_early (refs_grow 3 place log)
    (let s = k.soon in let d = next_due_is h log in omega arith))

-- refreshes do not hang on the clock
same_refs_at : (a t : ℕ) (place : Issued) (log : Log) → refs a (record { clock = t; command = place.command } ∷ log) ≡ refs a (place ∷ log)
same_refs_at a t place log = refs_step a (record { clock = t; command = place.command }) log ∙ sym (refs_step a place log)

pub rule_7_holds : (h : Header) (next : Option Task) (place : Issued) (log : Log) → Kept h place log next → rule_7 place.command log ≡ true
rule_7_holds h next place log k = all_below_from 4 (λ a. all_below 4 (λ b. nat_le (refs a (record { clock = 0; command = place.command } ∷ log)) (refs b (record { clock = 0; command = place.command } ∷ log) + 1))) (λ a low.
    all_below_from 4 (λ b. nat_le (refs a (record { clock = 0; command = place.command } ∷ log)) (refs b (record { clock = 0; command = place.command } ∷ log) + 1)) (λ b under. one a b low under))
  where
    one : (a b : ℕ) → a < 4 → b < 4 → nat_le (refs a (record { clock = 0; command = place.command } ∷ log)) (refs b (record { clock = 0; command = place.command } ∷ log) + 1) ≡ true
    one a b low under =
        let x = same_refs_at a 0 place log in
        let y = same_refs_at b 0 place log in
        let p = (least_refs (place ∷ log) a k.timely.rounds low).1 in
        let q = (least_refs (place ∷ log) b k.timely.rounds under).0 in
        let w = k.timely.rounds.whole in
        le-leb _ _ (omega arith)

-- ---- Rule 8

-- an ECS is issued where it is due, and a refresh where none is
pub record Scrubbing (h : Header) (place : Issued) (log : Log) : Type 0 where
  pub on_due : is_scrub place.command ≡ true → ecs_due h log ≡ true
  pub not_due : refreshes 0 place.command ≡ true → ecs_due h log ≡ false

no_scrub : (c : Command) → is_plain c ≡ true → is_scrub c ≡ true → ⊥
unfolding is_plain
no_scrub Ecs p k = absurd (cc)
no_scrub c p k = absurd (cc)

no_refresh : (c : Command) → is_plain c ≡ true → refreshes 0 c ≡ true → ⊥
unfolding is_plain
no_refresh RefAb p k = absurd (cc)
no_refresh (RefSb a) p k = absurd (cc)
no_refresh c p k = absurd (cc)

positive : (n : ℕ) → (n == 0) ≡ false → 1 ≤ n
positive zero e = absurd (cc)
positive (suc n) e = omega arith

plain_scrubbing : (h : Header) (place : Issued) (log : Log) → is_plain place.command ≡ true → Scrubbing h place log
plain_scrubbing h place log plain = record {
  on_due = λ k. absurd (no_scrub place.command plain k);
  not_due = λ k. absurd (no_refresh place.command plain k);
}

own_scrubbing : (h : Header) (start : ℕ) (own : Task) (place : Issued) (log : Log) → Ready h log start own → place.command ≡ command_of own → Scrubbing h place log
own_scrubbing h start own place log (ForRefAll is none all due) e = record { on_due = λ k. let x : is_scrub RefAb ≡ true = rw (e, is) at k in absurd (cc); not_due = λ k. none }
own_scrubbing h start own place log (ForRefSame address is none turn due) e = record { on_due = λ k. let x : is_scrub (RefSb address) ≡ true = rw (e, is) at k in absurd (cc); not_due = λ k. none }
own_scrubbing h start own place log (ForEcs is due) e = record { on_due = λ k. due; not_due = λ k. let x : refreshes 0 Ecs ≡ true = rw (e, is) at k in absurd (cc) }
own_scrubbing h start own place log (ForRfmAll is) e = record { on_due = λ k. let x : is_scrub (command_of RfmAll) ≡ true = rw (e, is) at k in absurd (cc); not_due = λ k. let x : refreshes 0 (command_of RfmAll) ≡ true = rw (e, is) at k in absurd (cc) }
own_scrubbing h start own place log (ForRfmSame address is) e = record { on_due = λ k. let x : is_scrub (command_of (RfmSame address)) ≡ true = rw (e, is) at k in absurd (cc); not_due = λ k. let x : refreshes 0 (command_of (RfmSame address)) ≡ true = rw (e, is) at k in absurd (cc) }

pub scrubbing : (h : Header) (task next : Option Task) (now : ℕ) (place : Issued) (log : Log) → Timely h log task now → Issues h log task now place next → Scrubbing h place log
scrubbing h task next now place log t (Writes w l none u n first at) = plain_scrubbing h place log (write_plain place.command w)
scrubbing h task next now place log t (Serves chosen start d at adv n) = plain_scrubbing h place log (advance_plain h chosen log start place adv).0
scrubbing h task next now place log t (Ends chosen start d at is shut n) = own_scrubbing h start chosen place log (ready_chosen h task now start chosen log t d) is
scrubbing h task next now place log t (Freely u n e due w kind at) = plain_scrubbing h place log (free_plain place.command kind)
scrubbing h task next now place log t (Finally start u n none e l due is at) = plain_scrubbing h place log (free_plain place.command (rw is refl))

pub rule_8_holds : (h : Header) (task : Option Task) (now : ℕ) (place : Issued) (log : Log) → Timely h log task now → Scrubbing h place log → rule_8 h place.command log ≡ true
rule_8_holds h task now place log t s = go (h.settings.ecs_every == 0) refl (is_scrub place.command) refl (refreshes 0 place.command) refl
  where
    count : ℕ
    count = refs 0 log / h.settings.ecs_every

    go : (x : Bool) → (h.settings.ecs_every == 0) ≡ x → (y : Bool) → is_scrub place.command ≡ y → (z : Bool) → refreshes 0 place.command ≡ z → cond x (not y) ((not y || nat_le (suc (scrubs log)) (refs 0 log / h.settings.ecs_every)) && (not z || (scrubs log == refs 0 log / h.settings.ecs_every))) ≡ true
    go true e true f z g = let d = (ecs_true h log (s.on_due f)).0 in let k : (h.settings.ecs_every == 0) ≡ false = ne_eqb h.settings.ecs_every 0 (λ k. omega arith) in absurd (cc)
    go true e false f z g = refl
    go false e y f z g = joined _ _ (first y f) (second z g)
      where
        some : 1 ≤ h.settings.ecs_every
        some = positive h.settings.ecs_every e

        first : (y : Bool) → is_scrub place.command ≡ y → (not y || nat_le (suc (scrubs log)) (refs 0 log / h.settings.ecs_every)) ≡ true
        first true f = let d = (ecs_true h log (s.on_due f)).1 in le-leb _ _ (omega arith)
        first false f = refl

        second : (z : Bool) → refreshes 0 place.command ≡ z → (not z || (scrubs log == refs 0 log / h.settings.ecs_every)) ≡ true
        second true g =
            let a = ecs_false h log (s.not_due g) some in
            let b = t.scrubbed some in
            eq-eqb _ _ (omega arith)
        second false g = refl

-- ---- One turn

pub record TurnKeeps (h : Header) (place : Issued) (log : Log) (next : Option Task) : Type 0 where
  pub sixth : rule_6 h place.clock place.command log ≡ true
  pub seventh : rule_7 place.command log ≡ true
  pub eighth : rule_8 h place.command log ≡ true
  pub backoff : Backoff h (place ∷ log) next (place.clock + 1)
  pub timely : Timely h (place ∷ log) next (place.clock + 1)

pub turn_keeps : (h : Header) (task next : Option Task) (now : ℕ) (place : Issued) (log : Log) → Slack h → Backoff h log task now → Timely h log task now → Issues h log task now place next → TurnKeeps h place log next
turn_keeps h task next now place log slack b t i =
    let k = timely_next h task next now place log slack b t i in
    record {
      sixth = rule_6_holds h next place log slack k;
      seventh = rule_7_holds h next place log k;
      eighth = rule_8_holds h task now place log t (scrubbing h task next now place log t i);
      backoff = backoff_next h task next now place log slack.some_nrp b i;
      timely = k.timely;
    }

-- ---- The controller's object: at its start, after a turn, after an idle turn, at its end

pub stands_next : (h : Header) (task next : Option Task) (now : ℕ) (place : Issued) (log : Log) → Slack h → Stands h log task now → Issues h log task now place next → Stands h (place ∷ log) next (place.clock + 1)
stands_next h task next now place log slack s i =
    let k = turn_keeps h task next now place log slack s.backoff s.timely i in
    record {
      meets = (s.meets, k.sixth, k.seventh, k.eighth, rule_13_holds h task next now place log slack.some_nrp s.backoff i);
      backoff = k.backoff;
      timely = k.timely;
    }

pub stands_start : (h : Header) → Stands h [] None 0
stands_start h = record {
  meets = tt;
  backoff = record {
    rises = tt;
    early = omega arith;
    prompt = λ a e. absurd (cc);
    window = λ a e other. absurd (cc);
    closing = λ a e own. absurd (cc);
    raised = λ own none. absurd (cc);
  };
  timely = record {
    rounds = record { first = omega arith; second = omega arith; third = omega arith; whole = omega arith };
    fresh = inl (omega arith);
    begins_late = inl refl;
    not_early = omega arith;
    opened = λ b low o. absurd (o refl);
    scrubbed = λ some. omega arith;
    scrubs_soon = λ some. (let d = div-le_self 0 h.settings.ecs_every in omega arith);
    ready = λ own e. absurd (cc);
    phase = Busy refl (
        let l = limit_low h [] in
        let most = all_owed h [] in
        let e = when_most (ecs_due h []) (per_task h) in
        omega arith);
  };
}

idle_phase : (h : Header) (now later : ℕ) (log : Log) → Slack h → later < next_due h log → Phase h log None now → Phase h log None later
idle_phase h now later log slack due (Busy none w) = Busy none w
idle_phase h now later log slack due (Calm none quiet x by closers w) =
    Calm none quiet (max x (next_due h log)) (omega arith) (λ c own. may_later h x (max x (next_due h log)) c log (omega arith) (closers c own))
    (let a = when_most (ecs_due h log) h.timing.necs in
    let b = (slack_refreshes h slack).1 in
    omega arith)
idle_phase h now later log slack due (Within own e y stage w) = absurd (cc)

-- now moves on while nothing is due
pub stands_idle : (h : Header) (now later : ℕ) (log : Log) → Slack h → alert h log ≡ None → now ≤ later → later < next_due h log → Stands h log None now → Stands h log None later
stands_idle h now later log slack none more due s = record {
  meets = s.meets;
  backoff = record {
    rises = s.backoff.rises;
    early = (let e = s.backoff.early in omega arith);
    prompt = λ a e. absurd (cc);
    window = λ a e other. absurd (cc);
    closing = λ a e own. absurd (cc);
    raised = λ own k. absurd (cc);
  };
  timely = record {
    rounds = s.timely.rounds;
    fresh = inr (omega arith);
    begins_late = s.timely.begins_late;
    not_early = s.timely.not_early;
    opened = s.timely.opened;
    scrubbed = s.timely.scrubbed;
    scrubs_soon = s.timely.scrubs_soon;
    ready = λ own e. absurd (cc);
    phase = idle_phase h now later log slack due s.timely.phase;
  };
}

-- rule 6 at the end
pub ends_in_time : (h : Header) (now later i : ℕ) (log : Log) → Slack h → i < 4 → now ≤ later → later < next_due h log → Stands h log None now → is_on_time h later i log ≡ true
ends_in_time h now later i log slack low more due s =
    on_time h later i (refs 3 log) log (some_interval h slack) low s.timely.rounds
    (let e = s.backoff.early in let k = s.timely.not_early in omega arith) (omega arith)
    (let d = next_due_is h log in omega arith)

-- ---- Register writes

-- a register write comes nMax after the one before, so long before a refresh is due
pub first_clock : (h : Header) (task : Option Task) (now t : ℕ) (c : Command) (log : Log) → Backoff h log task now → Opening h log task now → IsSoonest h log now c t → t ≤ last_clock log + n_max h.timing
first_clock h task now t c log b o at =
    let early = o.prompt in
    let some = some_max h.timing in
    at.least (last_clock log + n_max h.timing) (omega arith) (may_from h (last_clock log) (last_clock log + n_max h.timing) c log (up_last log b.rises) (omega arith) (omega arith))

pub first_soon : (h : Header) (task : Option Task) (now t : ℕ) (c : Command) (log : Log) → Slack h → Backoff h log task now → Opening h log task now → length log < 8 → IsSoonest h log now c t → t ≤ next_due h log
first_soon h task now t c log slack b o few at =
    let k = first_clock h task now t c log b o at in
    let before = o.soon in
    let m : length log * n_max h.timing ≤ 7 * n_max h.timing = mul-le-mul_right (n_max h.timing) (omega arith) in
    let p = slack_tasks h slack in
    let q = per_task_is h in
    let d = next_due_is h log in
    let r : 0 * h.timing.nrefi ≤ refs 3 log * h.timing.nrefi = mul-le-mul_right h.timing.nrefi (omega arith) in
    omega arith

-- ---- What the bound on the end of a job takes from here

-- without ECS there is none in the log
no_scrubs : (h : Header) (log : Log) → h.settings.ecs_every ≡ 0 → AllInTime h log → scrubs log ≡ 0
no_scrubs h [] none m = refl
no_scrubs h (place ∷ log) none m =
    let ih = no_scrubs h log none m.0 in
    let e : (h.settings.ecs_every == 0) ≡ true = eq-eqb h.settings.ecs_every 0 none in
    let k : not (is_scrub place.command) ≡ true = rw e at m.3 in
    let s = scrubs_step place log in
    let f : cond {A = ℕ} (is_scrub place.command) 1 0 ≡ 0 = zero_if (is_scrub place.command) k in
    omega arith
  where
    zero_if : (x : Bool) → not x ≡ true → cond {A = ℕ} x 1 0 ≡ 0
    zero_if true k = absurd (cc)
    zero_if false k = refl

pub few_scrubs : (h : Header) (task : Option Task) (now : ℕ) (log : Log) → Stands h log task now → scrubs log ≤ refs 0 log
few_scrubs h task now log s = go (cases h.settings.ecs_every)
  where
    cases : (n : ℕ) → (n ≡ 0) ⊎ (1 ≤ n)
    cases n = grind arith

    go : (h.settings.ecs_every ≡ 0) ⊎ (1 ≤ h.settings.ecs_every) → scrubs log ≤ refs 0 log
    go (inl none) = let e = no_scrubs h log none s.meets in omega arith
    go (inr some) =
        let a = s.timely.scrubbed some in
        let b = div-le_self (refs 0 log) h.settings.ecs_every in
        omega arith

pub not_early_now : (h : Header) (task : Option Task) (now : ℕ) (log : Log) → Stands h log task now → refs 0 log * h.timing.nrefi ≤ now
not_early_now h task now log s = let a = s.timely.not_early in let b = s.backoff.early in omega arith

-- ---- A refresh waits for a debt of 2

pub debt_of_two : (h : Header) (start t address : ℕ) (own : Task) (log : Log) → Slack h → Rounds log → Ready h log start own → start ≤ t → address < 4 → (own ≡ RefAll) ⊎ (own ≡ RefSame address) → refs address log + 2 ≤ t / h.timing.nrefi
debt_of_two h start t address own log slack r (ForRefAll is none all due) later low which =
    let b = least_refs log address r low in
    let below = b.1 in
    let d = next_due_is h log in
    let m : (refs address log + 2) * h.timing.nrefi ≤ (refs 3 log + 2) * h.timing.nrefi = mul-le-mul_right h.timing.nrefi (omega arith) in
    le-div (refs address log + 2) t h.timing.nrefi (some_interval h slack) (omega arith)
debt_of_two h start t address own log slack r (ForRefSame a is none turn due) later low (inl all) = let x : RefSame a ≡ RefAll = rw is at all in absurd (cc)
debt_of_two h start t address own log slack r (ForRefSame a is none turn due) later low (inr same) =
    let e : RefSame a ≡ RefSame address = rw is at same in
    let f : a ≡ address = cc in
    let w = turn.waits in
    let g : refs address log ≡ refs 3 log = rw f at w in
    let d = next_due_is h log in
    let m : (refs address log + 2) * h.timing.nrefi ≤ (refs 3 log + 2) * h.timing.nrefi = mul-le-mul_right h.timing.nrefi (omega arith) in
    le-div (refs address log + 2) t h.timing.nrefi (some_interval h slack) (omega arith)
debt_of_two h start t address own log slack r (ForEcs is due) later low (inl all) = let x : Scrub ≡ RefAll = rw is at all in absurd (cc)
debt_of_two h start t address own log slack r (ForEcs is due) later low (inr same) = let x : Scrub ≡ RefSame address = rw is at same in absurd (cc)
debt_of_two h start t address own log slack r (ForRfmAll is) later low (inl all) = let x : RfmAll ≡ RefAll = rw is at all in absurd (cc)
debt_of_two h start t address own log slack r (ForRfmAll is) later low (inr same) = let x : RfmAll ≡ RefSame address = rw is at same in absurd (cc)
debt_of_two h start t address own log slack r (ForRfmSame a is) later low (inl all) = let x : RfmSame a ≡ RefAll = rw is at all in absurd (cc)
debt_of_two h start t address own log slack r (ForRfmSame a is) later low (inr same) = let x : RfmSame a ≡ RefSame address = rw is at same in absurd (cc)
