-- Rules 6 to 8: one turn keeps what the deadlines rest on, and its place comes in time.
use Rattle.std.proofs.Common.{◌≡◌, ◌≢◌, ◌∙◌, ℕ, zero, suc, ◌+◌, ◌*◌, ◌/◌, ◌%◌, ◌≤◌, ◌<◌, true, false, ◌⊎◌, inl, inr, refl, sym, ap, arith, ◌∷◌, Option, Some, None, eq-eqb}
use Rattle.command_words.specs.Command.{is_at}
use Rattle.speed_bin.specs.declared.header.Header.{Header}
use Rattle.speed_bin.specs.Log.{Issued, Log, open_at, refs, scrubs, last_clock}
use Rattle.command_words.specs.Kinds.{is_act}
use Rattle.speed_bin.specs.Alert.{alert}
use Rattle.requests.specs.Choice.{IsSoonest}
use Rattle.deadlines.specs.declared.task.Task.{Task}
use Rattle.deadlines.specs.declared.task.Task.TheVariants.{RfmAll, Ecs as Scrub, RefAll, RefSame, RfmSame}
use Rattle.deadlines.proofs.Moves.{Slack, Decides, Backs_off, Goes_on, Scrubs, Refreshes_all, Refreshes_same, Manages_same, Issues, Writes, Serves, Ends, Freely, Finally}
use Rattle.deadlines.specs.Rounds.{next_due, ecs_due, Rounds, per_task}
use Rattle.deadlines.specs.Timely.{IsTurnOf, beside, Quiet, Phase, Ready, ForRefAll, ForRefSame, ForEcs, ForRfmAll, ForRfmSame, Timely}
use Rattle.deadlines.specs.Backoffs.{Backoff}
use Rattle.deadlines.proofs.Following.{closer_other}
use Rattle.deadlines.proofs.Backoffs.{not_before, decided_later}
use Rattle.deadlines.proofs.Rounds.{is_plain, next_due_is, next_due_same, refs_all, refs_own, refs_other, refs_scrub, scrubs_scrub, scrubs_all, scrubs_same}
use Rattle.deadlines.proofs.Refreshing.{SameRefs, same_refs, ecs_same, ecs_true, ecs_false, ecs_done, quotient_next, rounds_same, NextTurn, next_turn, Complete, complete_same, complete_all, complete_rounds}
use Rattle.deadlines.proofs.Starts.{InTask, Calmed, NoRfm, Ecs_or_refresh, started}
use Rattle.deadlines.proofs.Phases.{AtEnd, closer_no_precharge, end_closed, end_plain_all, end_plain_same, stays_closed, stays_calm, end_rfm_all, end_rfm_same, end_scrub, end_next, end_complete, calm_soon, calm_scrub, calm_first, calm_other, calm_last, calm_all}
use Rattle.deadlines.proofs.Plain.{plain_next, still_open, none_ready, ready_chosen, soon_enough, Kept, writes_next, freely_next, finally_next, serves_next}

-- ---- A task's own command

-- where a task is no RfmAll, no alert is raised
decided_calm : (h : Header) (task : Option Task) (now start : ℕ) (chosen : Task) (log : Log) → Decides h log task now chosen start → (chosen ≡ RfmAll → ⊥) → alert h log ≡ None
decided_calm h task now start chosen log (Backs_off a raised is same) other = absurd (other is)
decided_calm h task now start chosen log (Goes_on none is same) other = none
decided_calm h task now start chosen log (Scrubs none n e is same) other = none
decided_calm h task now start chosen log (Refreshes_all none n e is all same) other = none
decided_calm h task now start chosen log (Refreshes_same address none n e is turn same) other = none
decided_calm h task now start chosen log (Manages_same address none n e low is same) other = none

-- what all ends share
record Ending (h : Header) (task : Option Task) (now start : ℕ) (own : Task) (place : Issued) (log : Log) : Type 0 where
  at_end : AtEnd h place log own
  timely : Timely h log task now
  later : last_clock log ≤ place.clock
  decided : Decides h log task now own start
  at : IsSoonest h log start place.command place.clock
  begun_by : InTask h log own start ⊎ (Calmed h log start × NoRfm own)

closer_act : (h : Header) (task : Option Task) (now start : ℕ) (own : Task) (place : Issued) (log : Log) → Ending h task now start own place log → is_act place.command ≡ false
closer_act h task now start own place log k = closer_other place.command (end_closed h place log own k.at_end)

ends_rfm_all : (h : Header) (task : Option Task) (now start : ℕ) (place : Issued) (log : Log) → Ending h task now start RfmAll place log → Kept h place log None
ends_rfm_all h task now start place log k = go k.begun_by
  where
    plain : is_plain place.command ≡ true
    plain = end_plain_all h place log k.at_end.is

    go : InTask h log RfmAll start ⊎ (Calmed h log start × NoRfm RfmAll) → Kept h place log None
    go (inl s) =
        let q = end_rfm_all h place log start k.at_end s k.at in
        record {
          soon = soon_enough h log place.clock k.at_end.slack k.at_end.rounds q.0;
          timely = plain_next h task None now place log k.timely plain k.later
              (λ b low o. k.timely.opened b low (still_open b place log (closer_act h task now start RfmAll place log k) o))
              (none_ready h place log None refl)
              q.1;
        }
    go (inr s) = absurd (no_rfm s.1)
      where
        no_rfm : NoRfm RfmAll → ⊥
        no_rfm (Ecs_or_refresh a b) = a refl

ends_rfm_same : (h : Header) (task : Option Task) (now start address : ℕ) (place : Issued) (log : Log) → Ending h task now start (RfmSame address) place log → Kept h place log None
ends_rfm_same h task now start address place log k = go k.begun_by
  where
    plain : is_plain place.command ≡ true
    plain = end_plain_same h address place log k.at_end.is

    go : InTask h log (RfmSame address) start ⊎ (Calmed h log start × NoRfm (RfmSame address)) → Kept h place log None
    go (inl s) =
        let q = end_rfm_same h address place log start k.at_end s k.at in
        record {
          soon = soon_enough h log place.clock k.at_end.slack k.at_end.rounds q.0;
          timely = plain_next h task None now place log k.timely plain k.later
              (λ b low o. k.timely.opened b low (still_open b place log (closer_act h task now start (RfmSame address) place log k) o))
              (none_ready h place log None refl)
              q.1;
        }
    go (inr s) = absurd (no_rfm s.1)
      where
        no_rfm : NoRfm (RfmSame address) → ⊥
        no_rfm (Ecs_or_refresh a b) = b address refl

ends_scrub : (h : Header) (task : Option Task) (now start : ℕ) (place : Issued) (log : Log) → Ending h task now start Scrub place log → ecs_due h log ≡ true → Kept h place log None
ends_scrub h task now start place log k due = go k.begun_by
  where
    done : ecs_due h (place ∷ log) ≡ false
    done = ecs_done h place log k.at_end.is k.timely.scrubs_soon

    same : SameRefs h place log
    same = same_refs h place log (λ i. refs_scrub i place log k.at_end.is)

    quotient : refs 0 (place ∷ log) / h.settings.ecs_every ≡ refs 0 log / h.settings.ecs_every
    quotient = ap (λ (n : ℕ). n / h.settings.ecs_every) (same.each 0)

    late : (refs 0 log ≡ refs 3 log) ⊎ (next_due h log ≤ last_clock log) → (refs 0 (place ∷ log) ≡ refs 3 (place ∷ log)) ⊎ (next_due h (place ∷ log) ≤ place.clock)
    late (inl e) = inl (same.each 0 ∙ e ∙ sym (same.each 3))
    late (inr e) = inr (let d = same.due in let l = k.later in omega arith)

    timely : Phase h (place ∷ log) None (place.clock + 1) → Timely h (place ∷ log) None (place.clock + 1)
    timely phase = record {
      rounds = rounds_same h place log same k.timely.rounds;
      fresh = inl (omega arith);
      begins_late = late k.timely.begins_late;
      not_early = (
          let n = k.timely.not_early in
          let l = k.later in
          let e : refs 0 (place ∷ log) * h.timing.nrefi ≡ refs 0 log * h.timing.nrefi = ap (λ (n : ℕ). n * h.timing.nrefi) (same.each 0) in
          omega arith);
      opened = λ b low o. same.each (b % 4) ∙ k.timely.opened b low (still_open b place log (closer_act h task now start Scrub place log k) o) ∙ sym (same.each 3);
      scrubbed = λ some. let s = scrubs_scrub place log k.at_end.is in let d = (ecs_true h log due).1 in omega (arith, quotient);
      scrubs_soon = λ some. let s = scrubs_scrub place log k.at_end.is in let d = k.timely.scrubs_soon some in omega (arith, quotient);
      ready = none_ready h place log None refl;
      phase = phase;
    }

    go : InTask h log Scrub start ⊎ (Calmed h log start × NoRfm Scrub) → Kept h place log None
    go (inl s) =
        let q = end_scrub h place log start k.at_end due done s k.at in
        record { soon = soon_enough h log place.clock k.at_end.slack k.at_end.rounds q.0; timely = timely q.1 }
    go (inr s) = record {
      soon = calm_soon h place log Scrub start k.at_end s.0 k.at;
      timely = timely (calm_scrub h place log start k.at_end due done s.0 k.at);
    }

-- ---- A refresh

-- what a refresh keeps, whose address 0 has as many or one more
refresh_timely : (h : Header) (now : ℕ) (task : Option Task) (place : Issued) (log : Log) → Timely h log task now → Slack h → ecs_due h log ≡ false → scrubs (place ∷ log) ≡ scrubs log → (refs 0 (place ∷ log) ≡ refs 0 log) ⊎ (refs 0 (place ∷ log) ≡ suc (refs 0 log)) → refs 0 (place ∷ log) ≡ suc (refs 3 log) → next_due h log ≤ place.clock → (refs 0 (place ∷ log) ≡ refs 3 (place ∷ log)) ⊎ (refs 3 (place ∷ log) ≡ refs 3 log) → Rounds (place ∷ log) → ((b : ℕ) → b < 32 → (open_at b (place ∷ log) ≡ None → ⊥) → refs (b % 4) (place ∷ log) ≡ refs 3 (place ∷ log)) → Phase h (place ∷ log) None (place.clock + 1) → Timely h (place ∷ log) None (place.clock + 1)
refresh_timely h now task place log t slack none same_scrubs first whole due last_one rounds opened phase = record {
  rounds = rounds;
  fresh = inl (omega arith);
  begins_late = late last_one;
  not_early = early;
  opened = opened;
  scrubbed = λ some. scrubbed first some (t.scrubbed some);
  scrubs_soon = λ some. soon first some (ecs_false h log none some);
  ready = none_ready h place log None refl;
  phase = phase;
}
  where
    due_is : next_due h log ≡ (refs 3 log + 2) * h.timing.nrefi
    due_is = next_due_is h log

    late : (refs 0 (place ∷ log) ≡ refs 3 (place ∷ log)) ⊎ (refs 3 (place ∷ log) ≡ refs 3 log) → (refs 0 (place ∷ log) ≡ refs 3 (place ∷ log)) ⊎ (next_due h (place ∷ log) ≤ place.clock)
    late (inl e) = inl e
    late (inr e) = inr (let d = next_due_same h place log e in omega arith)

    early : refs 0 (place ∷ log) * h.timing.nrefi ≤ place.clock
    early =
        let e : refs 0 (place ∷ log) * h.timing.nrefi ≡ suc (refs 3 log) * h.timing.nrefi = ap (λ (n : ℕ). n * h.timing.nrefi) whole in
        omega (arith, due_is)

    scrubbed : (refs 0 (place ∷ log) ≡ refs 0 log) ⊎ (refs 0 (place ∷ log) ≡ suc (refs 0 log)) → 1 ≤ h.settings.ecs_every → scrubs log ≤ refs 0 log / h.settings.ecs_every → scrubs (place ∷ log) ≤ refs 0 (place ∷ log) / h.settings.ecs_every
    scrubbed (inl e) some k = let q : refs 0 (place ∷ log) / h.settings.ecs_every ≡ refs 0 log / h.settings.ecs_every = ap (λ (n : ℕ). n / h.settings.ecs_every) e in omega arith
    scrubbed (inr e) some k =
        let q : refs 0 (place ∷ log) / h.settings.ecs_every ≡ suc (refs 0 log) / h.settings.ecs_every = ap (λ (n : ℕ). n / h.settings.ecs_every) e in
        let m = (quotient_next h.settings.ecs_every (refs 0 log) some).0 in
        omega arith

    soon : (refs 0 (place ∷ log) ≡ refs 0 log) ⊎ (refs 0 (place ∷ log) ≡ suc (refs 0 log)) → 1 ≤ h.settings.ecs_every → refs 0 log / h.settings.ecs_every ≤ scrubs log → refs 0 (place ∷ log) / h.settings.ecs_every ≤ suc (scrubs (place ∷ log))
    soon (inl e) some k = let q : refs 0 (place ∷ log) / h.settings.ecs_every ≡ refs 0 log / h.settings.ecs_every = ap (λ (n : ℕ). n / h.settings.ecs_every) e in omega arith
    soon (inr e) some k =
        let q : refs 0 (place ∷ log) / h.settings.ecs_every ≡ suc (refs 0 log) / h.settings.ecs_every = ap (λ (n : ℕ). n / h.settings.ecs_every) e in
        let m = (quotient_next h.settings.ecs_every (refs 0 log) some).1 in
        omega arith

ends_complete : (h : Header) (task : Option Task) (now start : ℕ) (own : Task) (place : Issued) (log : Log) → Ending h task now start own place log → beside h own ≡ 2 * per_task h → Complete place log → Quiet h (place ∷ log) → ecs_due h log ≡ false → scrubs (place ∷ log) ≡ scrubs log → (refs 0 (place ∷ log) ≡ refs 0 log) ⊎ (refs 0 (place ∷ log) ≡ suc (refs 0 log)) → next_due h log ≤ start → (Calmed h log start → Phase h (place ∷ log) None (place.clock + 1)) → Kept h place log None
ends_complete h task now start own place log k two c quiet none scrubbed first due calm = go k.begun_by
  where
    timely : Phase h (place ∷ log) None (place.clock + 1) → Timely h (place ∷ log) None (place.clock + 1)
    timely phase = refresh_timely h now task place log k.timely k.at_end.slack none scrubbed first c.first (let l = k.at.not_before in omega arith) (inl (c.first ∙ sym c.fourth)) (complete_rounds place log c) (λ b low o. absurd (o (quiet.shut b low))) phase

    go : InTask h log own start ⊎ (Calmed h log start × NoRfm own) → Kept h place log None
    go (inl s) =
        let q = end_complete h own place log start k.at_end two c quiet s k.at in
        record { soon = soon_enough h log place.clock k.at_end.slack k.at_end.rounds q.0; timely = timely q.1 }
    go (inr s) = record { soon = calm_soon h place log own start k.at_end s.0 k.at; timely = timely (calm s.0) }

ends_ref_all : (h : Header) (task : Option Task) (now start : ℕ) (place : Issued) (log : Log) → Ending h task now start RefAll place log → ecs_due h log ≡ false → refs 0 log ≡ refs 3 log → next_due h log ≤ start → Kept h place log None
ends_ref_all h task now start place log k none all due =
    let c = complete_all place log k.timely.rounds all k.at_end.is in
    ends_complete h task now start RefAll place log k refl c (record {
      shut = λ b low. stays_closed b place log (closer_act h task now start RefAll place log k) (k.at_end.shut b low refl);
      calm = stays_calm h place log (closer_no_precharge place.command (end_closed h place log RefAll k.at_end)) (decided_calm h task now start RefAll log k.decided (λ e. cc));
    }) none (scrubs_all place log k.at_end.is) (inr (refs_all 0 place log k.at_end.is)) due (λ s. calm_all h place log start k.at_end c all s k.at)

-- a bank that is open is not at the address that is refreshed
not_own : (h : Header) (task : Option Task) (now start address b : ℕ) (place : Issued) (log : Log) → Ending h task now start (RefSame address) place log → b < 32 → (open_at b log ≡ None → ⊥) → address ≡ b % 4 → ⊥
not_own h task now start address b place log k low o e =
    let at : is_at address b ≡ true = eq-eqb (b % 4) address (sym e) in
    o (k.at_end.shut b low at)

ends_turn : (h : Header) (task : Option Task) (now start address : ℕ) (place : Issued) (log : Log) → Ending h task now start (RefSame address) place log → ecs_due h log ≡ false → IsTurnOf address log → next_due h log ≤ start → address < 3 → (refs 0 (place ∷ log) ≡ refs 0 log) ⊎ (refs 0 (place ∷ log) ≡ suc (refs 0 log)) → (NextTurn h place log → Calmed h log start → Phase h (place ∷ log) None (place.clock + 1)) → Kept h place log None
ends_turn h task now start address place log k none turn due low first calm = go k.begun_by
  where
    next : NextTurn h place log
    next = next_turn h address place log k.timely.rounds turn low k.at_end.is

    opened : (b : ℕ) → b < 32 → (open_at b (place ∷ log) ≡ None → ⊥) → refs (b % 4) (place ∷ log) ≡ refs 3 (place ∷ log)
    opened b under o =
        let before = still_open b place log (closer_act h task now start (RefSame address) place log k) o in
        refs_other (b % 4) address place log k.at_end.is (not_own h task now start address b place log k under before) ∙ k.timely.opened b under before ∙ sym next.same

    timely : Phase h (place ∷ log) None (place.clock + 1) → Timely h (place ∷ log) None (place.clock + 1)
    timely phase = refresh_timely h now task place log k.timely k.at_end.slack none (scrubs_same address place log k.at_end.is) first next.whole (let l = k.at.not_before in omega arith) (inr next.same) next.rounds opened phase

    go : InTask h log (RefSame address) start ⊎ (Calmed h log start × NoRfm (RefSame address)) → Kept h place log None
    go (inl s) =
        let q = end_next h address place log start k.at_end next none s k.at in
        record { soon = soon_enough h log place.clock k.at_end.slack k.at_end.rounds q.0; timely = timely q.1 }
    go (inr s) = record { soon = calm_soon h place log (RefSame address) start k.at_end s.0 k.at; timely = timely (calm next s.0) }

ends_ref_same : (h : Header) (task : Option Task) (now start address : ℕ) (place : Issued) (log : Log) → Ending h task now start (RefSame address) place log → ecs_due h log ≡ false → IsTurnOf address log → next_due h log ≤ start → Kept h place log None
ends_ref_same h task now start zero place log k none turn due =
    ends_turn h task now start 0 place log k none turn due (omega arith) (inr (refs_own 0 place log k.at_end.is))
    (λ n s. calm_first h place log start k.at_end n turn.waits none s k.at)
ends_ref_same h task now start (suc zero) place log k none turn due =
    let first = refs_other 0 1 place log k.at_end.is (λ e. omega arith) in
    ends_turn h task now start 1 place log k none turn due (omega arith) (inl first)
    (λ n s. calm_other h 1 place log start k.at_end n (turn.earlier 0 (omega arith)) (ecs_same h place log first (scrubs_same 1 place log k.at_end.is) ∙ none) s k.at)
ends_ref_same h task now start (suc (suc zero)) place log k none turn due =
    let first = refs_other 0 2 place log k.at_end.is (λ e. omega arith) in
    ends_turn h task now start 2 place log k none turn due (omega arith) (inl first)
    (λ n s. calm_other h 2 place log start k.at_end n (turn.earlier 0 (omega arith)) (ecs_same h place log first (scrubs_same 2 place log k.at_end.is) ∙ none) s k.at)
ends_ref_same h task now start (suc (suc (suc zero))) place log k none turn due =
    let c = complete_same place log turn k.at_end.is in
    let first = refs_other 0 3 place log k.at_end.is (λ e. omega arith) in
    ends_complete h task now start (RefSame 3) place log k refl c (record {
      shut = λ b low. closed b low (open_at b log) refl;
      calm = stays_calm h place log (closer_no_precharge place.command (end_closed h place log (RefSame 3) k.at_end)) (decided_calm h task now start (RefSame 3) log k.decided (λ e. cc));
    }) none (scrubs_same 3 place log k.at_end.is) (inl first) due
    (λ s. calm_last h place log start k.at_end c (ecs_same h place log first (scrubs_same 3 place log k.at_end.is) ∙ none) s k.at)
  where
    -- its address was refreshed in this round, and it was closed then
    closed : (b : ℕ) → b < 32 → (o : Option ℕ) → open_at b log ≡ o → open_at b (place ∷ log) ≡ None
    closed b low None e = stays_closed b place log (closer_act h task now start (RefSame 3) place log k) e
    closed b low (Some r) e =
        let before : open_at b log ≡ None → ⊥ = λ none. cc in
        let w = k.timely.opened b low before in
        let other : 3 ≢ b % 4 = not_own h task now start 3 b place log k low before in
        let x = turn.earlier (b % 4) (omega arith) in
        absurd (omega arith)
ends_ref_same h task now start (suc (suc (suc (suc n)))) place log k none turn due = let i = turn.inside in absurd (omega arith)

ends_next : (h : Header) (task : Option Task) (now start : ℕ) (own : Task) (place : Issued) (log : Log) → Ending h task now start own place log → Ready h log start own → Kept h place log None
ends_next h task now start own place log k (ForRefAll is none all due) = ends_ref_all h task now start place log (rw is at k) none all due
ends_next h task now start own place log k (ForRefSame address is none turn due) = ends_ref_same h task now start address place log (rw is at k) none turn due
ends_next h task now start own place log k (ForEcs is due) = ends_scrub h task now start place log (rw is at k) due
ends_next h task now start own place log k (ForRfmAll is) = ends_rfm_all h task now start place log (rw is at k)
ends_next h task now start own place log k (ForRfmSame address is) = ends_rfm_same h task now start address place log (rw is at k)

-- ---- Any turn

pub timely_next : (h : Header) (task next : Option Task) (now : ℕ) (place : Issued) (log : Log) → Slack h → Backoff h log task now → Timely h log task now → Issues h log task now place next → Kept h place log next
timely_next h task next now place log slack b t i = go i (not_before h task next now place log i)
  where
    go : Issues h log task now place next → (s : ℕ) × (now ≤ s) × IsSoonest h log s place.command place.clock → Kept h place log next
    go (Writes w l none u n first at) p = let e = b.early in let k = p.1 in let f = p.2.not_before in writes_next h task next now place log slack t (omega arith) w n first
    go (Serves chosen start d at adv n) p = serves_next h task next now start chosen place log slack b t (decided_later h task now start chosen log d) d at adv n
    go (Ends chosen start d at is shut n) p =
        let l = decided_later h task now start chosen log d in
        let e = b.early in
        let f = at.not_before in
        rw n (ends_next h task now start chosen place log (record {
          at_end = record { is = is; shut = shut; rises = (at.follows.rises, b.rises); rounds = t.rounds; slack = slack };
          timely = t;
          later = omega arith;
          decided = d;
          at = at;
          begun_by = started h log task now chosen start slack b t d;
        }) (ready_chosen h task now start chosen log t d))
    go (Freely u n e due w kind at) p = let f = b.early in let k = p.1 in let g = p.2.not_before in freely_next h task next now place log slack t (omega arith) n due kind
    go (Finally start u n none e l due is at) p = finally_next h task next now start place log slack b.rises b.early t n l due is at
