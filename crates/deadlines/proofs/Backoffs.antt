-- Rule 13: while an alert is raised, the commands come in time.
use Rattle.std.proofs.Common.{◌≡◌, ◌∙◌, ℕ, ◌+◌, ◌*◌, ◌≤◌, Bool, true, false, ◌&&◌, ◌⊎◌, inl, inr, refl, ap, arith, ◌∷◌, Option, Some, None, le-leb, ◌||◌}
use Rattle.std.proofs.Math.Nat.{mul-le-mul_right}
use Rattle.command_words.specs.declared.command.Command.{Command}
use Rattle.command_words.specs.declared.command.Command.TheVariants.{RfmAb, PreAb}
use Rattle.speed_bin.specs.declared.header.Header.{Header}
use Rattle.speed_bin.specs.Log.{Issued, Log, last_clock}
use Rattle.command_words.specs.Kinds.{needs_closed, is_precharge, is_rfm_all, is_act, is_mrw}
use Rattle.speed_bin.specs.Alert.{closes_some, is_hot, alert_after, alert}
use Rattle.speed_bin.specs.Rules.{rule_13, until, after}
use Rattle.speed_bin.specs.Gap.{n_max, n_col, n_close, n_tail}
use Rattle.requests.specs.Choice.{IsSoonest}
use Rattle.requests.specs.Owed.{is_column, owed_count}
use Rattle.deadlines.specs.declared.task.Task.{Task}
use Rattle.deadlines.specs.declared.task.Task.TheVariants.{RfmAll, Ecs as Scrub, RefAll, RefSame, RfmSame}
use Rattle.deadlines.specs.Stages.{Stage}
use Rattle.deadlines.proofs.Moves.{Advances, Column, Shut, Decides, Backs_off, Goes_on, Scrubs, Refreshes_all, Refreshes_same, Manages_same, Issues, Writes, Serves, Ends, Freely, Finally}
use Rattle.deadlines.specs.Backoffs.{Backoff}
use Rattle.deadlines.specs.Tasks.{command_of}
use Rattle.deadlines.proofs.Following.{up_last}
use Rattle.deadlines.proofs.Stages.{stage_start, stage_next, stage_done, some_max, owed_most}

alert_from : (x y : Bool) (clock a : ℕ) (before : Option ℕ) → alert_after x y clock before ≡ Some a → (before ≡ Some a) ⊎ ((a ≡ clock) × (before ≡ None))
alert_from true y clock a before h = absurd (cc)
alert_from false y clock a (Some raised) h = inl h
alert_from false true clock a None h = inr (cc, refl)
alert_from false false clock a None h = absurd (cc)

-- an alert is an old one, or it is raised here
pub alert_new : (h : Header) (a : ℕ) (place : Issued) (log : Log) → alert h (place ∷ log) ≡ Some a → (alert h log ≡ Some a) ⊎ ((a ≡ place.clock) × (alert h log ≡ None))
alert_new h a place log e = alert_from (is_rfm_all place.command) (closes_some place.command log && is_hot h (place ∷ log)) place.clock a (alert h log) e

pub alert_ends : (h : Header) (place : Issued) (log : Log) → is_rfm_all place.command ≡ true → alert h (place ∷ log) ≡ None
alert_ends h place log e = rw e refl

tail_is : (h : Header) → n_tail h.timing ≡ n_max h.timing + n_close h.timing + 32 * n_col h.timing
unfolding n_tail
tail_is h = refl

pub all_owed : (h : Header) (log : Log) → owed_count log * n_col h.timing ≤ 32 * n_col h.timing
all_owed h log = mul-le-mul_right (n_col h.timing) (owed_most log)

-- the stage of an RfmAll, whether it was set before or takes the place of what was
pub rfm_stage : (h : Header) (task : Option Task) (now a : ℕ) (log : Log) → Backoff h log task now → alert h log ≡ Some a → (y : ℕ) × Stage h RfmAll log now y × (y + owed_count log * n_col h.timing ≤ a + h.timing.nabo + n_tail h.timing)
rfm_stage h task now a log k raised = go task refl
  where
    fresh : (task ≡ Some RfmAll → ⊥) → (y : ℕ) × Stage h RfmAll log now y × (y + owed_count log * n_col h.timing ≤ a + h.timing.nabo + n_tail h.timing)
    fresh other =
        let w = k.window a raised other in
        let p = k.prompt a raised in
        let most = all_owed h log in
        let tail = tail_is h in
        (last_clock log + n_max h.timing + n_close h.timing, stage_start h RfmAll (last_clock log) now (last_clock log + n_max h.timing + n_close h.timing) log (some_max h.timing) (up_last log k.rises) (omega arith) p (omega arith), omega arith)

    go : (own : Option Task) → task ≡ own → (y : ℕ) × Stage h RfmAll log now y × (y + owed_count log * n_col h.timing ≤ a + h.timing.nabo + n_tail h.timing)
    go None e = fresh (λ is. absurd (cc))
    go (Some RfmAll) e = k.closing a raised e
    go (Some Scrub) e = fresh (λ is. absurd (cc))
    go (Some RefAll) e = fresh (λ is. absurd (cc))
    go (Some (RefSame address)) e = fresh (λ is. absurd (cc))
    go (Some (RfmSame address)) e = fresh (λ is. absurd (cc))

-- with an alert raised a turn's task is RfmAll, at the same now
rfm_chosen : (h : Header) (log : Log) (task : Option Task) (now a start : ℕ) (chosen : Task) → alert h log ≡ Some a → Decides h log task now chosen start → (chosen ≡ RfmAll) × (start ≡ now)
rfm_chosen h log task now a start chosen raised (Backs_off b r is same) = (is, same)
rfm_chosen h log task now a start chosen raised (Goes_on none is same) = absurd (cc)
rfm_chosen h log task now a start chosen raised (Scrubs none is e own same) = absurd (cc)
rfm_chosen h log task now a start chosen raised (Refreshes_all none is e own d same) = absurd (cc)
rfm_chosen h log task now a start chosen raised (Refreshes_same address none is e own d same) = absurd (cc)
rfm_chosen h log task now a start chosen raised (Manages_same address none is e l own same) = absurd (cc)

-- at the new place the rule holds
pub in_time : (h : Header) (task next : Option Task) (now a : ℕ) (place : Issued) (log : Log) → 1 ≤ h.timing.nrp → Backoff h log task now → Issues h log task now place next → alert h log ≡ Some a → place.clock ≤ a + h.timing.nabo + n_tail h.timing
in_time h task next now a place log some k (Writes w l none t n first at) raised = absurd (cc)
in_time h task next now a place log some k (Serves chosen start d at adv n) raised =
    let c = rfm_chosen h log task now a start chosen raised d in
    let s = rfm_stage h task now a log k raised in
    let q = stage_next h RfmAll now s.0 place log some (rw c.1 at at) (rw (c.0, c.1) at adv) s.1 in
    let here = q.0 in
    let reach = s.2 in
    omega arith
in_time h task next now a place log some k (Ends chosen start d at is shut n) raised =
    let c = rfm_chosen h log task now a start chosen raised d in
    let s = rfm_stage h task now a log k raised in
    let own : needs_closed place.command ≡ true = rw (is, c.0) refl in
    let here : place.clock ≤ s.0 = stage_done h RfmAll now s.0 place log own (rw c.1 at at) s.1 in
    let reach = s.2 in
    omega arith
in_time h task next now a place log some k (Freely t n e due w kind at) raised = let here = w a raised in omega arith
in_time h task next now a place log some k (Finally start t n none e l due is at) raised = absurd (cc)

pub rule_13_holds : (h : Header) (task next : Option Task) (now : ℕ) (place : Issued) (log : Log) → 1 ≤ h.timing.nrp → Backoff h log task now → Issues h log task now place next → rule_13 h place.clock log ≡ true
rule_13_holds h task next now place log some k i = go (alert h log) refl
  where
    go : (o : Option ℕ) → alert h log ≡ o → until place.clock (after o (h.timing.nabo + n_tail h.timing)) ≡ true
    go None e = refl
    go (Some a) e = let t = in_time h task next now a place log some k i e in le-leb _ _ (omega arith)

-- ---- What the turn keeps

pub decided_later : (h : Header) (task : Option Task) (now start : ℕ) (chosen : Task) (log : Log) → Decides h log task now chosen start → now ≤ start
decided_later h task now start chosen log (Backs_off a raised is same) = omega arith
decided_later h task now start chosen log (Goes_on none is same) = omega arith
decided_later h task now start chosen log (Scrubs none n e is same) = omega arith
decided_later h task now start chosen log (Refreshes_all none n e is all same) = omega arith
decided_later h task now start chosen log (Refreshes_same address none n e is turn same) = omega arith
decided_later h task now start chosen log (Manages_same address none n e low is same) = omega arith

-- a turn's command comes at its soonest clock, which is not before now
pub not_before : (h : Header) (task next : Option Task) (now : ℕ) (place : Issued) (log : Log) → Issues h log task now place next → (s : ℕ) × (now ≤ s) × IsSoonest h log s place.command place.clock
not_before h task next now place log (Writes w l none t n first at) = (now, omega arith, at)
not_before h task next now place log (Serves chosen start d at adv n) = (start, decided_later h task now start chosen log d, at)
not_before h task next now place log (Ends chosen start d at is shut n) = (start, decided_later h task now start chosen log d, at)
not_before h task next now place log (Freely t n e due w kind at) = (now, omega arith, at)
not_before h task next now place log (Finally start t n none e l due is at) = (start, l, at)

backoff_window : (h : Header) (task next : Option Task) (now a : ℕ) (place : Issued) (log : Log) → Issues h log task now place next → alert h log ≡ Some a → alert h (place ∷ log) ≡ Some a → (next ≡ Some RfmAll → ⊥) → place.clock ≤ a + h.timing.nabo
backoff_window h task next now a place log (Writes w l none t n first at) raised later other = absurd (cc)
backoff_window h task next now a place log (Serves chosen start d at adv n) raised later other =
    let c = rfm_chosen h log task now a start chosen raised d in
    absurd (other (n ∙ ap {B = Option Task} (λ x. Some x) c.0))
backoff_window h task next now a place log (Ends chosen start d at is shut n) raised later other =
    let c = rfm_chosen h log task now a start chosen raised d in
    let own : is_rfm_all place.command ≡ true = rw (is, c.0) refl in
    let none = alert_ends h place log own in
    absurd (cc)
backoff_window h task next now a place log (Freely t n e due w kind at) raised later other = w a raised
backoff_window h task next now a place log (Finally start t n none e l due is at) raised later other = absurd (cc)

-- an RfmAll that goes on had its alert before this place
backoff_raised : (h : Header) (task next : Option Task) (now : ℕ) (place : Issued) (log : Log) → Backoff h log task now → Issues h log task now place next → next ≡ Some RfmAll → (a : ℕ) × (alert h log ≡ Some a) × Advances h RfmAll log now place × IsSoonest h log now place.command place.clock
backoff_raised h task next now place log k (Writes w l none t n first at) e = absurd (cc)
backoff_raised h task next now place log k (Serves chosen start d at adv n) e = go d
  where
    same : chosen ≡ RfmAll
    same = cc

    go : Decides h log task now chosen start → (a : ℕ) × (alert h log ≡ Some a) × Advances h RfmAll log now place × IsSoonest h log now place.command place.clock
    go (Backs_off b r is s) = (b, r, rw (is, s) at adv, rw s at at)
    go (Goes_on none is s) = absurd (k.raised (is ∙ ap {B = Option Task} (λ x. Some x) same) none)
    go (Scrubs none is d own s) = let x : Scrub ≡ RfmAll = rw own at same in absurd (cc)
    go (Refreshes_all none is d own q s) = let x : RefAll ≡ RfmAll = rw own at same in absurd (cc)
    go (Refreshes_same address none is d own q s) = let x : RefSame address ≡ RfmAll = rw own at same in absurd (cc)
    go (Manages_same address none is d l own s) = let x : RfmSame address ≡ RfmAll = rw own at same in absurd (cc)
backoff_raised h task next now place log k (Ends chosen start d at is shut n) e = absurd (cc)
backoff_raised h task next now place log k (Freely t n d due w kind at) e = absurd (cc)
backoff_raised h task next now place log k (Finally start t n none d l due is at) e = absurd (cc)

column_no_rfm : (c : Command) → is_column c ≡ true → is_rfm_all c ≡ false
column_no_rfm RfmAb h = absurd (cc)
column_no_rfm c h = refl

precharge_no_rfm : (c : Command) → is_precharge c ≡ true → is_rfm_all c ≡ false
precharge_no_rfm RfmAb h = absurd (cc)
precharge_no_rfm c h = refl

-- an alert that is raised stays, but for an RfmAb
pub alert_stays : (h : Header) (a : ℕ) (place : Issued) (log : Log) → is_rfm_all place.command ≡ false → alert h log ≡ Some a → alert h (place ∷ log) ≡ Some a
alert_stays h a place log e raised = rw (e, raised) refl

advance_no_rfm : (h : Header) (task : Task) (log : Log) (now : ℕ) (place : Issued) → Advances h task log now place → is_rfm_all place.command ≡ false
advance_no_rfm h task log now place (Column b low column cover own within) = column_no_rfm place.command column
advance_no_rfm h task log now place (Shut b low precharge within opened shuts) = precharge_no_rfm place.command precharge

pub backoff_next : (h : Header) (task next : Option Task) (now : ℕ) (place : Issued) (log : Log) → 1 ≤ h.timing.nrp → Backoff h log task now → Issues h log task now place next → Backoff h (place ∷ log) next (place.clock + 1)
backoff_next h task next now place log some k i = record {
  rises = (let p = not_before h task next now place log i in p.2.follows.rises, k.rises);
  early = omega arith;
  prompt = λ a raised. omega arith;
  window = λ a raised other. window a (alert_new h a place log raised) raised other;
  closing = λ a raised own. closing a raised (backoff_raised h task next now place log k i own);
  raised = λ own none. still none (backoff_raised h task next now place log k i own);
}
  where
    window : (a : ℕ) → (alert h log ≡ Some a) ⊎ ((a ≡ place.clock) × (alert h log ≡ None)) → alert h (place ∷ log) ≡ Some a → (next ≡ Some RfmAll → ⊥) → place.clock ≤ a + h.timing.nabo
    window a (inl old) raised other = backoff_window h task next now a place log i old raised other
    window a (inr new) raised other = let e = new.0 in omega arith

    still : alert h (place ∷ log) ≡ None → (a : ℕ) × (alert h log ≡ Some a) × Advances h RfmAll log now place × IsSoonest h log now place.command place.clock → ⊥
    still none p = let s = alert_stays h p.0 place log (advance_no_rfm h RfmAll log now place p.2) p.1 in cc

    closing : (a : ℕ) → alert h (place ∷ log) ≡ Some a → (b : ℕ) × (alert h log ≡ Some b) × Advances h RfmAll log now place × IsSoonest h log now place.command place.clock → (y : ℕ) × Stage h RfmAll (place ∷ log) (place.clock + 1) y × (y + owed_count (place ∷ log) * n_col h.timing ≤ a + h.timing.nabo + n_tail h.timing)
    closing a raised p =
        let stays = alert_stays h p.0 place log (advance_no_rfm h RfmAll log now place p.2) p.1 in
        let same : p.0 ≡ a = cc in
        let s = rfm_stage h task now p.0 log k p.1 in
        let q = stage_next h RfmAll now s.0 place log some p.3 p.2 s.1 in
        let g = q.1 in
        let reach = s.2 in
        let weight = g.weight in
        (g.reach, g.stage, omega arith)

-- an RfmAb is issued only where an alert is raised
pub rfm_all_raised : (h : Header) (task next : Option Task) (now : ℕ) (place : Issued) (log : Log) → Backoff h log task now → Issues h log task now place next → is_rfm_all place.command ≡ true → alert h log ≡ None → ⊥
rfm_all_raised h task next now place log k (Writes w l none t n first at) rfm none_now = write_no_rfm place.command w rfm
  where
    write_no_rfm : (c : Command) → is_mrw c ≡ true → is_rfm_all c ≡ true → ⊥
    write_no_rfm RfmAb w r = absurd (cc)
    write_no_rfm c w r = absurd (cc)
rfm_all_raised h task next now place log k (Serves chosen start d at adv n) rfm none = let e = advance_no_rfm h chosen log start place adv in cc
rfm_all_raised h task next now place log k (Ends chosen start d at is shut n) rfm none = go chosen refl
  where
    go : (c : Task) → chosen ≡ c → ⊥
    go RfmAll e = by d
      where
        by : Decides h log task now chosen start → ⊥
        by (Backs_off b r own s) = cc
        by (Goes_on calm own s) = k.raised (own ∙ ap {B = Option Task} (λ x. Some x) e) calm
        by (Scrubs calm u due own s) = let x : Scrub ≡ RfmAll = rw own at e in cc
        by (Refreshes_all calm u due own q s) = let x : RefAll ≡ RfmAll = rw own at e in cc
        by (Refreshes_same address calm u due own q s) = let x : RefSame address ≡ RfmAll = rw own at e in cc
        by (Manages_same address calm u due l own s) = let x : RfmSame address ≡ RfmAll = rw own at e in cc
    go Scrub e = let x : is_rfm_all (command_of Scrub) ≡ true = rw (is, e) at rfm in cc
    go RefAll e = let x : is_rfm_all (command_of RefAll) ≡ true = rw (is, e) at rfm in cc
    go (RefSame a) e = let x : is_rfm_all (command_of (RefSame a)) ≡ true = rw (is, e) at rfm in cc
    go (RfmSame a) e = let x : is_rfm_all (command_of (RfmSame a)) ≡ true = rw (is, e) at rfm in cc
rfm_all_raised h task next now place log k (Freely t n due low w kind at) rfm none = free_no_rfm place.command kind rfm
  where
    free_no_rfm : (c : Command) → (is_act c || (is_column c || is_precharge c)) ≡ true → is_rfm_all c ≡ true → ⊥
    free_no_rfm RfmAb w r = absurd (cc)
    free_no_rfm c w r = absurd (cc)
rfm_all_raised h task next now place log k (Finally start t n calm due l low is at) rfm none = let x : is_rfm_all PreAb ≡ true = rw is at rfm in cc
