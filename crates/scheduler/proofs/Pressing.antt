-- The reasons to stop serving requests, said of the controller's choice, are those said of the log and the waiting requests.
use Rattle.std.proofs.Common.{◌≡◌, ◌∙◌, ℕ, suc, ◌+◌, ◌↔◌, Bool, true, false, not, Option, Some, None, is_some, IsSome, IsNone, IsTrue, List, [], ◌∷◌, slice_get, refl, sym, subst, arith, cond, inl, inr}
use Rattle.command_words.specs.Command.{bank_number}
use Rattle.command_words.specs.declared.command.Command.{Command}
use Rattle.command_words.specs.Kinds.{is_rfm_all}
use Rattle.speed_bin.specs.Alert.{alert}
use Rattle.speed_bin.specs.Log.{Log, open_at}
use Rattle.speed_bin.specs.Rules.{MayFollow, after}
use Rattle.speed_bin.specs.declared.header.Header.{Header}
use Rattle.refresh_plan.specs.Debts.{IsNothingDue}
use Rattle.requests.specs.Queue.{Step, places, waiting, in_bank, hits, oldest}
use Rattle.requests.specs.declared.request.Kind.{Kind}
use Rattle.requests.specs.declared.request.Kind.TheVariants.{Read, Write}
use Rattle.requests.specs.declared.request.Request.{Request}
use Rattle.requests.specs.declared.waiting.Waiting.{Waiting}
use Rattle.requests.specs.Choice.{column_for}
use Rattle.deadlines.specs.declared.task.Task.{Task}
use Rattle.deadlines.specs.declared.task.Task.TheVariants.{RfmAll}
use Rattle.scheduler.specs.Backoff.{Offers, OffersColumn, OffersActivate, OffersPrecharge, IsFirstClock, IsPressed, TaskIsSet, NoneWaits, WindowEnds, ScrubIsDue, RefreshIsDue, RfmIsWanted, AnswersAlert, issues_rfm_all}
use Rattle.scheduler.specs.Board.{first_from, first_at}
use Rattle.scheduler.specs.Choice.{Wants, IsBest, command_for}
use Rattle.scheduler.specs.Controller.{BetweenTurns, excused}
use Rattle.scheduler.specs.Laws.{Laws}
use Rattle.scheduler.specs.Steps.{IsAwake, IsChoice, IsFree, MayWait, Urges, UrgesTask, UrgesAlone, UrgesWindow, UrgesScrub, UrgesRefresh, UrgesRfm, all_asked, soonest_in}
use Rattle.scheduler.specs.declared.choice.Candidate.{Candidate}
use Rattle.scheduler.specs.declared.choice.Class.{Class}
use Rattle.scheduler.specs.declared.choice.Class.TheVariants.{Column, Activate, Precharge}
use Rattle.scheduler.specs.declared.state.State.{State}
use Rattle.scheduler.specs.declared.turn.Turn.{Turn}
use Rattle.scheduler.proofs.First.{none_found}
use Rattle.scheduler.proofs.Parts.{hit_of, first_of, not_empty}
use Rattle.scheduler.proofs.Serving.{asked_all}
use Rattle.scheduler.proofs.Tools.{nothing_due_before}

-- ---- Where the oldest request stands

record Stands (n : ℕ) (test : Waiting → Bool) (ws : List Waiting) (w : Waiting) : Type 0 where
  at : ℕ
  index : ℕ
  at_is : at ≡ n + index
  found : first_from n test ws ≡ Some at
  here : slice_get ws index ≡ Some w

stands_from : (n : ℕ) (test : Waiting → Bool) (ws : List Waiting) (w : Waiting) → oldest test ws ≡ Some w → Stands n test ws w
stands_from n test [] w e = cc
stands_from n test (v ∷ ws) w e = go (test v) refl e (λ f. stands_from (suc n) test ws w f)
  where
    go : (t : Bool) → test v ≡ t → cond t (Some v) (oldest test ws) ≡ Some w → (oldest test ws ≡ Some w → Stands (suc n) test ws w) → Stands n test (v ∷ ws) w
    go true q f ih = record { at = n; index = 0; at_is = omega arith; found = rw q refl; here = f }
    go false q f ih = let k = ih f in record { at = k.at; index = suc k.index; at_is = omega (arith, k.at_is); found = rw q k.found; here = k.here }

pub record StandsAt (test : Waiting → Bool) (ws : List Waiting) (w : Waiting) : Type 0 where
  pub at : ℕ
  pub found : first_at test ws ≡ Some at
  pub here : slice_get ws at ≡ Some w

pub stands_at : (test : Waiting → Bool) (ws : List Waiting) (w : Waiting) → oldest test ws ≡ Some w → StandsAt test ws w
stands_at test ws w e =
    let k = stands_from 0 test ws w e in
    let same : k.index ≡ k.at = omega (arith, k.at_is) in
    record { at = k.at; found = k.found; here = subst (λ i. slice_get ws i ≡ Some w) same k.here }

pub none_first : (n : ℕ) (test : Waiting → Bool) (ws : List Waiting) → oldest test ws ≡ None → first_from n test ws ≡ None
none_first n test [] e = refl
none_first n test (v ∷ ws) e = go (test v) refl e (λ f. none_first (suc n) test ws f)
  where
    go : (t : Bool) → test v ≡ t → cond t (Some v) (oldest test ws) ≡ None → (oldest test ws ≡ None → first_from (suc n) test ws ≡ None) → cond (test v) (Some n) (first_from (suc n) test ws) ≡ None
    go true q f ih = cc
    go false q f ih = rw q (ih f)

-- ---- Candidates

-- what is offered is what some bank wants
record Wanted (ws : List Waiting) (log : Log) (command : Command) : Type 0 where
  class : Class
  at : ℕ
  request : Waiting
  wants : Wants class ws (bank_number request.place.bank) log at
  here : slice_get ws at ≡ Some request
  command_is : command ≡ command_for class request

wanted_of : (ws : List Waiting) (log : Log) (command : Command) → Offers ws log command → Wanted ws log command
wanted_of ws log command (OffersColumn w e is) =
    let k = stands_at (hits (bank_number w.place.bank) (open_at (bank_number w.place.bank) log)) ws w e in
    record { class = Column; at = k.at; request = w; wants = k.found; here = k.here; command_is = is }
wanted_of ws log command (OffersActivate w shut e is) =
    let k = stands_at (in_bank (bank_number w.place.bank)) ws w e in
    record { class = Activate; at = k.at; request = w; wants = (shut, k.found); here = k.here; command_is = is }
wanted_of ws log command (OffersPrecharge w missed e is) =
    let k = stands_at (in_bank (bank_number w.place.bank)) ws w e in
    record { class = Precharge; at = k.at; request = w; wants = (missed.opened, none_first 0 (hits (bank_number w.place.bank) (open_at (bank_number w.place.bank) log)) ws missed.no_hit, k.found); here = k.here; command_is = is }

some_of : (o : Option Waiting) (w : Waiting) → o ≡ Some w → IsSome o
some_of o w e = rw e refl

-- what a bank wants is offered
offers_of : (k : Class) (ws : List Waiting) (log : Log) (b at : ℕ) (w : Waiting) → Wants k ws b log at → slice_get ws at ≡ Some w → Offers ws log (command_for k w)
offers_of Column ws log b at w wants here =
    let k = hit_of ws b at (open_at b log) w wants here in
    OffersColumn w (subst (λ n. oldest (hits n (open_at n log)) ws ≡ Some w) (sym k.bank) k.oldest_hit) refl
offers_of Activate ws log b at w wants here =
    let k = first_of ws b at w wants.1 here in
    OffersActivate w (subst (λ n. open_at n log ≡ None) (sym k.bank) wants.0) (subst (λ n. oldest (in_bank n) ws ≡ Some w) (sym k.bank) k.oldest_of) refl
offers_of Precharge ws log b at w wants here =
    let k = first_of ws b at w wants.2 here in
    let first = subst (λ n. oldest (in_bank n) ws ≡ Some w) (sym k.bank) k.oldest_of in
    OffersPrecharge w
    (record {
      opened = subst (λ n. IsSome (open_at n log)) (sym k.bank) wants.0;
      some = some_of (oldest (in_bank (bank_number w.place.bank)) ws) w first;
      no_hit = subst (λ n. oldest (hits n (open_at n log)) ws ≡ None) (sym k.bank) (none_found 0 (hits b (open_at b log)) ws wants.1);
    }) first refl

-- the best candidate's clock is e0
first_clock : (laws : Laws) (c : State) (h : Header) (offered : List Request) (idle : ℕ) (log : List Step) (candidate : Candidate) → BetweenTurns h c offered idle log → IsBest h c.queue.items (places log) c.ledger.from all_asked candidate → IsFirstClock h c.queue.items (places log) c.ledger.from candidate.clock
first_clock laws c h offered idle log candidate s best =
    let i = best.is_candidate in record {
      command = command_for candidate.class i.waiting;
      offered = offers_of candidate.class c.queue.items (places log) best.bank candidate.at i.waiting i.wants i.here;
      soonest = i.soonest;
      least = λ other offered clock le follows.
          let k = wanted_of c.queue.items (places log) other offered in
          let q = laws.requests.queued h offered_all log c.queue.items (excused c.task c.finished c.queue.items) k.at k.request s.requested k.here in
          best.soonest (bank_number k.request.place.bank) q.bank (asked_all (bank_number k.request.place.bank) q.bank) k.class k.at k.request k.wants k.here clock le
          (subst (λ (x : Command). MayFollow h.timing clock x (places log)) k.command_is follows);
    }
  where
    offered_all : List Request
    offered_all = offered

-- ---- A reason to stop

pub pressed_of : (laws : Laws) (c : State) (h : Header) (offered : List Request) (idle : ℕ) (log : List Step) (choice : Option Candidate) (soonest raised : ℕ) → IsAwake c h offered idle log → IsChoice c h (places log) choice → soonest ≡ soonest_in choice c.ledger.from c.until → Urges c h (places log) choice soonest raised → IsPressed h (waiting h offered log) (places log) c.ledger.from c.task raised
pressed_of laws c h offered idle log choice soonest raised a i e urged =
    subst (λ ws. IsPressed h ws (places log) c.ledger.from c.task raised) a.holds.requested.waits (go choice i e urged)
  where
    go : (o : Option Candidate) → IsChoice c h (places log) o → soonest ≡ soonest_in o c.ledger.from c.until → Urges c h (places log) o soonest raised → IsPressed h c.queue.items (places log) c.ledger.from c.task raised
    go None i e u = NoneWaits i
    go (Some candidate) i e (UrgesTask some) = TaskIsSet some
    go (Some candidate) i e (UrgesAlone none) = cc
    go (Some candidate) i e (UrgesWindow over) = WindowEnds candidate.clock (first_clock laws c h offered idle log candidate a.holds i) (omega (arith, over, e))
    go (Some candidate) i e (UrgesScrub due) = ScrubIsDue due
    go (Some candidate) i e (UrgesRefresh due) = RefreshIsDue candidate.clock (first_clock laws c h offered idle log candidate a.holds i) (subst (λ n. IsNothingDue h n (places log) → ⊥) e due)
    go (Some candidate) i e (UrgesRfm wanted) = RfmIsWanted wanted

none_of : (o : Option Task) → o ≡ None → IsSome o → ⊥
none_of None e f = cc
none_of (Some x) e f = cc

pub not_pressed : (c : State) (h : Header) (offered : List Request) (idle : ℕ) (log : List Step) (choice : Option Candidate) (soonest raised : ℕ) → IsAwake c h offered idle log → IsChoice c h (places log) choice → soonest ≡ soonest_in choice c.ledger.from c.until → MayWait c h (places log) choice soonest raised → IsPressed h (waiting h offered log) (places log) c.ledger.from c.task raised → ⊥
not_pressed c h offered idle log choice soonest raised a i e waits pressed =
    go choice i e waits (subst (λ ws. IsPressed h ws (places log) c.ledger.from c.task raised) (sym a.holds.requested.waits) pressed)
  where
    go : (o : Option Candidate) → IsChoice c h (places log) o → soonest ≡ soonest_in o c.ledger.from c.until → MayWait c h (places log) o soonest raised → IsPressed h c.queue.items (places log) c.ledger.from c.task raised → ⊥
    go None i e w p = let some = w.candidate in cc
    go (Some candidate) i e w (TaskIsSet some) = none_of c.task w.untasked some
    go (Some candidate) i e w (NoneWaits none) = not_empty c.queue.items candidate.at i.is_candidate.waiting i.is_candidate.here none
    go (Some candidate) i e w (WindowEnds e0 first over) =
        let k = i.is_candidate in
        let le = first.least (command_for candidate.class k.waiting) (offers_of candidate.class c.queue.items (places log) i.bank candidate.at k.waiting k.wants k.here) candidate.clock k.soonest.not_before k.soonest.follows in
        let within = w.window in absurd (omega (arith, le, over, within, e))
    go (Some candidate) i e w (ScrubIsDue due) = w.no_scrub due
    go (Some candidate) i e w (RefreshIsDue e0 first due) =
        let k = i.is_candidate in
        let le = first.least (command_for candidate.class k.waiting) (offers_of candidate.class c.queue.items (places log) i.bank candidate.at k.waiting k.wants k.here) candidate.clock k.soonest.not_before k.soonest.follows in
        due (nothing_due_before h (places log) e0 soonest a.holds.accepted.timing.nrefi.0 (omega (arith, le, e)) w.no_refresh)
    go (Some candidate) i e w (RfmIsWanted wanted) = let none = w.no_management in cc

-- where no task is to be served, a raised alert waits
pub waits_of : (c : State) (h : Header) (log : Log) (choice : Option Candidate) (soonest raised : ℕ) → alert h log ≡ Some raised → IsFree c h log choice soonest → MayWait c h log choice soonest raised
waits_of c h log choice soonest raised e f = record {
  untasked = f.untasked;
  candidate = f.candidate raised e;
  window = f.window raised e;
  no_scrub = f.no_scrub;
  no_refresh = f.no_refresh;
  no_management = f.no_management;
}

-- ---- What the reasons are read off

after_is : (o : Option ℕ) (raised n last : ℕ) → o ≡ Some raised → after o n ≡ Some last → last ≡ raised + n
after_is None raised n last e f = cc
after_is (Some a) raised n last e f = let g : a ≡ raised = cc in let k : a + n ≡ last = cc in omega (arith, g, k)

-- the end of the alert's window, as the controller knows it
pub window_end : (c : State) (h : Header) (offered : List Request) (idle : ℕ) (log : List Step) (raised last : ℕ) → IsAwake c h offered idle log → alert h (places log) ≡ Some raised → after c.alert c.header.timing.nabo ≡ Some last → last ≡ raised + h.timing.nabo
window_end c h offered idle log raised last a e f =
    let g : after c.alert h.timing.nabo ≡ Some last = subst (λ (x : Header). after c.alert x.timing.nabo ≡ Some last) a.holds.header f in
    after_is c.alert raised h.timing.nabo last (a.seen ∙ e) g

-- no candidate is chosen
pub alone : (o : Option Candidate) (t : Bool) → is_some o ≡ not t → t ≡ true → o ≡ None
alone None t e f = refl
alone (Some x) t e f = cc

wanted_is : (t : Bool) → (t ≡ false → ⊥) → IsTrue t
wanted_is true f = refl
wanted_is false f = absurd (f refl)

pub wanted_some : (o : Option ℕ) (t : Bool) → is_some o ≡ true → (IsNone o ↔ (t ≡ false)) → IsTrue t
wanted_some None t e f = cc
wanted_some (Some x) t e f = wanted_is t (λ g. let k = f.1 g in cc)

-- ---- What is issued

pub column_no_rfm : (kind : Kind) (w : Waiting) → is_rfm_all (column_for kind w.place) ≡ false
column_no_rfm Read w = refl
column_no_rfm Write w = refl

-- no candidate is an RFM
pub candidate_no_rfm : (k : Class) (w : Waiting) → is_rfm_all (command_for k w) ≡ false
candidate_no_rfm Column w = column_no_rfm w.request.kind w
candidate_no_rfm Activate w = refl
candidate_no_rfm Precharge w = refl

-- the alert is not answered by a turn that issues no RFMab and leaves no task
pub not_answered : (turn : Turn) (next : Option Task) → issues_rfm_all turn ≡ false → next ≡ None → AnswersAlert turn next → ⊥
not_answered turn next e f (inl x) = let k : true ≡ false = sym x ∙ e in cc
not_answered turn next e f (inr x) = let k : Some RfmAll ≡ None = sym x ∙ f in cc

-- the same of the controller before it saw the alert
pub answers_seen : (turn : Turn) (next : Option Task) (old seen : State) (h : Header) (ws : List Waiting) (log : Log) (raised : ℕ) → seen ≡ record old { alert = seen.alert } → (AnswersAlert turn next ↔ IsPressed h ws log seen.ledger.from seen.task raised) → (AnswersAlert turn next ↔ IsPressed h ws log old.ledger.from old.task raised)
answers_seen turn next old seen h ws log raised same k = subst (λ (x : State). AnswersAlert turn next ↔ IsPressed h ws log x.ledger.from x.task raised) same k
