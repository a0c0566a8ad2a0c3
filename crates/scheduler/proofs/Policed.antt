-- What the controller does is what the policy asks for.
use Rattle.std.proofs.Common.{◌≡◌, ◌∙◌, ℕ, ◌+◌, ◌<◌, ◌≤◌, ◌&&◌, Bool, false, is_none, Option, Some, None, List, length, max, slice_get, IsSome, refl, sym, ap, subst, arith}
use Rattle.command_words.specs.declared.command.Command.{Command}
use Rattle.command_words.specs.declared.command.Command.TheVariants.{Mrw}
use Rattle.command_words.specs.declared.command.Mrw.{Mrw as Write}
use Rattle.speed_bin.specs.Alert.{alert}
use Rattle.speed_bin.specs.Log.{Log, open_at}
use Rattle.speed_bin.specs.Registers.{register_writes}
use Rattle.speed_bin.specs.declared.header.Header.{Header}
use Rattle.speed_bin.specs.declared.settings.RefreshMode.{RefreshMode}
use Rattle.refresh_plan.specs.Debts.{IsNothingDue, IsDueFirst}
use Rattle.refresh_plan.specs.declared.due_refresh.Due.{Due}
use Rattle.refresh_plan.specs.declared.due_refresh.Due.TheVariants.{All, Same}
use Rattle.bank_state.specs.Standing.{Fits}
use Rattle.requests.specs.Choice.{IsSoonest}
use Rattle.requests.specs.Queue.{Step, places, waiting, in_bank, hits, oldest}
use Rattle.requests.specs.declared.request.Request.{Request}
use Rattle.requests.specs.declared.request.RequestId.{RequestId}
use Rattle.requests.specs.declared.waiting.Waiting.{Waiting}
use Rattle.deadlines.specs.Tasks.{task_covers, command_of}
use Rattle.deadlines.specs.Turns.{IsEcsDue, IsNextDue}
use Rattle.deadlines.specs.declared.task.Task.{Task}
use Rattle.deadlines.specs.declared.task.Task.TheVariants.{RfmAll}
use Rattle.scheduler.specs.Choice.{Wants, IsLess, IsBest, command_for, is_asked, rank}
use Rattle.scheduler.specs.Laws.{Laws}
use Rattle.scheduler.specs.Policy.{Hidden, after_command, IssuesSoonest, WritesRegister, Candidate as Offer, Asks, IsFirst, Chooses, every_bank, e0_of, IsRefresh, SetsRefresh, SetsNone, Decides, BacksOff, GoesOn, SetsTask, is_owed_for, CoversOpen, number_for, IssuesFor, ServesTask, PaysColumn, IsTurn, Follows, RestsAt}
use Rattle.scheduler.specs.Steps.{IsAwake, IsCaused, ByAlert, BySetTask, ByDue, IsChoice, IsFree, IsPatient, IsResting, IsServing, Urges, all_asked, hidden_in, refresh_task, soonest_in}
use Rattle.scheduler.specs.Task.{is_asked_for}
use Rattle.scheduler.specs.declared.choice.Candidate.{Candidate}
use Rattle.scheduler.specs.declared.choice.Class.{Class}
use Rattle.scheduler.specs.declared.choice.Class.TheVariants.{Column, Activate, Precharge}
use Rattle.scheduler.specs.declared.state.State.{State}
use Rattle.scheduler.specs.declared.task.Errand.{Errand}
use Rattle.scheduler.specs.declared.turn.Turn.{Turn}
use Rattle.scheduler.specs.declared.turn.Turn.TheVariants.{Issue}
use Rattle.scheduler.proofs.First.{none_found}
use Rattle.scheduler.proofs.Parts.{length-places, hit_of, first_of}
use Rattle.scheduler.proofs.Pressing.{stands_at, none_first, pressed_of, not_pressed, waits_of}
use Rattle.scheduler.proofs.Serving.{asked_all, owed_class, owed_of, opened_of}
use Rattle.scheduler.proofs.Starting.{few_of}

-- ---- What a command leaves

abbrev kept_as : Option Task → ℕ → ℕ → Bool → Hidden
kept_as task from until finished = record { task = task; from = from; until = until; finished = finished }

same_hidden : (t u : Option Task) (n m p q : ℕ) (f g : Bool) → t ≡ u → n ≡ m → p ≡ q → f ≡ g → kept_as t n p f ≡ kept_as u m q g
same_hidden t u n m p q f g a b c d =
    ap (λ (x : Option Task). kept_as x n p f) a ∙ ap (λ (x : ℕ). kept_as u x p f) b ∙ ap (λ (x : ℕ). kept_as u m x f) c ∙ ap (λ (x : Bool). kept_as u m q x) d

pub left_of : (old new : State) (clock : ℕ) (left : Option Task) → new.task ≡ left → new.ledger.from ≡ clock + 1 → new.until ≡ old.until → new.finished ≡ old.finished → hidden_in new ≡ after_command (hidden_in old) clock left
left_of old new clock left a b c d = same_hidden new.task left new.ledger.from (clock + 1) new.until old.until new.finished old.finished a b c d

-- what a command leaves is the same from wherever it was to come at the earliest
pub for_as : (offer : Offer) (s r : Hidden) (left : Option Task) (turn : Turn) (next : Hidden) → s.until ≡ r.until → s.finished ≡ r.finished → IssuesFor offer s left turn next → IssuesFor offer r left turn next
for_as offer s r left turn next e f x = record {
  issues = x.issues;
  leaves = x.leaves ∙ same_hidden left left (offer.clock + 1) (offer.clock + 1) s.until r.until s.finished r.finished refl refl e f;
}

pub soonest_as : (h : Header) (log : Log) (from start : ℕ) (command own : Command) (s r : Hidden) (left : Option Task) (turn : Turn) (next : Hidden) → from ≡ start → command ≡ own → s.until ≡ r.until → s.finished ≡ r.finished → IssuesSoonest h log from command s left turn next → IssuesSoonest h log start own r left turn next
soonest_as h log from start command own s r left turn next e f k l x = record {
  clock = x.clock;
  soonest = subst (λ (n : ℕ). IsSoonest h log n own x.clock) e (subst (λ (y : Command). IsSoonest h log from y x.clock) f x.soonest);
  issues = x.issues ∙ ap (λ (y : Command). Issue x.clock y None) f;
  leaves = x.leaves ∙ same_hidden left left (x.clock + 1) (x.clock + 1) s.until r.until s.finished r.finished refl refl k l;
}

abbrev pub offer_of : Class → Waiting → ℕ → Offer
offer_of k w clock = record { need = k; request = w; clock = clock }

number_column : (k : Class) (w : Waiting) → k ≡ Column → number_for k w ≡ Some (record { 0 = w.id })
number_column Column w e = refl
number_column Activate w e = cc
number_column Precharge w e = cc

number_other : (k : Class) (w : Waiting) → (k ≡ Column → ⊥) → number_for k w ≡ None
number_other Column w e = absurd (e refl)
number_other Activate w e = refl
number_other Precharge w e = refl

pub for_column : (k : Class) (v w : Waiting) (clock : ℕ) (command : Command) (s : Hidden) (left : Option Task) (next : Hidden) → k ≡ Column → v ≡ w → command ≡ command_for k v → next ≡ after_command s clock left → IssuesFor (offer_of k w clock) s left (Issue clock command (Some (record { 0 = v.id }))) next
for_column k v w clock command s left next e f g l = record {
  issues = ap (λ (x : Command). Issue clock x (Some (record { 0 = v.id }))) g
      ∙ ap (λ (x : Waiting). Issue clock (command_for k x) (Some (record { 0 = x.id }))) f
      ∙ ap (λ (x : Option RequestId). Issue clock (command_for k w) x) (sym (number_column k w e));
  leaves = l;
}

pub for_other : (k : Class) (v w : Waiting) (clock : ℕ) (command : Command) (s : Hidden) (left : Option Task) (next : Hidden) → (k ≡ Column → ⊥) → v ≡ w → command ≡ command_for k v → next ≡ after_command s clock left → IssuesFor (offer_of k w clock) s left (Issue clock command None) next
for_other k v w clock command s left next e f g l = record {
  issues = ap (λ (x : Command). Issue clock x None) g
      ∙ ap (λ (x : Waiting). Issue clock (command_for k x) None) f
      ∙ ap (λ (x : Option RequestId). Issue clock (command_for k w) x) (sym (number_other k w e));
  leaves = l;
}

pub one_here : (ws : List Waiting) (at : ℕ) (v w : Waiting) → slice_get ws at ≡ Some v → slice_get ws at ≡ Some w → v ≡ w
one_here ws at v w e f = cc

-- ---- Candidates

asks_of : (k : Class) (ws : List Waiting) (log : Log) (b at : ℕ) (w : Waiting) → Wants k ws b log at → slice_get ws at ≡ Some w → Asks k ws log b w
asks_of Column ws log b at w wants here = (hit_of ws b at (open_at b log) w wants here).oldest_hit
asks_of Activate ws log b at w wants here = (wants.0, (first_of ws b at w wants.1 here).oldest_of)
asks_of Precharge ws log b at w wants here = (wants.0, none_found 0 (hits b (open_at b log)) ws wants.1, (first_of ws b at w wants.2 here).oldest_of)

-- where the request stands for which a bank asks
record WantedAt (k : Class) (ws : List Waiting) (log : Log) (b : ℕ) (w : Waiting) : Type 0 where
  at : ℕ
  wants : Wants k ws b log at
  here : slice_get ws at ≡ Some w

wants_of : (k : Class) (ws : List Waiting) (log : Log) (b : ℕ) (w : Waiting) → Asks k ws log b w → WantedAt k ws log b w
wants_of Column ws log b w asks = let p = stands_at (hits b (open_at b log)) ws w asks in record { at = p.at; wants = p.found; here = p.here }
wants_of Activate ws log b w asks = let p = stands_at (in_bank b) ws w asks.1 in record { at = p.at; wants = (asks.0, p.found); here = p.here }
wants_of Precharge ws log b w asks = let p = stands_at (in_bank b) ws w asks.2 in record { at = p.at; wants = (asks.0, none_first 0 (hits b (open_at b log)) ws asks.1, p.found); here = p.here }

-- the best candidate is the first
pub first_is : (h : Header) (ws : List Waiting) (log : Log) (from : ℕ) (asked : List Bool) (test : ℕ → Bool) (candidate : Candidate) → ((b : ℕ) → b < 32 → is_asked asked b ≡ test b) → (best : IsBest h ws log from asked candidate) → IsFirst h ws log from test (offer_of candidate.class best.is_candidate.waiting candidate.clock)
first_is h ws log from asked test candidate same best =
    let i = best.is_candidate in record {
      bank = best.bank;
      low = best.low;
      is_asked = sym (same best.bank best.low) ∙ i.asks;
      own = record { asks = asks_of candidate.class ws log best.bank candidate.at i.waiting i.wants i.here; soonest = i.soonest };
      first = λ b low e other own before.
          let p = wants_of other.need ws log b other.request own.asks in
          best.least b low (record { clock = other.clock; class = other.need; at = p.at; id = other.request.id })
          (record { asks = same b low ∙ e; waiting = other.request; here = p.here; number = refl; wants = p.wants; soonest = own.soonest })
          (subst (λ (n : ℕ). IsLess other.clock (rank other.need) other.request.id candidate.clock (rank candidate.class) n) (sym i.number) before);
    }

-- the choice of a turn, and its e0
record Chosen (c : State) (h : Header) (ws : List Waiting) (log : Log) (o : Option Candidate) : Type 0 where
  choice : Option Offer
  chooses : Chooses h ws log c.ledger.from every_bank choice
  e0 : e0_of choice (hidden_in c) ≡ soonest_in o c.ledger.from c.until

chosen_of : (c : State) (h : Header) (log : Log) (o : Option Candidate) → IsChoice c h log o → Chosen c h c.queue.items log o
chosen_of c h log None i = record { choice = None; chooses = λ b low asked. ap (λ (ws : List Waiting). oldest (in_bank b) ws) i; e0 = refl }
chosen_of c h log (Some candidate) i = record {
  choice = Some (offer_of candidate.class i.is_candidate.waiting candidate.clock);
  chooses = first_is h c.queue.items log c.ledger.from all_asked every_bank candidate (λ b low. asked_all b low) i;
  e0 = refl;
}

-- ---- The task

pub caused_by_alert : (c : State) (h : Header) (log : Log) (choice : Option Candidate) (soonest : ℕ) → IsSome (alert h log) → ((raised : ℕ) → alert h log ≡ Some raised → Urges c h log choice soonest raised) → IsCaused c h log choice soonest (record { task = RfmAll; start = c.ledger.from })
caused_by_alert c h log choice soonest some urged = go (alert h log) refl some
  where
    go : (o : Option ℕ) → alert h log ≡ o → IsSome o → IsCaused c h log choice soonest (record { task = RfmAll; start = c.ledger.from })
    go None e f = cc
    go (Some raised) e f = ByAlert raised e (urged raised e) refl

is_refresh : (mode : RefreshMode) (h : Header) (clock : ℕ) (log : Log) (due : Due) → (mode ≡ RefreshMode.All → due ≡ All) → (mode ≡ RefreshMode.Same → IsDueFirst h clock log due) → IsRefresh mode h clock log (refresh_task due)
is_refresh RefreshMode.All h clock log due all same = ap (λ (d : Due). refresh_task d) (all refl)
is_refresh RefreshMode.Same h clock log All all same = absurd (same refl)
is_refresh RefreshMode.Same h clock log (Same address) all same = (address, same refl, refl)

abbrev served_from : Task → ℕ → Errand
served_from task start = record { task = task; start = start }

pub caused_by_refresh : (c : State) (h : Header) (log : Log) (choice : Option Candidate) (soonest next start : ℕ) (due : Due) → IsPatient c h log choice soonest → c.task ≡ None → (IsEcsDue h log → ⊥) → (IsNothingDue h soonest log → ⊥) → IsNextDue h log next → start ≡ max c.ledger.from next → (h.settings.refresh ≡ RefreshMode.All → due ≡ All) → (h.settings.refresh ≡ RefreshMode.Same → IsDueFirst h soonest log due) → IsCaused c h log choice soonest (record { task = refresh_task due; start = start })
caused_by_refresh c h log choice soonest next start due patient untasked no_scrub is_due is_next starts all same =
    ByDue patient untasked
    (SetsRefresh (refresh_task due) next no_scrub is_due (is_refresh h.settings.refresh h soonest log due all same) is_next
    (ap (λ (n : ℕ). Some (served_from (refresh_task due) n)) starts))

decides_of : (laws : Laws) (c : State) (h : Header) (offered : List Request) (idle : ℕ) (log : List Step) (choice : Option Candidate) (soonest : ℕ) (errand : Errand) → IsAwake c h offered idle log → IsChoice c h (places log) choice → soonest ≡ soonest_in choice c.ledger.from c.until → IsCaused c h (places log) choice soonest errand → Decides h (hidden_in c) (waiting h offered log) (places log) soonest (Some errand)
decides_of laws c h offered idle log choice soonest errand a i e (ByAlert raised f urged is) = BacksOff raised f (pressed_of laws c h offered idle log choice soonest raised a i e urged) (ap (λ (x : Errand). Some x) is)
decides_of laws c h offered idle log choice soonest errand a i e (BySetTask task patient f is) = GoesOn task (λ raised x. not_pressed c h offered idle log choice soonest raised a i e (patient raised x)) f (ap (λ (x : Errand). Some x) is)
decides_of laws c h offered idle log choice soonest errand a i e (ByDue patient f sets) = SetsTask (λ raised x. not_pressed c h offered idle log choice soonest raised a i e (patient raised x)) f sets

decides_none : (c : State) (h : Header) (offered : List Request) (idle : ℕ) (log : List Step) (choice : Option Candidate) (soonest : ℕ) → IsAwake c h offered idle log → IsChoice c h (places log) choice → soonest ≡ soonest_in choice c.ledger.from c.until → IsFree c h (places log) choice soonest → Decides h (hidden_in c) (waiting h offered log) (places log) soonest None
decides_none c h offered idle log choice soonest a i e free =
    SetsTask (λ raised x. not_pressed c h offered idle log choice soonest raised a i e (waits_of c h (places log) choice soonest raised x free)) free.untasked
    (SetsNone free.no_scrub free.no_refresh free.no_management refl)

-- ---- Serving a task

pub pays_column : (c : State) (h : Header) (offered : List Request) (idle : ℕ) (log : List Step) (errand : Errand) (asked : List Bool) (candidate : Candidate) (turn : Turn) (next : Hidden) → IsServing c h offered idle log errand → ((i : ℕ) → i < 32 → is_asked asked i ≡ is_asked_for errand.task c.ledger.owed i) → IsBest h c.queue.items (places log) errand.start asked candidate
    → ((w : Waiting) → slice_get c.queue.items candidate.at ≡ Some w → IssuesFor (offer_of candidate.class w candidate.clock) (hidden_in c) (Some errand.task) turn next) → ServesTask h (hidden_in c) (waiting h offered log) (places log) errand turn next
pays_column c h offered idle log errand asked candidate turn next r same best issues =
    let s = r.awake.holds in
    let i = best.is_candidate in
    let o = owed_of c h offered idle log errand.task asked best.bank s same best.low i.asks in
    let k = owed_class candidate.class best.bank candidate.at c.queue.items (places log) (s.requested.promised best.bank best.low o.owes) i.wants in
    let offer = offer_of candidate.class i.waiting candidate.clock in
    let f = first_is h c.queue.items (places log) errand.start asked (is_owed_for errand.task (places log)) candidate (λ b low. same b low ∙ ap (λ (t : Bool). t && task_covers errand.task b) (s.ledger.owed b low)) best in
    PaysColumn offer (subst (λ (ws : List Waiting). IsFirst h ws (places log) errand.start (is_owed_for errand.task (places log)) offer) s.requested.waits f) k (issues i.waiting i.here)

some_open : (o : Option ℕ) → is_none o ≡ false → IsSome o
some_open None e = cc
some_open (Some x) e = refl

pub covers_open : (task : Task) (log : Log) → (Fits (command_of task) log → ⊥) → CoversOpen task log
covers_open task log not_fit = let o = opened_of task log not_fit in record { bank = o.bank; low = o.low; covered = o.covered; is_open = some_open (open_at o.bank log) o.is_open }

-- ---- A turn

places_started : (log : List Step) → 8 ≤ length log → 8 ≤ length (places log)
places_started log started = subst (λ (n : ℕ). 8 ≤ n) (sym (length-places log)) started

pub write_of : (c : State) (h : Header) (offered : List Request) (idle : ℕ) (log : List Step) (w : Write) (turn : Turn) (next : Hidden) → IsAwake c h offered idle log → c.ledger.written < 8 → slice_get c.writes.items c.ledger.written ≡ Some w → IssuesSoonest h (places log) c.ledger.from (Mrw w) (hidden_in c) None turn next → WritesRegister h (hidden_in c) (places log) turn next
write_of c h offered idle log w turn next a low here issues =
    let s = a.holds in
    let n = few_of c h offered idle log s low in
    let l = length-places log in record {
      few = omega (arith, n, low, l);
      write = w;
      due = ap (λ (i : ℕ). slice_get (register_writes h.settings) i) (l ∙ sym n) ∙ ap (λ (ws : List Write). slice_get ws c.ledger.written) (sym s.writes) ∙ here;
      issues = issues;
    }

pub serves_by_policy : (laws : Laws) (c : State) (h : Header) (offered : List Request) (idle : ℕ) (log : List Step) (choice : Option Candidate) (soonest : ℕ) (errand : Errand) (turn : Turn) (next : Hidden) → IsAwake c h offered idle log → 8 ≤ length log → IsChoice c h (places log) choice → soonest ≡ soonest_in choice c.ledger.from c.until → IsCaused c h (places log) choice soonest errand
    → ServesTask h (hidden_in c) (waiting h offered log) (places log) errand turn next → IsTurn h (hidden_in c) (waiting h offered log) (places log) turn next
serves_by_policy laws c h offered idle log choice soonest errand turn next a started i e caused serves =
    let k = chosen_of c h (places log) choice i in
    let d = decides_of laws c h offered idle log choice soonest errand a i e caused in
    Follows k.choice (Some errand) (places_started log started)
    (subst (λ (ws : List Waiting). Chooses h ws (places log) c.ledger.from every_bank k.choice) a.holds.requested.waits k.chooses)
    (subst (λ (n : ℕ). Decides h (hidden_in c) (waiting h offered log) (places log) n (Some errand)) (e ∙ sym k.e0) d) serves

pub offers_by_policy : (c : State) (h : Header) (offered : List Request) (idle : ℕ) (log : List Step) (candidate : Candidate) (turn : Turn) (next : Hidden) → IsAwake c h offered idle log → 8 ≤ length log → IsBest h c.queue.items (places log) c.ledger.from all_asked candidate → IsFree c h (places log) (Some candidate) candidate.clock
    → ((w : Waiting) → slice_get c.queue.items candidate.at ≡ Some w → IssuesFor (offer_of candidate.class w candidate.clock) (hidden_in c) None turn next) → IsTurn h (hidden_in c) (waiting h offered log) (places log) turn next
offers_by_policy c h offered idle log candidate turn next a started best free issues =
    let i = best.is_candidate in
    let offer = offer_of candidate.class i.waiting candidate.clock in
    let f = first_is h c.queue.items (places log) c.ledger.from all_asked every_bank candidate (λ b low. asked_all b low) best in
    Follows (Some offer) None (places_started log started)
    (subst (λ (ws : List Waiting). IsFirst h ws (places log) c.ledger.from every_bank offer) a.holds.requested.waits f)
    (decides_none c h offered idle log (Some candidate) candidate.clock a best refl free) (issues i.waiting i.here)

pub rests_by_policy : (c : State) (h : Header) (offered : List Request) (idle : ℕ) (log : List Step) (turn : Turn) (next : Hidden) → IsResting c h offered idle log → RestsAt h (hidden_in c) (places log) turn next → IsTurn h (hidden_in c) (waiting h offered log) (places log) turn next
rests_by_policy c h offered idle log turn next r rests =
    let none = sym r.awake.holds.requested.waits ∙ r.none_waits in
    Follows None None (places_started log r.started) (λ b low asked. ap (λ (ws : List Waiting). oldest (in_bank b) ws) none)
    (decides_none c h offered idle log None (max c.ledger.from c.until) r.awake r.none_waits refl r.free) rests

-- the same of the controller before it saw the alert
pub policy_seen : (old seen : State) (h : Header) (ws : List Waiting) (log : Log) (turn : Turn) (next : Hidden) → seen ≡ record old { alert = seen.alert } → IsTurn h (hidden_in seen) ws log turn next → IsTurn h (hidden_in old) ws log turn next
policy_seen old seen h ws log turn next same k = subst (λ (x : State). IsTurn h (hidden_in x) ws log turn next) same k
