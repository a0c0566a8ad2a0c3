-- The three commands of a task: an owed column, its precharge, and its own command.
use Rattle.std.proofs.Common.{◌≡◌, ◌∙◌, ℕ, zero, suc, ◌+◌, ◌<◌, ◌≤◌, ◌^◌, ◌&&◌, ◌||◌, not, Bool, true, false, Option, Some, None, is_none, List, length, max, slice_get, IsTrue, refl, sym, ap, subst, arith, cond, inl, inr, ◌⊎◌, eq-eqb, replicate}
use Rattle.std.specs.List.{remove}
use Rattle.std.specs.Option.{IsSome}
use Rattle.command_words.specs.Command.{covers, is_at}
use Rattle.speed_bin.specs.Below.{all_below}
use Rattle.command_words.specs.Kinds.{Closes, is_mrw, is_precharge, needs_closed}
use Rattle.speed_bin.specs.Log.{Log, open_at}
use Rattle.speed_bin.specs.Rules.{rule_5, rule_9, rule_10, rule_12, rule_14}
use Rattle.speed_bin.specs.declared.header.Header.{Header}
use Rattle.bank_state.specs.Standing.{Fits}
use Rattle.requests.specs.Choice.{IsChosen, IsPrompt, IsSoonest, CoversOpen}
use Rattle.requests.specs.Owed.{owed, SparesOwed, Promise}
use Rattle.requests.specs.Queue.{Step, places, in_bank, hits, oldest}
use Rattle.requests.specs.declared.request.Request.{Request}
use Rattle.requests.specs.declared.waiting.Waiting.{Waiting}
use Rattle.deadlines.specs.Tasks.{task_covers, precharge_of, command_of}
use Rattle.deadlines.specs.Turns.{Turn, ServesTask, EndsTask, OwedColumn, Shuts}
use Rattle.deadlines.specs.declared.task.Task.{Task}
use Rattle.deadlines.specs.declared.task.Task.TheVariants.{RfmAll, Ecs, RefAll, RefSame, RfmSame}
use Rattle.scheduler.specs.Board.{first_at}
use Rattle.scheduler.specs.Choice.{Wants, IsBest, command_for, is_asked}
use Rattle.scheduler.specs.Controller.{BetweenTurns, AtRest, IsTasked, banks_of, excused, is_covered, none_wait}
use Rattle.scheduler.specs.Laws.{Laws, Kept}
use Rattle.scheduler.specs.Ledger.{StandsFor as LedgerStandsFor, owes}
use Rattle.scheduler.specs.Steps.{IsChoice, IsErrand, IsReady, IsReadyFor, IsReadySoon, IsServing, all_asked, id_for, queue_after, soonest_in, with_from}
use Rattle.scheduler.specs.Task.{is_asked_for}
use Rattle.scheduler.specs.declared.choice.Candidate.{Candidate}
use Rattle.scheduler.specs.declared.choice.Class.{Class}
use Rattle.scheduler.specs.declared.choice.Class.TheVariants.{Column, Activate, Precharge}
use Rattle.scheduler.specs.declared.state.State.{State}
use Rattle.scheduler.specs.declared.task.Errand.{Errand}
use Rattle.scheduler.proofs.First.{none_found, get-inside, not_asked}
use Rattle.deadlines.proofs.Following.{up_more}
use Rattle.speed_bin.proofs.Tests.{both, joined, all_below_at}
use Rattle.scheduler.proofs.Tools.{fails_below, not_false}
use Rattle.scheduler.proofs.Parts.{length-places, at_least, not_empty, some_long, hit_of, takes_of, column_is, column_covers_bank, column_prompt}
use Rattle.scheduler.proofs.Offering.{soon_of, column_fitting}
use Rattle.scheduler.proofs.Tasked.{column_plain, precharge_plain, tasked_after, still_covered, precharge_covers, command_covers, precharge_closes}

-- ---- What is known where a task is served

-- the controller after it waits for the errand's start
abbrev pub waited : State → Errand → State
waited c errand = with_from errand.start c

pub ledger_waited : (c : State) (h : Header) (offered : List Request) (idle : ℕ) (log : List Step) (errand : Errand) → IsServing c h offered idle log errand → LedgerStandsFor (waited c errand).ledger h (places log)
ledger_waited c h offered idle log errand r =
    let s = r.awake.holds.ledger in record {
      accepted = s.accepted;
      stands = s.stands;
      owed = s.owed;
      written = s.written;
      later = up_more c.ledger.from errand.start (places log) r.errand_is.late s.later;
    }

-- e0 is not far
pub record IsNear (c : State) (soonest : ℕ) : Type 0 where
  pub near : soonest ≤ max c.ledger.from c.until + 16383

pub near_of : (laws : Laws) (c : State) (h : Header) (offered : List Request) (idle : ℕ) (log : List Step) (choice : Option Candidate) → BetweenTurns h c offered idle log → IsChoice c h (places log) choice → IsNear c (soonest_in choice c.ledger.from c.until)
near_of laws c h offered idle log None s i = record { near = omega arith }
near_of laws c h offered idle log (Some candidate) s i =
    let j = i.is_candidate in
    let k = soon_of laws c h offered idle log c.ledger.from candidate.clock (command_for candidate.class j.waiting) s (omega arith) j.soonest in
    let w = k.within in record { near = omega (arith, w) }

-- a turn that serves a task is not at rest
pub serving_busy : (c : State) (h : Header) (offered : List Request) (idle : ℕ) (log : List Step) (errand : Errand) → IsServing c h offered idle log errand → AtRest h (max c.ledger.from c.until) offered log → ⊥
serving_busy c h offered idle log errand r rest = go r.choice r.is_choice r.errand_is
  where
    go : (o : Option Candidate) → IsChoice c h (places log) o → IsErrand c h (places log) (soonest_in o c.ledger.from c.until) errand → ⊥
    go None i e = e.cause rest.calm
    go (Some candidate) i e = not_empty c.queue.items candidate.at i.is_candidate.waiting i.is_candidate.here (r.awake.holds.requested.waits ∙ rest.none_waits)

-- who was excused is excused for the task
excuses_of : (c : State) (h : Header) (offered : List Request) (idle : ℕ) (log : List Step) (errand : Errand) → IsServing c h offered idle log errand → (ws : List Waiting) → (none_wait c.queue.items ≡ true → none_wait ws ≡ true) → (b : ℕ) → excused c.task c.finished c.queue.items b ≡ true → excused (Some errand.task) c.finished ws b ≡ true
excuses_of c h offered idle log errand r ws less b e = go (is_covered c.task b) refl e
  where
    go2 : (t : Bool) (f : Bool) (l m : Bool) → (l ≡ true → m ≡ true) → (f && l) ≡ true → (t || (f && m)) ≡ true
    go2 true f l m k x = refl
    go2 false true l m k x = k x
    go2 false false l m k x = cc

    go : (t : Bool) → is_covered c.task b ≡ t → (t || (c.finished && none_wait c.queue.items)) ≡ true → (task_covers errand.task b || (c.finished && none_wait ws)) ≡ true
    go true q f = let k = still_covered h (places log) c.task c.ledger.from c.until errand.task errand.start r.errand_is.decides b q in ap (λ t. t || (c.finished && none_wait ws)) k
    go false q f = go2 (task_covers errand.task b) c.finished (none_wait c.queue.items) (none_wait ws) less f

-- ---- An owed column

pub asked_all : (b : ℕ) → b < 32 → is_asked all_asked b ≡ true
asked_all b low = all_in 32 b low
  where
    all_in : (n b : ℕ) → b < n → is_asked (replicate n true) b ≡ true
    all_in zero b low = absurd (omega arith)
    all_in (suc n) zero low = refl
    all_in (suc n) (suc b) low = all_in n b (omega (arith, low))

-- the class of a candidate of an owed bank is a column
promised_hit : (b : ℕ) (ws : List Waiting) (log : Log) → Promise b ws log → first_at (hits b (open_at b log)) ws ≡ None → ⊥
promised_hit b ws log p e = let f = none_found 0 (hits b (open_at b log)) ws e in let g : oldest (hits b (open_at b log)) ws ≡ Some p.request = subst (λ (o : Option ℕ). oldest (hits b o) ws ≡ Some p.request) (sym p.is_open) p.waits in cc

pub owed_class : (k : Class) (b at : ℕ) (ws : List Waiting) (log : Log) → Promise b ws log → Wants k ws b log at → k ≡ Column
owed_class Column b at ws log p wants = refl
owed_class Activate b at ws log p wants = let e = wants.0 in let f = p.is_open in absurd cc
owed_class Precharge b at ws log p wants = absurd (promised_hit b ws log p wants.1)

-- the bank is owed, and the task covers it
pub record IsOwed (c : State) (log : Log) (task : Task) (b : ℕ) : Type 0 where
  pub owes : owed b log ≡ true
  pub covered : task_covers task b ≡ true

pub owed_of : (c : State) (h : Header) (offered : List Request) (idle : ℕ) (log : List Step) (task : Task) (asked : List Bool) (b : ℕ) → BetweenTurns h c offered idle log → ((i : ℕ) → i < 32 → is_asked asked i ≡ is_asked_for task c.ledger.owed i) → b < 32 → is_asked asked b ≡ true → IsOwed c (places log) task b
owed_of c h offered idle log task asked b s same low e =
    let k = both (owes c.ledger.owed b) (task_covers task b) (sym (same b low) ∙ e) in
    record { owes = sym (s.ledger.owed b low) ∙ k.0; covered = k.1 }

-- the column comes as soon as it may from the turn's beginning: e0 is no earlier than the errand's start
owed_prompt : (c : State) (h : Header) (log : Log) (choice : Option Candidate) (ws : List Waiting) (b at start clock : ℕ) (w : Waiting) → c.queue.items ≡ ws → IsChoice c h log choice → start ≤ soonest_in choice c.ledger.from c.until → c.ledger.from ≤ start → Wants Column ws b log at → slice_get ws at ≡ Some w → b < 32 → IsSoonest h log start (command_for Column w) clock → IsSoonest h log c.ledger.from (command_for Column w) clock
owed_prompt c h log None ws b at start clock w same i early late wants here low s = absurd (not_empty ws at w here (sym same ∙ i))
owed_prompt c h log (Some candidate) ws b at start clock w same i early late wants here low s = record {
  follows = s.follows;
  not_before = let a = s.not_before in omega (arith, a, late);
  least = λ other le follows.
      let m : candidate.clock ≤ other = i.soonest b low (asked_all b low) Column at w (subst (λ xs. Wants Column xs b log at) (sym same) wants) (subst (λ xs. slice_get xs at ≡ Some w) (sym same) here) other le follows in
      s.least other (omega (arith, m, early)) follows;
}

remove_less : (ws : List Waiting) (at : ℕ) (w : Waiting) → slice_get ws at ≡ Some w → none_wait ws ≡ true → none_wait (remove ws at) ≡ true
remove_less ws at w here e = absurd (let f = some_long ws at w here in cc)

pub column_ready : (laws : Laws) (c : State) (h : Header) (offered : List Request) (idle : ℕ) (log : List Step) (errand : Errand) (asked : List Bool) (candidate : Candidate) → IsServing c h offered idle log errand → c.ledger.from < 2 ^ 47 → ((i : ℕ) → i < 32 → is_asked asked i ≡ is_asked_for errand.task c.ledger.owed i) → IsBest h c.queue.items (places log) errand.start asked candidate → IsReadyFor (waited c errand) c.ledger.from c.until c.finished h offered idle log candidate (Some errand.task)
column_ready laws c h offered idle log errand asked candidate r bound same best = record {
  inside = get-inside c.queue.items candidate.at best.is_candidate.waiting best.is_candidate.here;
  soon = (let q = soon_of laws c h offered idle log errand.start candidate.clock (command_for candidate.class best.is_candidate.waiting) r.awake.holds r.errand_is.late best.is_candidate.soonest in let n = near_of laws c h offered idle log r.choice r.awake.holds r.is_choice in let near = n.near in let early = r.errand_is.early in let within = q.within in omega (arith, within, early, near));
  ready = λ w here.
      let i = best.is_candidate in
      let s = r.awake.holds in
      let o = owed_of c h offered idle log errand.task asked best.bank s same best.low i.asks in
      let k = owed_class candidate.class best.bank candidate.at c.queue.items (places log) (s.requested.promised best.bank best.low o.owes) i.wants in
      let e : i.waiting ≡ w = cc (i.here, here) in
      let soonest = subst (λ (x : Waiting). IsSoonest h (places log) errand.start (command_for candidate.class x) candidate.clock) e i.soonest in
      subst (λ (x : Class). IsReady (waited c errand) c.ledger.from c.until c.finished h offered idle log candidate.clock (command_for x w) (id_for x w) (Some errand.task) (queue_after x c.queue.items candidate.at)) (sym k)
      (owed_ready w best.bank o (subst (λ (x : Class). Wants x c.queue.items best.bank (places log) candidate.at) k i.wants) here best.low (subst (λ (x : Class). IsSoonest h (places log) errand.start (command_for x w) candidate.clock) k soonest));
}
  where
    owed_ready : (w : Waiting) (b : ℕ) → IsOwed c (places log) errand.task b → Wants Column c.queue.items b (places log) candidate.at → slice_get c.queue.items candidate.at ≡ Some w → b < 32 → IsSoonest h (places log) errand.start (command_for Column w) candidate.clock → IsReady (waited c errand) c.ledger.from c.until c.finished h offered idle log candidate.clock (command_for Column w) (Some w.id) (Some errand.task) (remove c.queue.items candidate.at)
    owed_ready w b o wants here low soonest =
        let s = r.awake.holds in
        let at = candidate.at in let clock = candidate.clock in
        let k = hit_of c.queue.items b at (open_at b (places log)) w wants here in
        let places_started : 8 ≤ length (places log) = subst (λ n. 8 ≤ n) (sym (length-places log)) r.started in
        let f = column_fitting w h (places log) c.queue.items b at clock wants here places_started in
        let n = near_of laws c h offered idle log r.choice s r.is_choice in
        let q = soon_of laws c h offered idle log errand.start clock (command_for Column w) s r.errand_is.late soonest in
        let near = n.near in let early = r.errand_is.early in let within = q.within in let target = s.target in let after = soonest.not_before in let late = r.errand_is.late in record {
          holds = s;
          seen = r.awake.seen;
          waited = late;
          late = after;
          near = omega (arith, within, early, near, bound, target);
          soon = omega (arith, within, early, near);
          turn = ServesTask errand.task errand.start places_started r.errand_is.decides soonest
              (OwedColumn b low (column_is w.request.kind w.place) (column_covers_bank w.request.kind w.place b k.bank) o.owes o.covered (takes_of c.queue.items at w here)) refl;
          follows = soonest.follows;
          fits = f.fits;
          ninth = f.ninth;
          tenth = f.tenth;
          twelfth = f.twelfth;
          fourteenth = f.fourteenth;
          spares = f.spares;
          requested = laws.requests.column h offered log c.queue.items (excused c.task c.finished c.queue.items) (excused (Some errand.task) c.finished (remove c.queue.items at)) clock at b (command_for Column w) w s.requested refl here k.oldest_hit
              (λ i below e. excuses_of c h offered idle log errand r (remove c.queue.items at) (remove_less c.queue.items at w here) i e);
          tasked = tasked_after h (places log) errand.start clock errand.task (command_for Column w) s.accepted.timing.nrefi.0 (column_plain w.request.kind w.place) after r.errand_is.tasked;
          starting = λ few. absurd (let a = r.started in omega (arith, few, a));
          untasked = λ few. absurd (let a = r.started in omega (arith, few, a));
          chosen = f.chosen;
          prompt = column_prompt w.request.kind w.place h c.ledger.from (places log) clock (owed_prompt c h (places log) r.choice c.queue.items b at errand.start clock w refl r.is_choice early late wants here low soonest);
          busy = λ rest. absurd (serving_busy c h offered idle log errand r rest);
        }

-- ---- The precharge of a task

-- no bank of the task is owed where the choice among them finds none
pub all_paid : (c : State) (h : Header) (offered : List Request) (idle : ℕ) (log : List Step) (task : Task) (asked : List Bool) → BetweenTurns h c offered idle log → ((i : ℕ) → i < 32 → is_asked asked i ≡ is_asked_for task c.ledger.owed i) → ((b : ℕ) → b < 32 → is_asked asked b ≡ true → first_at (in_bank b) c.queue.items ≡ None) → (b : ℕ) → b < 32 → task_covers task b ≡ true → owed b (places log) ≡ false
all_paid c h offered idle log task asked s same none b low covered = not_false (owed b (places log)) (λ e.
    let a : is_asked asked b ≡ true = same b low ∙ joined (owes c.ledger.owed b) (task_covers task b) (s.ledger.owed b low ∙ e) covered in
    promised_hit b c.queue.items (places log) (s.requested.promised b low e) (not_asked 0 b (open_at b (places log)) c.queue.items (none b low a)))

-- an open bank of the task
pub record Opened (task : Task) (log : Log) : Type 0 where
  pub bank : ℕ
  pub low : bank < 32
  pub covered : task_covers task bank ≡ true
  pub is_open : is_none (open_at bank log) ≡ false

-- the fifth rule is all that a task's command asks of the banks
fits_of : (task : Task) (log : Log) → rule_5 (command_of task) log ≡ true → Fits (command_of task) log
fits_of RfmAll log e = record { fourth = refl; fifth = e }
fits_of Ecs log e = record { fourth = refl; fifth = e }
fits_of RefAll log e = record { fourth = refl; fifth = e }
fits_of (RefSame address) log e = record { fourth = refl; fifth = e }
fits_of (RfmSame address) log e = record { fourth = refl; fifth = e }

needs : (task : Task) → needs_closed (command_of task) ≡ true
needs RfmAll = refl
needs Ecs = refl
needs RefAll = refl
needs (RefSame address) = refl
needs (RfmSame address) = refl

shut_banks : (task : Task) (log : Log) → rule_5 (command_of task) log ≡ all_below 32 (λ b. not (covers (command_of task) b) || is_none (open_at b log))
shut_banks RfmAll log = refl
shut_banks Ecs log = refl
shut_banks RefAll log = refl
shut_banks (RefSame address) log = refl
shut_banks (RfmSame address) log = refl

not_or : (t u : Bool) → (not t || u) ≡ false → (t ≡ true) × (u ≡ false)
not_or true u e = (refl, e)
not_or false u e = cc

pub opened_of : (task : Task) (log : Log) → (Fits (command_of task) log → ⊥) → Opened task log
opened_of task log not_fit =
    let e = not_false (rule_5 (command_of task) log) (λ f. not_fit (fits_of task log f)) in
    let k = fails_below 32 (λ b. not (covers (command_of task) b) || is_none (open_at b log)) (sym (shut_banks task log) ∙ e) in
    let p = not_or (covers (command_of task) k.index) (is_none (open_at k.index log)) k.fails in
    record { bank = k.index; low = k.low; covered = sym (command_covers task k.index) ∙ p.0; is_open = p.1 }

none_of : (o : Option ℕ) → is_none o ≡ false → o ≡ None → ⊥
none_of None e f = cc
none_of (Some x) e f = cc

some_of : (o : Option ℕ) → is_none o ≡ false → IsSome o
some_of None e = cc
some_of (Some x) e = refl

precharge_is : (task : Task) → is_precharge (precharge_of task) ≡ true
precharge_is RfmAll = refl
precharge_is Ecs = refl
precharge_is RefAll = refl
precharge_is (RefSame address) = refl
precharge_is (RfmSame address) = refl

-- what a precharge of a task is for, and which rules it keeps
record Closing (task : Task) (h : Header) (clock : ℕ) (log : Log) (ws : List Waiting) : Type 0 where
  fits : Fits (precharge_of task) log
  ninth : IsTrue (rule_9 h (precharge_of task) log)
  tenth : IsTrue (rule_10 h (precharge_of task) log)
  twelfth : IsTrue (rule_12 h clock (precharge_of task) log)
  fourteenth : IsTrue (rule_14 h (precharge_of task) log)
  chosen : (from : ℕ) → CoversOpen (precharge_of task) log → IsChosen h ws log clock (precharge_of task) None × IsPrompt h from log clock (precharge_of task)

closing_of : (task : Task) (h : Header) (clock : ℕ) (log : Log) (ws : List Waiting) → 8 ≤ length log → Closing task h clock log ws
closing_of RfmAll h clock log ws started = record { fits = record { fourth = refl; fifth = refl }; ninth = refl; tenth = refl; twelfth = refl; fourteenth = at_least _ started; chosen = λ from o. ((o, refl), tt) }
closing_of Ecs h clock log ws started = record { fits = record { fourth = refl; fifth = refl }; ninth = refl; tenth = refl; twelfth = refl; fourteenth = at_least _ started; chosen = λ from o. ((o, refl), tt) }
closing_of RefAll h clock log ws started = record { fits = record { fourth = refl; fifth = refl }; ninth = refl; tenth = refl; twelfth = refl; fourteenth = at_least _ started; chosen = λ from o. ((o, refl), tt) }
closing_of (RefSame address) h clock log ws started = record { fits = record { fourth = refl; fifth = refl }; ninth = refl; tenth = refl; twelfth = refl; fourteenth = at_least _ started; chosen = λ from o. ((o, refl), tt) }
closing_of (RfmSame address) h clock log ws started = record { fits = record { fourth = refl; fifth = refl }; ninth = refl; tenth = refl; twelfth = refl; fourteenth = at_least _ started; chosen = λ from o. ((o, refl), tt) }

or_first : (t u : Bool) → t ≡ true → (t || u) ≡ true
or_first true u e = refl
or_first false u e = cc

pub shut_ready : (laws : Laws) (c : State) (h : Header) (offered : List Request) (idle : ℕ) (log : List Step) (errand : Errand) → IsServing c h offered idle log errand → c.ledger.from < 2 ^ 47 → ((b : ℕ) → b < 32 → task_covers errand.task b ≡ true → owed b (places log) ≡ false) → (Fits (command_of errand.task) (places log) → ⊥) → IsReadySoon (waited c errand) c.ledger.from c.until c.finished h offered idle log (precharge_of errand.task) (Some errand.task)
shut_ready laws c h offered idle log errand r bound paid not_fit = record {
  ledger = ledger_waited c h offered idle log errand r;
  ready = λ clock soonest.
      let s = r.awake.holds in
      let task = errand.task in
      let places_started : 8 ≤ length (places log) = subst (λ n. 8 ≤ n) (sym (length-places log)) r.started in
      let o = opened_of task (places log) not_fit in
      let n = near_of laws c h offered idle log r.choice s r.is_choice in
      let q = soon_of laws c h offered idle log errand.start clock (precharge_of task) s r.errand_is.late soonest in
      let near = n.near in let early = r.errand_is.early in let within = q.within in let target = s.target in let after = soonest.not_before in let late = r.errand_is.late in
      let k = closing_of task h clock (places log) c.queue.items places_started in
      let spares : SparesOwed (precharge_of task) (places log) = (λ b low e. paid b low (precharge_closes task b e)) in
      let chosen = k.chosen c.ledger.from (record { bank = o.bank; low = o.low; covered = precharge_covers task o.bank ∙ o.covered; is_open = some_of _ o.is_open }) in record {
        holds = s;
        seen = r.awake.seen;
        waited = late;
        late = after;
        near = omega (arith, within, early, near, bound, target);
        soon = omega (arith, within, early, near);
        turn = ServesTask task errand.start places_started r.errand_is.decides soonest
            (Shuts o.bank o.low o.covered (none_of _ o.is_open) paid refl refl) refl;
        follows = soonest.follows;
        fits = k.fits;
        ninth = k.ninth;
        tenth = k.tenth;
        twelfth = k.twelfth;
        fourteenth = k.fourteenth;
        spares = spares;
        requested = laws.requests.closing h offered log c.queue.items (excused c.task c.finished c.queue.items) (excused (Some task) c.finished c.queue.items) clock (precharge_of task) s.requested (precharge_is task) spares
            (λ b low e. or_first (task_covers task b) (c.finished && none_wait c.queue.items) (sym (precharge_covers task b) ∙ e))
            (λ b low e. excuses_of c h offered idle log errand r c.queue.items (λ x. x) b e);
        tasked = tasked_after h (places log) errand.start clock task (precharge_of task) s.accepted.timing.nrefi.0 (precharge_plain task) after r.errand_is.tasked;
        starting = λ few. absurd (let a = r.started in omega (arith, few, a));
        untasked = λ few. absurd (let a = r.started in omega (arith, few, a));
        chosen = chosen.0;
        prompt = chosen.1;
        busy = λ rest. absurd (serving_busy c h offered idle log errand r rest);
      };
}

-- ---- The task's own command

none_is : (o : Option ℕ) → is_none o ≡ true → o ≡ None
none_is None e = refl
none_is (Some x) e = cc

pub closed_of : (task : Task) (log : Log) → Fits (command_of task) log → (b : ℕ) → b < 32 → task_covers task b ≡ true → open_at b log ≡ None
closed_of task log fit b low covered =
    let e = all_below_at 32 (λ i. not (covers (command_of task) i) || is_none (open_at i log)) b (sym (shut_banks task log) ∙ fit.fifth) low in
    none_is (open_at b log) (then (covers (command_of task) b) (is_none (open_at b log)) e (command_covers task b ∙ covered))
  where
    then : (t u : Bool) → (not t || u) ≡ true → t ≡ true → u ≡ true
    then true u e f = e
    then false u e f = cc

-- what a task's command is for, and which rules it keeps
record Ending (task : Task) (h : Header) (from clock : ℕ) (log : Log) (ws : List Waiting) : Type 0 where
  ninth : IsTrue (rule_9 h (command_of task) log)
  twelfth : IsTrue (rule_12 h clock (command_of task) log)
  fourteenth : IsTrue (rule_14 h (command_of task) log)
  spares : SparesOwed (command_of task) log
  no_write : is_mrw (command_of task) ≡ false
  prompt : IsPrompt h from log clock (command_of task)

never_closes : (t : Bool) (e : Rattle.command_words.specs.Kinds.Effect) → (e ≡ Closes → ⊥) → cond t e Rattle.command_words.specs.Kinds.Leaves ≡ Closes → ⊥
never_closes true e f g = f g
never_closes false e f g = cc

ending_of : (task : Task) (h : Header) (from clock : ℕ) (log : Log) (ws : List Waiting) → 8 ≤ length log → Ending task h from clock log ws
ending_of RfmAll h from clock log ws started = record { ninth = refl; twelfth = refl; fourteenth = at_least _ started; spares = λ b low e. cc; no_write = refl; prompt = tt }
ending_of Ecs h from clock log ws started = record { ninth = refl; twelfth = refl; fourteenth = at_least _ started; spares = λ b low e. cc; no_write = refl; prompt = tt }
ending_of RefAll h from clock log ws started = record { ninth = refl; twelfth = refl; fourteenth = at_least _ started; spares = λ b low e. cc; no_write = refl; prompt = tt }
ending_of (RefSame address) h from clock log ws started = record { ninth = refl; twelfth = refl; fourteenth = at_least _ started; spares = λ b low e. absurd (never_closes (is_at address b) Rattle.command_words.specs.Kinds.Refreshes (λ x. cc) e); no_write = refl; prompt = tt }
ending_of (RfmSame address) h from clock log ws started = record { ninth = refl; twelfth = refl; fourteenth = at_least _ started; spares = λ b low e. absurd (never_closes (is_at address b) Rattle.command_words.specs.Kinds.Manages (λ x. cc) e); no_write = refl; prompt = tt }

tenth_of : (task : Task) (h : Header) (start : ℕ) (log : Log) → IsTasked h log start (Some task) → IsTrue (rule_10 h (command_of task) log)
tenth_of RfmAll h start log t = refl
tenth_of Ecs h start log t = refl
tenth_of RefAll h start log t = refl
tenth_of (RefSame address) h start log t = refl
tenth_of (RfmSame address) h start log t = t

some_alert : (o : Option ℕ) → (o ≡ None → ⊥) → IsSome o
some_alert None f = absurd (f refl)
some_alert (Some a) f = refl

chosen_of : (task : Task) (h : Header) (start clock until idle n : ℕ) (log : Log) (next : Option Task) (later : List ℕ) (ws : List Waiting) → IsTasked h log start (Some task) → Kept h log next until idle later n (record { clock = clock; command = command_of task }) → IsChosen h ws log clock (command_of task) None
chosen_of RfmAll h start clock until idle n log next later ws t k = (some_alert _ t, refl)
chosen_of Ecs h start clock until idle n log next later ws t k = refl
chosen_of RefAll h start clock until idle n log next later ws t k = (λ address low. k.owing address low refl, refl)
chosen_of (RefSame address) h start clock until idle n log next later ws t k = (k.owing address t.0 (eq-eqb address address refl), refl)
chosen_of (RfmSame address) h start clock until idle n log next later ws t k = refl

pub end_ready : (laws : Laws) (c : State) (h : Header) (offered : List Request) (idle : ℕ) (log : List Step) (errand : Errand) → IsServing c h offered idle log errand → c.ledger.from < 2 ^ 47 → Fits (command_of errand.task) (places log) → IsReadySoon (waited c errand) c.ledger.from c.until c.finished h offered idle log (command_of errand.task) None
end_ready laws c h offered idle log errand r bound fit = record {
  ledger = ledger_waited c h offered idle log errand r;
  ready = λ clock soonest.
      let s = r.awake.holds in
      let task = errand.task in
      let command = command_of task in
      let places_started : 8 ≤ length (places log) = subst (λ n. 8 ≤ n) (sym (length-places log)) r.started in
      let n = near_of laws c h offered idle log r.choice s r.is_choice in
      let q = soon_of laws c h offered idle log errand.start clock command s r.errand_is.late soonest in
      let near = n.near in let early = r.errand_is.early in let within = q.within in let target = s.target in let after = soonest.not_before in let late = r.errand_is.late in
      let e = ending_of task h c.ledger.from clock (places log) c.queue.items places_started in
      let turn : Turn h (places log) c.task c.ledger.from c.until (banks_of c.queue.items) (record { clock = clock; command = command }) None (banks_of c.queue.items)
      = EndsTask task errand.start places_started r.errand_is.decides soonest refl (closed_of task (places log) fit) (tenth_of task h errand.start (places log) r.errand_is.tasked) refl refl in
      let k = laws.deadlines.turn h (places log) c.task None c.ledger.from c.until idle (banks_of c.queue.items) (banks_of c.queue.items) (length offered) (record { clock = clock; command = command }) s.accepted s.deadlines turn in record {
        holds = s;
        seen = r.awake.seen;
        waited = late;
        late = after;
        near = omega (arith, within, early, near, bound, target);
        soon = omega (arith, within, early, near);
        turn = turn;
        follows = soonest.follows;
        fits = fit;
        ninth = e.ninth;
        tenth = tenth_of task h errand.start (places log) r.errand_is.tasked;
        twelfth = e.twelfth;
        fourteenth = e.fourteenth;
        spares = e.spares;
        requested = laws.requests.management h offered log c.queue.items (excused c.task c.finished c.queue.items) (excused None c.finished c.queue.items) clock command s.requested (needs task) e.no_write fit.fifth
            (λ b low x. excused_or b (is_covered c.task b) refl x);
        tasked = tt;
        starting = λ few. absurd (let a = r.started in omega (arith, few, a));
        untasked = λ few. refl;
        chosen = chosen_of task h errand.start clock c.until idle (length offered) (places log) None (banks_of c.queue.items) c.queue.items r.errand_is.tasked k;
        prompt = e.prompt;
        busy = λ rest. absurd (serving_busy c h offered idle log errand r rest);
      };
}
  where
    excused_or : (b : ℕ) (t : Bool) → is_covered c.task b ≡ t → (t || (c.finished && none_wait c.queue.items)) ≡ true → (excused None c.finished c.queue.items b ≡ true) ⊎ IsTrue (covers (command_of errand.task) b)
    excused_or b true q x = inr (command_covers errand.task b ∙ still_covered h (places log) c.task c.ledger.from c.until errand.task errand.start r.errand_is.decides b q)
    excused_or b false q x = inl x
