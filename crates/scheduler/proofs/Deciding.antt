-- Which task a turn serves.
use Rattle.std.proofs.Common.{◌≡◌, ◌∙◌, ℕ, ◌+◌, ◌<◌, ◌≤◌, Bool, false, not, Option, Some, None, is_some, List, max, IsTrue, refl, sym, subst, arith, inl, inr, ◌⊎◌}
use Rattle.std.specs.Option.{IsSome}
use Rattle.command_words.specs.declared.command.Command.TheVariants.{RfmAb, RfmSb}
use Rattle.speed_bin.specs.Alert.{alert}
use Rattle.speed_bin.specs.Log.{Log}
use Rattle.speed_bin.specs.Rules.{after, is_wanted}
use Rattle.speed_bin.specs.declared.header.Header.{Header}
use Rattle.speed_bin.specs.declared.settings.RefreshMode.{RefreshMode}
use Rattle.refresh_plan.specs.Debts.{IsNothingDue, IsDueFirst}
use Rattle.refresh_plan.specs.declared.due_refresh.Due.{Due}
use Rattle.refresh_plan.specs.declared.due_refresh.Due.TheVariants.{All, Same}
use Rattle.requests.specs.Queue.{Step, places}
use Rattle.requests.specs.declared.request.Request.{Request}
use Rattle.deadlines.specs.Turns.{Decides, BacksOff, GoesOn, Scrubs, RefreshesAll, RefreshesSame, ManagesSame, IsEcsDue, IsNextDue, LooksTo, StartsWhenDue}
use Rattle.deadlines.specs.declared.task.Task.{Task}
use Rattle.deadlines.specs.declared.task.Task.TheVariants.{RfmAll, Ecs, RefAll, RefSame, RfmSame}
use Rattle.scheduler.specs.Controller.{IsTasked}
use Rattle.scheduler.specs.Steps.{IsAwake, IsErrand, IsFree, IsPatient, refresh_task}
use Rattle.scheduler.specs.declared.choice.Candidate.{Candidate}
use Rattle.scheduler.specs.declared.state.State.{State}
use Rattle.scheduler.proofs.Tools.{le_or_gt}
use Rattle.scheduler.proofs.Tasked.{never_calm}

-- ---- The alert

-- the clock at which the alert was raised, by the end of its window
after_is : (o : Option ℕ) (raised n last : ℕ) → o ≡ Some raised → after o n ≡ Some last → last ≡ raised + n
after_is None raised n last e f = cc
after_is (Some a) raised n last e f = let g : a ≡ raised = cc in let k : a + n ≡ last = cc in omega (arith, g, k)

pub not_raised : (o : Option ℕ) (n : ℕ) → ((x : ℕ) → after o n ≡ Some x → ⊥) → o ≡ None
not_raised None n h = refl
not_raised (Some a) n h = absurd (h (a + n) refl)

pub no_task : (o : Option Task) → is_some o ≡ false → o ≡ None
no_task None e = refl
no_task (Some t) e = cc

pub some_choice : (o : Option Candidate) (t : Bool) → is_some o ≡ not t → t ≡ false → IsSome o
some_choice None t e f = cc
some_choice (Some x) t e f = refl

-- there is a candidate in time, and nothing else is due
pub patient_of : (c : State) (h : Header) (offered : List Request) (idle : ℕ) (log : List Step) (choice : Option Candidate) (soonest last : ℕ) → IsAwake c h offered idle log → after c.alert c.header.timing.nabo ≡ Some last → c.task ≡ None → IsSome choice → soonest ≤ last → (IsEcsDue h (places log) → ⊥) → IsNothingDue h soonest (places log) → is_wanted h RfmAb (places log) ≡ false → IsPatient c h (places log) choice soonest
patient_of c h offered idle log choice soonest last a e untasked candidate le no_scrub no_refresh no_management = λ raised f.
    let g : after c.alert h.timing.nabo ≡ Some last = subst (λ (x : Header). after c.alert x.timing.nabo ≡ Some last) a.holds.header e in
    let k = after_is c.alert raised h.timing.nabo last (a.seen ∙ f) g in record {
      untasked = untasked;
      candidate = candidate;
      window = omega (arith, k, le);
      no_scrub = no_scrub;
      no_refresh = no_refresh;
      no_management = no_management;
    }

pub calm_patient : (c : State) (h : Header) (offered : List Request) (idle : ℕ) (log : List Step) (choice : Option Candidate) (soonest : ℕ) → IsAwake c h offered idle log → c.alert ≡ None → IsPatient c h (places log) choice soonest
calm_patient c h offered idle log choice soonest a e = λ raised f. absurd (let g = a.seen in cc)

pub raised_of : (c : State) (h : Header) (offered : List Request) (idle : ℕ) (log : List Step) (n last : ℕ) → IsAwake c h offered idle log → after c.alert n ≡ Some last → IsSome (alert h (places log))
raised_of c h offered idle log n last a e = go c.alert a.seen e
  where
    go : (o : Option ℕ) → o ≡ alert h (places log) → after o n ≡ Some last → IsSome (alert h (places log))
    go None f g = cc
    go (Some x) f g = rw (sym f) refl

-- no alert is raised where something is due that an alert would have come before
calm_unless : (o : Option ℕ) → ((raised : ℕ) → o ≡ Some raised → ⊥) → o ≡ None
calm_unless None h = refl
calm_unless (Some a) h = absurd (h a refl)

-- ---- The cases

pub backs_off : (c : State) (h : Header) (offered : List Request) (idle : ℕ) (log : List Step) (soonest : ℕ) → IsAwake c h offered idle log → IsSome (alert h (places log)) → c.ledger.from ≤ soonest → IsErrand c h (places log) soonest (record { task = RfmAll; start = c.ledger.from })
backs_off c h offered idle log soonest a some le = go (alert h (places log)) refl some
  where
    go : (o : Option ℕ) → alert h (places log) ≡ o → IsSome o → IsErrand c h (places log) soonest (record { task = RfmAll; start = c.ledger.from })
    go None e f = cc
    go (Some raised) e f = let t : alert h (places log) ≡ None → ⊥ = (λ x. cc) in record {
      decides = BacksOff raised e refl refl;
      late = omega arith;
      early = le;
      tasked = t;
      cause = never_calm h (places log) c.ledger.from soonest RfmAll a.holds.accepted.timing.nrefi.0 le t;
    }

pub goes_on : (c : State) (h : Header) (offered : List Request) (idle : ℕ) (log : List Step) (choice : Option Candidate) (soonest : ℕ) (task : Task) → IsAwake c h offered idle log → IsPatient c h (places log) choice soonest → c.task ≡ Some task → c.ledger.from ≤ soonest → IsErrand c h (places log) soonest (record { task = task; start = c.ledger.from })
goes_on c h offered idle log choice soonest task a patient e le =
    let t = subst (λ (o : Option Task). IsTasked h (places log) c.ledger.from o) e a.holds.tasked in record {
      decides = GoesOn (calm_unless (alert h (places log)) (λ raised f. let w = (patient raised f).untasked in cc)) e refl;
      late = omega arith;
      early = le;
      tasked = t;
      cause = never_calm h (places log) c.ledger.from soonest task a.holds.accepted.timing.nrefi.0 le t;
    }

pub scrubs : (c : State) (h : Header) (offered : List Request) (idle : ℕ) (log : List Step) (choice : Option Candidate) (soonest : ℕ) → IsAwake c h offered idle log → IsPatient c h (places log) choice soonest → c.task ≡ None → IsEcsDue h (places log) → c.ledger.from ≤ soonest → IsErrand c h (places log) soonest (record { task = Ecs; start = c.ledger.from })
scrubs c h offered idle log choice soonest a patient untasked due le = record {
  decides = Scrubs (calm_unless (alert h (places log)) (λ raised f. (patient raised f).no_scrub due)) untasked due refl refl;
  late = omega arith;
  early = le;
  tasked = due;
  cause = never_calm h (places log) c.ledger.from soonest Ecs a.holds.accepted.timing.nrefi.0 le due;
}

pub refreshes : (c : State) (h : Header) (offered : List Request) (idle : ℕ) (log : List Step) (choice : Option Candidate) (soonest next start : ℕ) (due : Due) → IsAwake c h offered idle log → IsPatient c h (places log) choice soonest → c.task ≡ None → (IsEcsDue h (places log) → ⊥) → LooksTo h (places log) c.ledger.from c.until soonest → (IsNothingDue h soonest (places log) → ⊥) → IsNextDue h (places log) next → start ≡ max c.ledger.from next → (h.settings.refresh ≡ RefreshMode.All → due ≡ All) → (h.settings.refresh ≡ RefreshMode.Same → IsDueFirst h soonest (places log) due) → c.ledger.from ≤ soonest → IsErrand c h (places log) soonest (record { task = refresh_task due; start = start })
refreshes c h offered idle log choice soonest next start due a patient untasked no_scrub looks is_due is_next starts all same le = by_mode h.settings.refresh refl
  where
    some : 1 ≤ h.timing.nrefi
    some = a.holds.accepted.timing.nrefi.0

    before : next ≤ soonest
    before = go (le_or_gt next soonest)
      where
        go : (next ≤ soonest) ⊎ (soonest < next) → next ≤ soonest
        go (inl x) = x
        go (inr x) = absurd (is_due ((is_next soonest).0 x))

    calm : alert h (places log) ≡ None
    calm = calm_unless (alert h (places log)) (λ raised f. is_due (patient raised f).no_refresh)

    from_due : StartsWhenDue h (places log) c.ledger.from c.until start
    from_due = record { soonest = soonest; looks = looks; is_due = is_due; due = next; next = is_next; starts = starts }

    still_due : IsNothingDue h start (places log) → ⊥
    still_due nothing = let x = (is_next start).1 nothing in omega (arith, x, starts)

    of_task : (task : Task) → Decides h (places log) c.task c.ledger.from c.until task start → IsTasked h (places log) start (Some task) → IsErrand c h (places log) soonest (record { task = task; start = start })
    of_task task decides t = let e : start ≤ soonest = omega (arith, starts, before, le) in record {
      decides = decides;
      late = omega (arith, starts);
      early = e;
      tasked = t;
      cause = never_calm h (places log) start soonest task some e t;
    }

    by_due : (d : Due) → h.settings.refresh ≡ RefreshMode.Same → IsDueFirst h soonest (places log) d → IsErrand c h (places log) soonest (record { task = refresh_task d; start = start })
    by_due All mode first = absurd first
    by_due (Same address) mode first = of_task (RefSame address) (RefreshesSame address soonest calm untasked no_scrub mode first refl from_due) (first.in_range, still_due)

    by_mode : (m : RefreshMode) → h.settings.refresh ≡ m → IsErrand c h (places log) soonest (record { task = refresh_task due; start = start })
    by_mode RefreshMode.All mode = subst (λ (d : Due). IsErrand c h (places log) soonest (record { task = refresh_task d; start = start })) (sym (all mode)) (of_task RefAll (RefreshesAll calm untasked no_scrub mode refl from_due) still_due)
    by_mode RefreshMode.Same mode = by_due due mode (same mode)

pub manages : (c : State) (h : Header) (offered : List Request) (idle : ℕ) (log : List Step) (choice : Option Candidate) (soonest address : ℕ) → IsAwake c h offered idle log → IsPatient c h (places log) choice soonest → c.task ≡ None → (IsEcsDue h (places log) → ⊥) → IsNothingDue h soonest (places log) → IsTrue (is_wanted h (RfmSb address) (places log)) → (is_wanted h RfmAb (places log) ≡ false → ⊥) → c.ledger.from ≤ soonest → IsErrand c h (places log) soonest (record { task = RfmSame address; start = c.ledger.from })
manages c h offered idle log choice soonest address a patient untasked no_scrub nothing wanted some le = record {
  decides = ManagesSame address soonest (calm_unless (alert h (places log)) (λ raised f. some (patient raised f).no_management)) untasked no_scrub le nothing refl refl;
  late = omega arith;
  early = le;
  tasked = wanted;
  cause = never_calm h (places log) c.ledger.from soonest (RfmSame address) a.holds.accepted.timing.nrefi.0 le wanted;
}

pub free_of : (c : State) (h : Header) (log : Log) (choice : Option Candidate) (soonest : ℕ) → IsPatient c h log choice soonest → c.task ≡ None → (IsEcsDue h log → ⊥) → IsNothingDue h soonest log → is_wanted h RfmAb log ≡ false → IsFree c h log choice soonest
free_of c h log choice soonest patient untasked no_scrub no_refresh no_management = record {
  untasked = untasked;
  no_scrub = no_scrub;
  no_refresh = no_refresh;
  no_management = no_management;
  candidate = λ raised e. (patient raised e).candidate;
  window = λ raised e. (patient raised e).window;
}
