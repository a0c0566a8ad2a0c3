-- One turn, from its choice on.
use Rattle.std.proofs.Common.{◌≡◌, ◌∙◌, ℕ, ◌<◌, ◌≤◌, ◌^◌, Bool, true, Option, Some, None, List, ◌∷◌, slice_get, length, IfSome, IfNone, refl, sym, subst, arith}
use Rattle.speed_bin.specs.Log.{Log}
use Rattle.speed_bin.specs.declared.header.Header.{Header}
use Rattle.requests.specs.Queue.{Step, places, in_bank}
use Rattle.requests.specs.declared.request.Request.{Request}
use Rattle.requests.specs.declared.waiting.Waiting.{Waiting}
use Rattle.deadlines.specs.Turns.{LooksTo, Target, Candidate as LooksToCandidate}
use Rattle.scheduler.specs.Board.{first_at}
use Rattle.scheduler.specs.Choice.{IsBest, command_for, is_asked}
use Rattle.scheduler.specs.Controller.{BetweenTurns, StandsFor, After, excused, number_of}
use Rattle.scheduler.specs.Laws.{Laws}
use Rattle.scheduler.specs.Ledger.{StandsFor as LedgerStandsFor}
use Rattle.scheduler.specs.Steps.{IsAwake, IsChoice, IsErrand, IsServing, IsResting, IsFree, all_asked, soonest_in}
use Rattle.scheduler.specs.declared.choice.Candidate.{Candidate}
use Rattle.scheduler.specs.declared.state.State.{State}
use Rattle.scheduler.specs.declared.task.Errand.{Errand}
use Rattle.scheduler.specs.declared.turn.Turn.{Turn}
use Rattle.scheduler.specs.declared.turn.Turn.TheVariants.{Issue, Idle, Done}
use Rattle.scheduler.proofs.First.{all_silent}
use Rattle.scheduler.proofs.Serving.{asked_all, near_of}

pub at_none : (o : Option Candidate) (P : Type 0) → ((x : Candidate) → o ≡ Some x → ⊥) → IfNone o P → P
at_none None P h p = p
at_none (Some x) P h p = absurd (h x refl)

pub none_of : (o : Option Candidate) → ((x : Candidate) → o ≡ Some x → ⊥) → o ≡ None
none_of None h = refl
none_of (Some x) h = absurd (h x refl)

pub best_as : (h : Header) (queue ws : List Waiting) (log : Log) (from start : ℕ) (asked : List Bool) (candidate : Candidate) → queue ≡ ws → from ≡ start → IsBest h queue log from asked candidate → IsBest h ws log start asked candidate
best_as h queue ws log from start asked candidate e f best = subst (λ n. IsBest h ws log n asked candidate) f (subst (λ xs. IsBest h xs log from asked candidate) e best)

-- the choice of a turn
pub choice_of : (laws : Laws) (c : State) (h : Header) (offered : List Request) (idle : ℕ) (log : List Step) (queue : List Waiting) (o : Option Candidate) → BetweenTurns h c offered idle log → queue ≡ c.queue.items → IfNone o ((b : ℕ) → b < 32 → is_asked all_asked b ≡ true → first_at (in_bank b) queue ≡ None) → IfSome o (λ candidate. (h : Header) (log : Log) → LedgerStandsFor c.ledger h log → IsBest h queue log c.ledger.from all_asked candidate) → IsChoice c h (places log) o
choice_of laws c h offered idle log queue None s e none some =
    sym e ∙ all_silent queue (λ i w here. (laws.requests.queued h offered log c.queue.items (excused c.task c.finished c.queue.items) i w s.requested (subst (λ xs. slice_get xs i ≡ Some w) e here)).bank) (λ b low. none b low (asked_all b low))
choice_of laws c h offered idle log queue (Some candidate) s e none some = best_as h queue c.queue.items (places log) c.ledger.from c.ledger.from all_asked candidate e refl (some h (places log) s.ledger)

pub looks_of : (c : State) (h : Header) (log : List Step) (o : Option Candidate) → IsChoice c h (places log) o → LooksTo h (places log) c.ledger.from c.until (soonest_in o c.ledger.from c.until)
looks_of c h log None i = Target refl
looks_of c h log (Some candidate) i = let k = i.is_candidate in LooksToCandidate (command_for candidate.class k.waiting) k.soonest

pub not_before : (c : State) (h : Header) (log : List Step) (o : Option Candidate) → IsChoice c h (places log) o → c.ledger.from ≤ soonest_in o c.ledger.from c.until
not_before c h log None i = omega arith
not_before c h log (Some candidate) i = i.is_candidate.soonest.not_before

pub small_of : (laws : Laws) (c : State) (h : Header) (offered : List Request) (idle : ℕ) (log : List Step) (o : Option Candidate) (soonest : ℕ) → BetweenTurns h c offered idle log → c.ledger.from < 2 ^ 47 → IsChoice c h (places log) o → soonest ≡ soonest_in o c.ledger.from c.until → soonest < 2 ^ 48
small_of laws c h offered idle log o soonest s bound i e = let n = near_of laws c h offered idle log o s i in let near = n.near in let target = s.target in omega (arith, near, target, bound, e)

pub serving_of : (c : State) (h : Header) (offered : List Request) (idle : ℕ) (log : List Step) (o : Option Candidate) (soonest : ℕ) (errand : Errand) → IsAwake c h offered idle log → 8 ≤ length log → IsChoice c h (places log) o → soonest ≡ soonest_in o c.ledger.from c.until → IsErrand c h (places log) soonest errand → IsServing c h offered idle log errand
serving_of c h offered idle log o soonest errand a started i e k = record {
  awake = a;
  started = started;
  choice = o;
  is_choice = i;
  errand_is = subst (λ n. IsErrand c h (places log) n errand) e k;
}

pub resting_of : (c : State) (h : Header) (offered : List Request) (idle : ℕ) (log : List Step) (o : Option Candidate) (soonest : ℕ) → IsAwake c h offered idle log → 8 ≤ length log → o ≡ None → IsChoice c h (places log) o → soonest ≡ soonest_in o c.ledger.from c.until → IsFree c h (places log) o soonest → IsResting c h offered idle log
resting_of c h offered idle log None soonest a started n i e f = record { awake = a; started = started; none_waits = i; free = subst (λ k. IsFree c h (places log) None k) e f }
resting_of c h offered idle log (Some candidate) soonest a started n i e f = cc

pub looks_as : (c : State) (h : Header) (log : List Step) (o : Option Candidate) (soonest : ℕ) → IsChoice c h (places log) o → soonest ≡ soonest_in o c.ledger.from c.until → LooksTo h (places log) c.ledger.from c.until soonest
looks_as c h log o soonest i e = subst (λ n. LooksTo h (places log) c.ledger.from c.until n) (sym e) (looks_of c h log o i)

pub before_as : (c : State) (h : Header) (log : List Step) (o : Option Candidate) (soonest : ℕ) → IsChoice c h (places log) o → soonest ≡ soonest_in o c.ledger.from c.until → c.ledger.from ≤ soonest
before_as c h log o soonest i e = let k = not_before c h log o i in omega (arith, k, e)

-- a chosen candidate and its clock
pub best_of : (c : State) (h : Header) (log : List Step) (o : Option Candidate) (candidate : Candidate) → o ≡ Some candidate → IsChoice c h (places log) o → IsBest h c.queue.items (places log) c.ledger.from all_asked candidate
best_of c h log None candidate e i = cc
best_of c h log (Some d) candidate e i = let f : d ≡ candidate = cc in subst (λ (x : Candidate). IsBest h c.queue.items (places log) c.ledger.from all_asked x) f i

pub free_as : (c : State) (h : Header) (log : Log) (o : Option Candidate) (candidate : Candidate) (soonest : ℕ) → o ≡ Some candidate → soonest ≡ soonest_in o c.ledger.from c.until → IsFree c h log o soonest → IsFree c h log (Some candidate) candidate.clock
free_as c h log None candidate soonest e f k = cc
free_as c h log (Some d) candidate soonest e f k = let g : d ≡ candidate = cc in subst (λ (x : Candidate). IsFree c h log (Some x) x.clock) g (subst (λ n. IsFree c h log (Some d) n) f k)

-- the answer of a turn that began by seeing the alert
pub after_seen : (turn : Turn) (old seen new : State) (h : Header) (offered : List Request) (idle : ℕ) (log : List Step) → seen ≡ record old { alert = seen.alert } → After turn seen.ledger.from seen.until seen.finished h new offered idle log → After turn old.ledger.from old.until old.finished h new offered idle log
after_seen turn old seen new h offered idle log same k = subst (λ (x : State). After turn x.ledger.from x.until x.finished h new offered idle log) same k

-- whatever a turn answers, the controller stands for some list
pub stands_after : (turn : Turn) (from until : ℕ) (finished : Bool) (h : Header) (new : State) (offered : List Request) (idle : ℕ) (log : List Step) → After turn from until finished h new offered idle log → (g : Header) × (offers : List Request) × (spent : ℕ) × (steps : List Step) × StandsFor g new offers spent steps
stands_after (Issue clock command id) from until finished h new offered idle log a = (h, offered, idle, record { issued = record { clock = clock; command = command }; id = number_of id } ∷ log, a.stands)
stands_after Idle from until finished h new offered idle log a = (h, offered, idle, log, a.0.stands)
stands_after Done from until finished h new offered idle log a = (h, offered, idle, log, a.0.stands)
