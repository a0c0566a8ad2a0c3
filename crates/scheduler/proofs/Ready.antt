-- A command of which all is known keeps the rules, and the controller stands for the log with it.
use Rattle.std.proofs.Common.{◌≡◌, ◌∙◌, ℕ, ◌+◌, ◌||◌, not, Bool, true, false, Option, Some, None, is_some, List, ◌∷◌, length, IsTrue, refl, sym, ap, subst, arith, cond}
use Rattle.std.proofs.lemmas.Bool.{lt-ltb}
use Rattle.arrayvec.specs.ArrayVec.{ArrayVec}
use Rattle.command_words.specs.declared.command.Command.{Command}
use Rattle.command_words.specs.declared.command.Command.TheVariants.{Act, Rd, Wr, PrePb, PreSb, PreAb, RefAb, RefSb, RfmAb, RfmSb, Mrw, Ecs, Nop}
use Rattle.speed_bin.specs.Alert.{alert, alert_after}
use Rattle.command_words.specs.Kinds.{effect, Leaves, is_mrw, is_rfm_all}
use Rattle.speed_bin.specs.Log.{Log, Issued, open_at, open_after}
use Rattle.speed_bin.specs.Rules.{broken, rules_at, verdict, is_wanted, rule_1, rule_11}
use Rattle.speed_bin.specs.declared.header.Header.{Header}
use Rattle.requests.specs.Choice.{IsChosen}
use Rattle.requests.specs.Queue.{Step, places}
use Rattle.requests.specs.Requested.{Requested}
use Rattle.requests.specs.declared.request.Request.{Request}
use Rattle.requests.specs.declared.waiting.Waiting.{Waiting}
use Rattle.deadlines.specs.Standing.{Keeps}
use Rattle.deadlines.specs.declared.task.Task.{Task}
use Rattle.scheduler.specs.Controller.{BetweenTurns, IsSeen, IsTasked, Issues, StandsFor, banks_of, excused, from_of}
use Rattle.scheduler.specs.Laws.{Laws, Kept}
use Rattle.scheduler.specs.Ledger.{StandsFor as LedgerStandsFor, Suits}
use Rattle.scheduler.specs.Choice.{command_for}
use Rattle.scheduler.specs.Steps.{IsReady, alert_left, id_for, queue_after}
use Rattle.scheduler.specs.declared.choice.Class.{Class}
use Rattle.scheduler.specs.declared.choice.Class.TheVariants.{Column, Activate, Precharge}
use Rattle.std.specs.List.{remove}
use Rattle.scheduler.specs.declared.state.State.{State}
use Rattle.scheduler.specs.declared.ledger.Ledger.{Ledger}
use Rattle.deadlines.proofs.Following.{up_more}
use Rattle.scheduler.proofs.Tools.{none_failing}

eleventh : (r w : Bool) (o : Option ℕ) → (r ≡ true → o ≡ None → ⊥) → (not r || (w || is_some o)) ≡ true
eleventh false w o h = refl
eleventh true true o h = refl
eleventh true false (Some a) h = refl
eleventh true false None h = absurd (h refl refl)

pub kept_of : (laws : Laws) (c : State) (from until : ℕ) (finished : Bool) (h : Header) (offered : List Request) (idle : ℕ) (log : List Step) (clock : ℕ) (command : Command) (id : Option ℕ) (next : Option Task) (queue : List Waiting) → IsReady c from until finished h offered idle log clock command id next queue → Kept h (places log) next c.until idle (banks_of queue) (length offered) (record { clock = clock; command = command })
kept_of laws c from until finished h offered idle log clock command id next queue r =
    laws.deadlines.turn h (places log) c.task next from c.until idle (banks_of c.queue.items) (banks_of queue) (length offered) (record { clock = clock; command = command }) r.holds.accepted r.holds.deadlines r.turn

pub right_of : (laws : Laws) (c : State) (from until : ℕ) (finished : Bool) (h : Header) (offered : List Request) (idle : ℕ) (log : List Step) (clock : ℕ) (command : Command) (id : Option ℕ) (next : Option Task) (queue : List Waiting) → IsReady c from until finished h offered idle log clock command id next queue → broken h clock command (places log) ≡ None
right_of laws c from until finished h offered idle log clock command id next queue r =
    let k = kept_of laws c from until finished h offered idle log clock command id next queue r in
    let e : IsTrue (rule_11 h command (places log)) = eleventh (is_rfm_all command) (is_wanted h command (places log)) (alert h (places log)) k.raised in
    none_failing 1 (rules_at h clock command (places log)) (r.follows.rises, (r.follows.gaps, (r.follows.window, (r.fits.fourth, (r.fits.fifth, (k.refreshes_in_time, (k.refreshes_evenly, (k.scrubs_in_step, (r.ninth, (r.tenth, (e, (r.twelfth, (k.answers_the_alert, (r.fourteenth, tt))))))))))))))

pub ledger_of : (c : State) (from until : ℕ) (finished : Bool) (h : Header) (offered : List Request) (idle : ℕ) (log : List Step) (clock : ℕ) (command : Command) (id : Option ℕ) (next : Option Task) (queue : List Waiting) → IsReady c from until finished h offered idle log clock command id next queue → LedgerStandsFor c.ledger h (places log)
ledger_of c from until finished h offered idle log clock command id next queue r =
    let s = r.holds.ledger in record {
      accepted = s.accepted;
      stands = s.stands;
      owed = s.owed;
      written = s.written;
      later = up_more from c.ledger.from (places log) r.waited s.later;
    }

pub suits_of : (laws : Laws) (c : State) (from until : ℕ) (finished : Bool) (h : Header) (offered : List Request) (idle : ℕ) (log : List Step) (clock : ℕ) (command : Command) (id : Option ℕ) (next : Option Task) (queue : List Waiting) → IsReady c from until finished h offered idle log clock command id next queue → Suits c.ledger h (places log) clock command
suits_of laws c from until finished h offered idle log clock command id next queue r =
    let k = kept_of laws c from until finished h offered idle log clock command id next queue r in record {
      late = r.late;
      follows = record { spaced = r.follows; fits = r.fits; allowed = record { refreshes_in_time = k.refreshes_in_time; refreshes_evenly = k.refreshes_evenly; scrubs_in_step = k.scrubs_in_step }; counted = r.ninth };
      spares = r.spares;
    }

pub may_of : (laws : Laws) (c : State) (from until : ℕ) (finished : Bool) (h : Header) (offered : List Request) (idle : ℕ) (log : List Step) (clock : ℕ) (command : Command) (id : Option ℕ) (next : Option Task) (queue : List Waiting) → IsReady c from until finished h offered idle log clock command id next queue → (g : Header) × (l : Log) × (LedgerStandsFor c.ledger g l) × Suits c.ledger g l clock command
may_of laws c from until finished h offered idle log clock command id next queue r = (
  h,
  places log,
  ledger_of c from until finished h offered idle log clock command id next queue r,
  suits_of laws c from until finished h offered idle log clock command id next queue r,
)

seen_after : (all raises : Bool) (clock : ℕ) (o : Option ℕ) → IsSeen (cond all None o) (clock + 1) (alert_after all raises clock o)
seen_after true raises clock o = tt
seen_after false raises clock (Some a) = refl
seen_after false true clock None = refl
seen_after false false clock None = tt

write_leaves : (b : ℕ) (command : Command) → is_mrw command ≡ true → effect b command ≡ Leaves
write_leaves b (Act bank row) e = cc
write_leaves b (Rd bank column) e = cc
write_leaves b (Wr bank column) e = cc
write_leaves b (PrePb bank) e = cc
write_leaves b (PreSb address) e = cc
write_leaves b PreAb e = cc
write_leaves b RefAb e = cc
write_leaves b (RefSb address) e = cc
write_leaves b RfmAb e = cc
write_leaves b (RfmSb address) e = cc
write_leaves b (Mrw write) e = refl
write_leaves b Ecs e = cc
write_leaves b Nop e = cc

sound_after : (h : Header) (place : Issued) (log : Log) → verdict h log ≡ None → broken h place.clock place.command log ≡ None → verdict h (place ∷ log) ≡ None
sound_after h place log e f = rw (e, f) refl

pub holds_after : (laws : Laws) (c : State) (from until : ℕ) (finished : Bool) (h : Header) (offered : List Request) (idle : ℕ) (log : List Step) (clock : ℕ) (command : Command) (id : Option ℕ) (next : Option Task) (queue : List Waiting) (ledger : Ledger) (raised : Option ℕ) (q : ArrayVec Waiting) → IsReady c from until finished h offered idle log clock command id next queue → LedgerStandsFor ledger h (record { clock = clock; command = command } ∷ places log) → ledger.from ≡ clock + 1 → raised ≡ alert_left command c.alert → q.items ≡ queue → BetweenTurns h (record c { ledger = ledger; alert = raised; queue = q; task = next }) offered idle (record { issued = record { clock = clock; command = command }; id = id } ∷ log)
holds_after laws c from until finished h offered idle log clock command id next queue ledger raised q r stands at left items =
    let k = kept_of laws c from until finished h offered idle log clock command id next queue r in
    let s = r.holds in
    let place : Issued = record { clock = clock; command = command } in
    let step : Step = record { issued = place; id = id } in
    let long = s.long in let waited = r.waited in let late = r.late in let near = r.near in record {
      accepted = s.accepted;
      header = s.header;
      writes = s.writes;
      ledger = stands;
      seen = subst (λ (o : Option ℕ). IsSeen o ledger.from (alert h (place ∷ places log))) (sym (left ∙ ap (λ (o : Option ℕ). alert_left command o) r.seen)) (subst (λ n. IsSeen (alert_left command (alert h (places log))) n (alert h (place ∷ places log))) (sym at) (seen_after (is_rfm_all command) _ clock (alert h (places log))));
      count = s.count;
      requested = subst (λ ws. Requested h offered (step ∷ log) ws (excused next c.finished ws)) (sym items) r.requested;
      deadlines = subst (λ ws. Keeps h (place ∷ places log) next ledger.from c.until idle (banks_of ws) (length offered)) (sym items) (subst (λ n. Keeps h (place ∷ places log) next n c.until idle (banks_of queue) (length offered)) (sym at) k.keeps);
      tasked = subst (λ n. IsTasked h (place ∷ places log) n next) (sym at) r.tasked;
      starting = λ few b low. ap (λ e. open_after e (open_at b (places log))) (write_leaves b command (r.starting (omega (arith, few)))) ∙ s.starting (omega (arith, few)) b low;
      untasked = λ few. r.untasked (omega (arith, few));
      sound = sound_after h place (places log) s.sound (right_of laws c from until finished h offered idle log clock command id next queue r);
      last = subst (λ n. IsTrue (rule_1 n (place ∷ places log))) (sym at) (lt-ltb clock (clock + 1) (omega arith));
      long = omega (arith, long, waited, late, at);
      near = omega (arith, near, at);
      target = s.target;
    }

pub issues_of : (laws : Laws) (c new : State) (from until : ℕ) (finished : Bool) (h : Header) (offered : List Request) (idle : ℕ) (log : List Step) (clock : ℕ) (command : Command) (id : Option ℕ) (next : Option Task) (queue : List Waiting) (q : ArrayVec Waiting) → IsReady c from until finished h offered idle log clock command id next queue → LedgerStandsFor new.ledger h (record { clock = clock; command = command } ∷ places log) → new.ledger.from ≡ clock + 1 → new.alert ≡ alert_left command c.alert → q.items ≡ queue → new ≡ record c { ledger = new.ledger; alert = new.alert; queue = q; task = next } → Issues clock command id from until finished h new offered idle log
unfolding StandsFor from_of
issues_of laws c new from until finished h offered idle log clock command id next queue q r stands at left items same = record {
  right = right_of laws c from until finished h offered idle log clock command id next queue r;
  chosen = subst (λ ws. IsChosen h ws (places log) clock command id) r.holds.requested.waits r.chosen;
  late = let waited = r.waited in let late = r.late in omega (arith, waited, late);
  prompt = r.prompt;
  busy = r.busy;
  now = at;
  stands = subst (λ (x : State). BetweenTurns h x offered idle (record { issued = record { clock = clock; command = command }; id = id } ∷ log)) (sym same) (holds_after laws c from until finished h offered idle log clock command id next queue new.ledger new.alert q r stands at left items);
}

id_column : (k : Class) (w : Waiting) → k ≡ Column → id_for k w ≡ Some w.id
id_column Column w e = refl
id_column Activate w e = cc
id_column Precharge w e = cc

id_other : (k : Class) (w : Waiting) → (k ≡ Column → ⊥) → id_for k w ≡ None
id_other Column w e = absurd (e refl)
id_other Activate w e = refl
id_other Precharge w e = refl

queue_column : (k : Class) (ws : List Waiting) (at : ℕ) → k ≡ Column → queue_after k ws at ≡ remove ws at
queue_column Column ws at e = refl
queue_column Activate ws at e = cc
queue_column Precharge ws at e = cc

queue_other : (k : Class) (ws : List Waiting) (at : ℕ) → (k ≡ Column → ⊥) → queue_after k ws at ≡ ws
queue_other Column ws at e = absurd (e refl)
queue_other Activate ws at e = refl
queue_other Precharge ws at e = refl

-- what a candidate's class says of the request and the queue
pub ready_column : (c : State) (from until : ℕ) (finished : Bool) (h : Header) (offered : List Request) (idle : ℕ) (log : List Step) (clock at : ℕ) (command : Command) (k : Class) (w : Waiting) (next : Option Task) → k ≡ Column → command ≡ command_for k w → IsReady c from until finished h offered idle log clock (command_for k w) (id_for k w) next (queue_after k c.queue.items at) → IsReady c from until finished h offered idle log clock command (Some w.id) next (remove c.queue.items at)
ready_column c from until finished h offered idle log clock at command k w next e is r =
    subst (λ x. IsReady c from until finished h offered idle log clock x (Some w.id) next (remove c.queue.items at)) (sym is)
    (subst (λ (o : Option ℕ). IsReady c from until finished h offered idle log clock (command_for k w) o next (remove c.queue.items at)) (id_column k w e)
    (subst (λ ws. IsReady c from until finished h offered idle log clock (command_for k w) (id_for k w) next ws) (queue_column k c.queue.items at e) r))

pub ready_other : (c : State) (from until : ℕ) (finished : Bool) (h : Header) (offered : List Request) (idle : ℕ) (log : List Step) (clock at : ℕ) (command : Command) (k : Class) (w : Waiting) (next : Option Task) → (k ≡ Column → ⊥) → command ≡ command_for k w → IsReady c from until finished h offered idle log clock (command_for k w) (id_for k w) next (queue_after k c.queue.items at) → IsReady c from until finished h offered idle log clock command None next c.queue.items
ready_other c from until finished h offered idle log clock at command k w next e is r =
    subst (λ x. IsReady c from until finished h offered idle log clock x None next c.queue.items) (sym is)
    (subst (λ (o : Option ℕ). IsReady c from until finished h offered idle log clock (command_for k w) o next c.queue.items) (id_other k w e)
    (subst (λ ws. IsReady c from until finished h offered idle log clock (command_for k w) (id_for k w) next ws) (queue_other k c.queue.items at e) r))
