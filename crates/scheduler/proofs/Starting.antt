-- The register writes, and the alert as a turn sees it.
use Rattle.std.proofs.Common.{◌≡◌, ◌∙◌, ℕ, ◌-◌, ◌<◌, ◌≤◌, ◌^◌, ◌&&◌, ◌==◌, true, false, Option, Some, None, is_some, is_none, List, [], ◌∷◌, length, slice_get, refl, sym, ap, subst, arith, eq-eqb}
use Rattle.command_words.specs.declared.command.Command.TheVariants.{Mrw}
use Rattle.command_words.specs.declared.command.Mrw.{Mrw as Write}
use Rattle.speed_bin.specs.Alert.{alert, alert_after}
use Rattle.speed_bin.specs.Below.{all_below}
use Rattle.speed_bin.specs.Log.{Log, open_at}
use Rattle.speed_bin.specs.Registers.{register_writes}
use Rattle.speed_bin.specs.Rules.{is_write}
use Rattle.speed_bin.specs.declared.header.Header.{Header}
use Rattle.bank_state.specs.Standing.{Fits}
use Rattle.requests.specs.Queue.{Step, places}
use Rattle.requests.specs.declared.request.Request.{Request}
use Rattle.deadlines.specs.Turns.{WritesRegister}
use Rattle.deadlines.specs.declared.task.Task.{Task}
use Rattle.scheduler.specs.Controller.{BetweenTurns, IsSeen, excused}
use Rattle.scheduler.specs.Laws.{Laws}
use Rattle.scheduler.specs.Steps.{IsAwake, IsReadySoon}
use Rattle.scheduler.specs.declared.state.State.{State}
use Rattle.speed_bin.proofs.Tests.{all_below_from}
use Rattle.scheduler.proofs.Parts.{length-places}
use Rattle.scheduler.proofs.Offering.{soon_of}

pub few_of : (c : State) (h : Header) (offered : List Request) (idle : ℕ) (log : List Step) → BetweenTurns h c offered idle log → c.ledger.written < 8 → c.ledger.written ≡ length log
few_of c h offered idle log s low = let n = length-places log in let k = s.ledger.written in omega (arith, n, k, low)

pub started_of : (c : State) (h : Header) (offered : List Request) (idle : ℕ) (log : List Step) → BetweenTurns h c offered idle log → 8 ≤ c.ledger.written → 8 ≤ length log
started_of c h offered idle log s started = let n = length-places log in let k = s.ledger.written in omega (arith, n, k, started)

all_shut : (log : Log) → ((b : ℕ) → b < 32 → open_at b log ≡ None) → all_below 32 (λ b. is_none (open_at b log)) ≡ true
all_shut log shut = all_below_from 32 (λ b. is_none (open_at b log)) (λ b low. ap is_none (shut b low))

write_fits : (w : Write) (log : Log) → ((b : ℕ) → b < 32 → open_at b log ≡ None) → Fits (Mrw w) log
write_fits w log shut = record { fourth = refl; fifth = all_shut log shut }

is_write_same : (w : Write) → is_write w (Some w) ≡ true
is_write_same w =
    let a = eq-eqb w.address w.address refl in
    let b = eq-eqb w.value w.value refl in
    ap (λ t. t && (w.value == w.value)) a ∙ b

pub write_ready : (laws : Laws) (c : State) (h : Header) (offered : List Request) (idle : ℕ) (log : List Step) (w : Write) → IsAwake c h offered idle log → c.ledger.from < 2 ^ 47 → c.ledger.written < 8 → slice_get c.writes.items c.ledger.written ≡ Some w → IsReadySoon c c.ledger.from c.until c.finished h offered idle log (Mrw w) None
write_ready laws c h offered idle log w a bound low here = record {
  ledger = a.holds.ledger;
  ready = λ clock soonest.
      let s = a.holds in
      let n = few_of c h offered idle log s low in
      let few : length log < 8 = omega (arith, n, low) in
      let l = length-places log in
      let q = soon_of laws c h offered idle log c.ledger.from clock (Mrw w) s (omega arith) soonest in
      let within = q.within in
      let fits = write_fits w (places log) (s.starting (omega (arith, few))) in
      let untasked = s.untasked few in
      let there : slice_get (register_writes h.settings) (length (places log)) ≡ Some w = ap (λ i. slice_get (register_writes h.settings) i) (l ∙ sym n) ∙ ap (λ ws. slice_get ws c.ledger.written) (sym s.writes) ∙ here in record {
        holds = s;
        seen = a.seen;
        waited = omega arith;
        late = soonest.not_before;
        near = omega (arith, within, bound);
        soon = omega (arith, within);
        turn = WritesRegister (omega (arith, few, l)) refl soonest refl refl;
        follows = soonest.follows;
        fits = fits;
        ninth = refl;
        tenth = refl;
        twelfth = refl;
        fourteenth = ap (λ o. is_write w o) there ∙ is_write_same w;
        spares = λ b below e. cc;
        requested = laws.requests.write h offered log c.queue.items (excused c.task c.finished c.queue.items) (excused None c.finished c.queue.items) clock w s.requested fits.fifth
            (λ b below e. subst (λ (t : Option Task). excused t c.finished c.queue.items b ≡ true) untasked e);
        tasked = tt;
        starting = λ more. refl;
        untasked = λ more. refl;
        chosen = refl;
        prompt = tt;
        busy = λ rest. absurd (let x = rest.started in omega (arith, x, few));
      };
}

-- ---- The alert

some_place : (h : Header) (log : Log) (raised : ℕ) → alert h log ≡ Some raised → 1 ≤ length log
some_place h [] raised e = cc
some_place h (place ∷ log) raised e = omega arith

-- a raised alert has a place, and so a clock before `from`
pub some_before : (c : State) (h : Header) (offered : List Request) (idle : ℕ) (log : List Step) → BetweenTurns h c offered idle log → is_some (alert h (places log)) ≡ true → 1 ≤ c.ledger.from
some_before c h offered idle log s e = go (alert h (places log)) refl e
  where
    go : (o : Option ℕ) → alert h (places log) ≡ o → is_some o ≡ true → 1 ≤ c.ledger.from
    go None f t = cc
    go (Some raised) f t = let a = some_place h (places log) raised f in let n = length-places log in let long = s.long in omega (arith, a, n, long)

pub awake_raised : (held : Option ℕ) (from : ℕ) (o : Option ℕ) → IsSeen held from o → is_some o ≡ true → alert_after false true (from - 1) held ≡ o
awake_raised (Some a) from o s e = sym s
awake_raised None from None s e = cc
awake_raised None from (Some a) s e = ap (λ (n : ℕ). Some n) (omega (arith, s))

pub awake_calm : (held : Option ℕ) (from : ℕ) (o : Option ℕ) → IsSeen held from o → is_some o ≡ false → held ≡ o
awake_calm (Some a) from o s e = sym s
awake_calm None from None s e = refl
awake_calm None from (Some a) s e = cc

-- the controller that has seen it
pub awake_of : (c : State) (h : Header) (offered : List Request) (idle : ℕ) (log : List Step) (seen : Option ℕ) → BetweenTurns h c offered idle log → seen ≡ alert h (places log) → IsAwake (record c { alert = seen }) h offered idle log
awake_of c h offered idle log seen s e = record {
  holds = record {
    accepted = s.accepted;
    header = s.header;
    writes = s.writes;
    ledger = s.ledger;
    seen = now_seen seen (alert h (places log)) c.ledger.from e;
    count = s.count;
    requested = s.requested;
    deadlines = s.deadlines;
    tasked = s.tasked;
    starting = s.starting;
    untasked = s.untasked;
    sound = s.sound;
    last = s.last;
    long = s.long;
    near = s.near;
    target = s.target;
  };
  seen = e;
}
  where
    now_seen : (o a : Option ℕ) (from : ℕ) → o ≡ a → IsSeen o from a
    now_seen None None from f = tt
    now_seen None (Some x) from f = cc
    now_seen (Some y) a from f = sym f
