-- Where nothing waits and nothing is due: Idle, Done, or the last precharge.
use Rattle.std.proofs.Common.{◌≡◌, ◌∙◌, ℕ, ◌+◌, ◌<◌, ◌≤◌, ◌^◌, ◌&&◌, true, false, Option, Some, None, is_none, List, [], ◌∷◌, length, max, refl, sym, ap, subst, arith, ltb-true}
use Rattle.std.specs.Option.{IsSome}
use Rattle.std.proofs.lemmas.Bool.{lt-ltb}
use Rattle.command_words.specs.declared.command.Command.TheVariants.{PreAb}
use Rattle.speed_bin.specs.Alert.{alert}
use Rattle.speed_bin.specs.Log.{Log, open_at}
use Rattle.speed_bin.specs.Rules.{all_closed, broken_at_end, rules_at_end, rule_1, until, after}
use Rattle.speed_bin.specs.Gap.{n_tail}
use Rattle.speed_bin.specs.declared.header.Header.{Header}
use Rattle.requests.specs.Owed.{SparesOwed}
use Rattle.requests.specs.Queue.{Step, places, hits, oldest}
use Rattle.requests.specs.declared.request.Request.{Request}
use Rattle.requests.specs.declared.waiting.Waiting.{Waiting}
use Rattle.deadlines.specs.Standing.{Keeps}
use Rattle.deadlines.specs.Turns.{ClosesAtEnd}
use Rattle.deadlines.specs.declared.task.Task.{Task}
use Rattle.scheduler.specs.Controller.{BetweenTurns, IsCalm, AtRest, IsSeen, IsTasked, Rests, StandsFor, from_of, banks_of, excused, none_wait}
use Rattle.scheduler.specs.Laws.{Laws}
use Rattle.scheduler.specs.Steps.{IsReadySoon, IsResting, with_from}
use Rattle.scheduler.specs.declared.choice.Candidate.{Candidate}
use Rattle.scheduler.specs.declared.state.State.{State}
use Rattle.deadlines.proofs.Following.{up_more}
use Rattle.speed_bin.proofs.Tests.{joined}
use Rattle.scheduler.proofs.Tools.{fails_below, none_failing}
use Rattle.scheduler.proofs.Parts.{length-places, at_least}
use Rattle.scheduler.proofs.Offering.{soon_of}

-- no alert is raised where there is no candidate
none_raised : (o : Option ℕ) → ((raised : ℕ) → o ≡ Some raised → IsSome {T = Candidate} None) → o ≡ None
none_raised None h = refl
none_raised (Some a) h = let e : false ≡ true = h a refl in cc

below_end : (clock from : ℕ) (log : Log) → from ≤ clock → rule_1 from log ≡ true → rule_1 clock log ≡ true
below_end clock from [] le e = refl
below_end clock from (place ∷ log) le e = let a = ltb-true place.clock from e in lt-ltb place.clock clock (omega (arith, a, le))

calm_of : (c : State) (h : Header) (offered : List Request) (idle : ℕ) (log : List Step) → IsResting c h offered idle log → IsCalm h (max c.ledger.from c.until) (places log)
calm_of c h offered idle log r = record {
  no_alert = none_raised (alert h (places log)) r.free.candidate;
  no_scrub = r.free.no_scrub;
  no_refresh = r.free.no_refresh;
  no_management = r.free.no_management;
}

rest_of : (c : State) (h : Header) (offered : List Request) (idle : ℕ) (log : List Step) → IsResting c h offered idle log → AtRest h (max c.ledger.from c.until) offered log
rest_of c h offered idle log r = record {
  none_waits = sym r.awake.holds.requested.waits ∙ r.none_waits;
  started = r.started;
  calm = calm_of c h offered idle log r;
}

seen_none : (o a : Option ℕ) (from : ℕ) → o ≡ a → a ≡ None → IsSeen o from a
seen_none None None from e f = tt
seen_none None (Some x) from e f = cc
seen_none (Some y) a from e f = sym e

-- the controller at e0
abbrev pub rested : State → State
rested c = with_from (max c.ledger.from c.until) c

pub holds_rested : (laws : Laws) (c : State) (h : Header) (offered : List Request) (idle : ℕ) (log : List Step) → IsResting c h offered idle log → c.ledger.from < 2 ^ 47 → BetweenTurns h (rested c) offered idle log
holds_rested laws c h offered idle log r bound =
    let s = r.awake.holds in
    let l = s.ledger in
    let long = s.long in let target = s.target in
    let calm = calm_of c h offered idle log r in
    let untasked = r.free.untasked in
    let started : 8 ≤ length (places log) = subst (λ n. 8 ≤ n) (sym (length-places log)) r.started in
    let keeps = subst (λ (t : Option Task). Keeps h (places log) t c.ledger.from c.until idle (banks_of c.queue.items) (length offered)) untasked s.deadlines in
    let later = laws.deadlines.rest h (places log) c.ledger.from c.until idle (banks_of c.queue.items) (length offered) s.accepted keeps started calm.no_alert calm.no_refresh in record {
      accepted = s.accepted;
      header = s.header;
      writes = s.writes;
      ledger = record {
        accepted = l.accepted;
        stands = l.stands;
        owed = l.owed;
        written = l.written;
        later = up_more c.ledger.from (max c.ledger.from c.until) (places log) (omega arith) l.later;
      };
      seen = seen_none c.alert (alert h (places log)) (max c.ledger.from c.until) r.awake.seen calm.no_alert;
      count = s.count;
      requested = s.requested;
      deadlines = subst (λ (t : Option Task). Keeps h (places log) t (max c.ledger.from c.until) c.until idle (banks_of c.queue.items) (length offered)) (sym untasked) later;
      tasked = subst (λ (t : Option Task). IsTasked h (places log) (max c.ledger.from c.until) t) (sym untasked) tt;
      starting = s.starting;
      untasked = s.untasked;
      sound = s.sound;
      last = below_end (max c.ledger.from c.until) c.ledger.from (places log) (omega arith) s.last;
      long = omega (arith, long);
      near = omega (arith, bound, target);
      target = s.target;
    }

pub rests_of : (laws : Laws) (c new : State) (h : Header) (offered : List Request) (idle : ℕ) (log : List Step) → IsResting c h offered idle log → c.ledger.from < 2 ^ 47 → new ≡ rested c → Rests c.ledger.from c.until h new offered idle log
unfolding StandsFor from_of
rests_of laws c new h offered idle log r bound same = record {
  rest = rest_of c h offered idle log r;
  now = ap (λ (x : State). x.ledger.from) same;
  stands = subst (λ (x : State). BetweenTurns h x offered idle log) (sym same) (holds_rested laws c h offered idle log r bound);
}

-- ---- The end

in_time : (o : Option ℕ) (clock n : ℕ) → o ≡ None → until clock (after o n) ≡ true
in_time None clock n e = refl
in_time (Some a) clock n e = cc

is_none_of : (o : Option ℕ) → o ≡ None → is_none o ≡ true
is_none_of None e = refl
is_none_of (Some a) e = cc

pub ends_right : (laws : Laws) (c : State) (h : Header) (offered : List Request) (idle : ℕ) (log : List Step) → IsResting c h offered idle log → all_closed (places log) ≡ true → broken_at_end h (max c.ledger.from c.until) (places log) ≡ None
ends_right laws c h offered idle log r closed =
    let s = r.awake.holds in
    let e0 = max c.ledger.from c.until in
    let calm = calm_of c h offered idle log r in
    let started : 8 ≤ length (places log) = subst (λ n. 8 ≤ n) (sym (length-places log)) r.started in
    let keeps = subst (λ (t : Option Task). Keeps h (places log) t c.ledger.from c.until idle (banks_of c.queue.items) (length offered)) r.free.untasked s.deadlines in
    let sixth = laws.deadlines.at_end h (places log) c.ledger.from c.until idle (banks_of c.queue.items) (length offered) s.accepted keeps calm.no_alert calm.no_refresh in
    let first = below_end e0 c.ledger.from (places log) (omega arith) s.last in
    let last = joined _ _ (at_least (length (places log)) started) (joined _ _ closed (is_none_of _ calm.no_alert)) in
    none_failing 1 (rules_at_end h e0 (places log)) (first, (refl, (refl, (refl, (refl, (sixth, (refl, (refl, (refl, (refl, (refl, (refl, (in_time _ e0 (h.timing.nabo + n_tail h.timing) calm.no_alert, (last, tt))))))))))))))

-- ---- The last precharge

none_of : (o : Option ℕ) → is_none o ≡ false → o ≡ None → ⊥
none_of None e f = cc
none_of (Some x) e f = cc

some_of : (o : Option ℕ) → is_none o ≡ false → IsSome o
some_of None e = cc
some_of (Some x) e = refl

no_hit : (b : ℕ) (o : Option ℕ) (ws : List Waiting) → ws ≡ [] → oldest (hits b o) ws ≡ None
no_hit b o [] e = refl
no_hit b o (w ∷ ws) e = cc

pub last_ready : (laws : Laws) (c : State) (h : Header) (offered : List Request) (idle : ℕ) (log : List Step) → IsResting c h offered idle log → c.ledger.from < 2 ^ 47 → c.finished ≡ true → all_closed (places log) ≡ false → IsReadySoon (rested c) c.ledger.from c.until c.finished h offered idle log PreAb None
last_ready laws c h offered idle log r bound finished opened = record {
  ledger = (holds_rested laws c h offered idle log r bound).ledger;
  ready = λ clock soonest.
      let s = r.awake.holds in
      let e0 = max c.ledger.from c.until in
      let calm = calm_of c h offered idle log r in
      let o = fails_below 32 (λ b. is_none (open_at b (places log))) opened in
      let started : 8 ≤ length (places log) = subst (λ n. 8 ≤ n) (sym (length-places log)) r.started in
      let q = soon_of laws c h offered idle log e0 clock PreAb s (omega arith) soonest in
      let within = q.within in let target = s.target in let after = soonest.not_before in
      let empty : banks_of c.queue.items ≡ [] = ap (λ ws. banks_of ws) r.none_waits in
      let spares : SparesOwed PreAb (places log) = (λ b low e. laws.requests.missed h offered log c.queue.items (excused c.task c.finished c.queue.items) b s.requested low (no_hit b (open_at b (places log)) c.queue.items r.none_waits)) in
      let nothing : (c.finished && none_wait c.queue.items) ≡ true = joined c.finished (none_wait c.queue.items) finished (ap (λ (ws : List Waiting). none_wait ws) r.none_waits) in record {
        holds = s;
        seen = r.awake.seen;
        waited = omega arith;
        late = after;
        near = omega (arith, within, bound, target);
        soon = omega (arith, within);
        turn = ClosesAtEnd o.index started r.free.untasked calm.no_alert r.free.no_scrub r.free.no_refresh soonest refl o.low (none_of _ o.fails) empty refl empty;
        follows = soonest.follows;
        fits = record { fourth = refl; fifth = refl };
        ninth = refl;
        tenth = refl;
        twelfth = refl;
        fourteenth = at_least _ started;
        spares = spares;
        requested = laws.requests.closing h offered log c.queue.items (excused c.task c.finished c.queue.items) (excused None c.finished c.queue.items) clock PreAb s.requested refl spares (λ b low e. nothing) (λ b low e. nothing);
        tasked = tt;
        starting = λ few. absurd (let a = r.started in omega (arith, few, a));
        untasked = λ few. refl;
        chosen = (record { bank = o.index; low = o.low; covered = refl; is_open = some_of _ o.fails }, refl);
        prompt = tt;
        busy = λ rest. (finished, opened);
      };
}
