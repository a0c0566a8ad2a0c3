-- The command of a candidate, where no task is set.
use Rattle.std.proofs.Common.{◌≡◌, ◌∙◌, ℕ, ◌+◌, ◌<◌, ◌≤◌, ◌^◌, ◌&&◌, ◌==◌, Bool, true, false, Option, Some, None, is_none, List, ◌∷◌, length, slice_get, IsTrue, refl, sym, ap, subst, arith, cond, nat_le}
use Rattle.std.specs.List.{remove}
use Rattle.std.specs.Option.{IsSome}
use Rattle.std.proofs.lemmas.Bool.{eqb-true, lt-ltb, le-leb, leb-false}
use Rattle.command_words.specs.Command.{bank_number, covers}
use Rattle.command_words.specs.declared.command.Command.{Command}
use Rattle.command_words.specs.declared.command.Command.TheVariants.{RfmAb}
use Rattle.speed_bin.specs.Alert.{alert}
use Rattle.command_words.specs.Kinds.{effect, Closes}
use Rattle.speed_bin.specs.Log.{Log, open_at, raa}
use Rattle.speed_bin.specs.Rules.{is_wanted, until, after, rule_9, rule_12}
use Rattle.speed_bin.specs.declared.header.Header.{Header}
use Rattle.requests.specs.Choice.{IsSoonest}
use Rattle.requests.specs.Owed.{owed, SparesOwed}
use Rattle.requests.specs.Queue.{Step, places, in_bank, hits, oldest}
use Rattle.requests.specs.Requested.{Requested}
use Rattle.requests.specs.declared.request.Request.{Request}
use Rattle.requests.specs.declared.waiting.Waiting.{Waiting}
use Rattle.deadlines.specs.Turns.{ServesRequest, Serves, Column as ServesColumn, Activates, Precharges}
use Rattle.deadlines.specs.declared.task.Task.{Task}
use Rattle.scheduler.specs.Choice.{Wants, IsBest, command_for}
use Rattle.scheduler.specs.Controller.{BetweenTurns, banks_of, excused}
use Rattle.scheduler.specs.Laws.{Laws}
use Rattle.scheduler.specs.Steps.{IsAwake, IsFree, IsReadyFor, all_asked, id_for, queue_after}
use Rattle.scheduler.specs.declared.choice.Candidate.{Candidate}
use Rattle.scheduler.specs.declared.choice.Class.{Class}
use Rattle.scheduler.specs.declared.choice.Class.TheVariants.{Column, Activate, Precharge}
use Rattle.scheduler.specs.declared.state.State.{State}
use Rattle.scheduler.proofs.First.{none_found, get-inside}
use Rattle.scheduler.proofs.Tools.{any_below_false}
use Rattle.scheduler.proofs.Parts.{length-places, at_least, not_empty, hit_of, first_of, takes_of, has_of, column_is, column_fits, column_spares, column_ninth, column_tenth, column_twelfth, column_fourteenth, column_chosen, column_prompt, never_excused}

-- ---- When it comes

pub record IsSoon (clock start : ℕ) : Type 0 where
  pub within : clock + 1 ≤ start + 16384

pub soon_of : (laws : Laws) (c : State) (h : Header) (offered : List Request) (idle : ℕ) (log : List Step) (start clock : ℕ) (command : Command) → BetweenTurns h c offered idle log → c.ledger.from ≤ start → IsSoonest h (places log) start command clock → IsSoon clock start
soon_of laws c h offered idle log start clock command s le e =
    let a = laws.deadlines.within h (places log) c.task c.ledger.from c.until idle (banks_of c.queue.items) (length offered) s.accepted s.deadlines start clock command le e in
    let b = laws.deadlines.small h s.accepted in
    record { within = omega (arith, a, b) }

-- ---- Rolling counts and the alert's window

-- where no RFM is wanted, an ACT is allowed
pub below_limit : (h : Header) (log : Log) (b : ℕ) → b < 32 → h.settings.raaimt ≤ h.settings.raammt → is_wanted h RfmAb log ≡ false → raa h b log < h.settings.raammt
below_limit h log b low le none =
    let e = any_below_false 32 (λ i. covers RfmAb i && nat_le h.settings.raaimt (raa h i log)) none b low in
    let k = leb-false h.settings.raaimt (raa h b log) e in omega (arith, k, le)

pub in_window : (nabo clock : ℕ) (o : Option ℕ) → ((raised : ℕ) → o ≡ Some raised → clock ≤ raised + nabo) → until clock (after o nabo) ≡ true
in_window nabo clock None h = refl
in_window nabo clock (Some a) h = le-leb clock (a + nabo) (h a refl)

-- ---- By class

-- what a candidate's command needs beside its turn
pub record Fitting (k : Class) (w : Waiting) (h : Header) (log : Log) (ws : List Waiting) (clock : ℕ) : Type 0 where
  pub fits : Rattle.bank_state.specs.Standing.Fits (command_for k w) log
  pub ninth : IsTrue (rule_9 h (command_for k w) log)
  pub tenth : IsTrue (Rattle.speed_bin.specs.Rules.rule_10 h (command_for k w) log)
  pub twelfth : IsTrue (rule_12 h clock (command_for k w) log)
  pub fourteenth : IsTrue (Rattle.speed_bin.specs.Rules.rule_14 h (command_for k w) log)
  pub spares : SparesOwed (command_for k w) log
  pub chosen : Rattle.requests.specs.Choice.IsChosen h ws log clock (command_for k w) (id_for k w)

pub prompt_of : (k : Class) (w : Waiting) (h : Header) (from : ℕ) (log : Log) (clock : ℕ) → IsSoonest h log from (command_for k w) clock → Rattle.requests.specs.Choice.IsPrompt h from log clock (command_for k w)
prompt_of Column w h from log clock s = column_prompt w.request.kind w.place h from log clock s
prompt_of Activate w h from log clock s = s
prompt_of Precharge w h from log clock s = s

some_of : (o : Option Waiting) (w : Waiting) → o ≡ Some w → IsSome o
some_of o w e = rw e refl

closes_own : (bank b : ℕ) → cond (bank == b) Closes Rattle.command_words.specs.Kinds.Leaves ≡ Closes → bank ≡ b
closes_own bank b e = go (bank == b) refl e
  where
    go : (t : Bool) → (bank == b) ≡ t → cond t Closes Rattle.command_words.specs.Kinds.Leaves ≡ Closes → bank ≡ b
    go true q f = eqb-true bank b q
    go false q f = cc

pub column_fitting : (w : Waiting) (h : Header) (log : Log) (ws : List Waiting) (b at clock : ℕ) → Wants Column ws b log at → slice_get ws at ≡ Some w → 8 ≤ length log → Fitting Column w h log ws clock
column_fitting w h log ws b at clock wants here started =
    let k = hit_of ws b at (open_at b log) w wants here in record {
      fits = column_fits w.request.kind w.place log w.place.row (ap (λ n. open_at n log) k.bank ∙ k.row);
      ninth = column_ninth w.request.kind w.place h log;
      tenth = column_tenth w.request.kind w.place h log;
      twelfth = column_twelfth w.request.kind w.place h clock log;
      fourteenth = column_fourteenth w.request.kind w.place h log started;
      spares = column_spares w.request.kind w.place log;
      chosen = column_chosen w.request.kind h w ws log clock refl (subst (λ n. oldest (hits n (open_at n log)) ws ≡ Some w) (sym k.bank) k.oldest_hit);
    }

activate_fitting : (w : Waiting) (h : Header) (log : Log) (ws : List Waiting) (b at clock : ℕ) → Wants Activate ws b log at → slice_get ws at ≡ Some w → b < 32 → 8 ≤ length log → h.settings.raaimt ≤ h.settings.raammt → is_wanted h RfmAb log ≡ false → ((raised : ℕ) → alert h log ≡ Some raised → clock ≤ raised + h.timing.nabo) → Fitting Activate w h log ws clock
activate_fitting w h log ws b at clock wants here low started le none window =
    let k = first_of ws b at w wants.1 here in record {
      fits = record { fourth = ap is_none (ap (λ n. open_at n log) k.bank ∙ wants.0); fifth = refl };
      ninth = lt-ltb (raa h (bank_number w.place.bank) log) h.settings.raammt (below_limit h log (bank_number w.place.bank) (subst (λ n. n < 32) (sym k.bank) low) le none);
      tenth = refl;
      twelfth = in_window h.timing.nabo clock (alert h log) window;
      fourteenth = at_least (length log) started;
      spares = λ i below e. never_opens_closed (bank_number w.place.bank) i w.place.row e;
      chosen = (record { request = w; oldest_of = subst (λ n. oldest (in_bank n) ws ≡ Some w) (sym k.bank) k.oldest_of; row_is = refl }, refl);
    }
  where
    never_opens_closed : (bank i row : ℕ) {A : Type 0} → cond (bank == i) (Rattle.command_words.specs.Kinds.Opens row) Rattle.command_words.specs.Kinds.Leaves ≡ Closes → A
    never_opens_closed bank i row e = absurd (go (bank == i) e)
      where
        go : (t : Bool) → cond t (Rattle.command_words.specs.Kinds.Opens row) Rattle.command_words.specs.Kinds.Leaves ≡ Closes → ⊥
        go true f = cc
        go false f = cc

precharge_fitting : (w : Waiting) (h : Header) (log : Log) (ws : List Waiting) (b at clock : ℕ) → Wants Precharge ws b log at → slice_get ws at ≡ Some w → 8 ≤ length log → owed b log ≡ false → Fitting Precharge w h log ws clock
precharge_fitting w h log ws b at clock wants here started spared =
    let k = first_of ws b at w wants.2 here in record {
      fits = record { fourth = refl; fifth = refl };
      ninth = refl;
      tenth = refl;
      twelfth = refl;
      fourteenth = at_least (length log) started;
      spares = λ i below e. subst (λ n. owed n log ≡ false) (sym k.bank ∙ closes_own (bank_number w.place.bank) i e) spared;
      chosen = (
        record {
          opened = subst (λ n. IsSome (open_at n log)) (sym k.bank) wants.0;
          some = some_of _ w (subst (λ n. oldest (in_bank n) ws ≡ Some w) (sym k.bank) k.oldest_of);
          no_hit = subst (λ n. oldest (hits n (open_at n log)) ws ≡ None) (sym k.bank) (none_found 0 (hits b (open_at b log)) ws wants.1);
        },
        refl,
      );
    }

is_open_is : (o : Option ℕ) → IsSome o → o ≡ None → ⊥
is_open_is None h e = cc
is_open_is (Some x) h e = cc

-- ---- What a class does to the queue

-- what the deadlines and the requests ask of it
record Moves (k : Class) (w : Waiting) (h : Header) (offered : List Request) (log : List Step) (ws : List Waiting) (finished : Bool) (at clock : ℕ) : Type 0 where
  serves : Serves (command_for k w) (places log) (banks_of ws) (banks_of (queue_after k ws at))
  requested : Requested h offered (record { issued = record { clock = clock; command = command_for k w }; id = id_for k w } ∷ log) (queue_after k ws at) (excused None finished (queue_after k ws at))
  fitting : Fitting k w h (places log) ws clock

moves_of : (laws : Laws) (k : Class) (w : Waiting) (h : Header) (offered : List Request) (log : List Step) (ws : List Waiting) (finished : Bool) (b at clock : ℕ) → Requested h offered log ws (excused None finished ws) → Wants k ws b (places log) at → slice_get ws at ≡ Some w → b < 32 → 8 ≤ length log → h.settings.raaimt ≤ h.settings.raammt → is_wanted h RfmAb (places log) ≡ false → ((raised : ℕ) → alert h (places log) ≡ Some raised → clock ≤ raised + h.timing.nabo) → Moves k w h offered log ws finished at clock
moves_of laws Column w h offered log ws finished b at clock r wants here low started le none window =
    let k = hit_of ws b at (open_at b (places log)) w wants here in
    record {
      serves = ServesColumn (column_is w.request.kind w.place) (takes_of ws at w here);
      requested = laws.requests.column h offered log ws (excused None finished ws) (excused None finished (remove ws at)) clock at b (command_for Column w) w r refl here k.oldest_hit
          (λ i below e. absurd (let f = never_excused finished ws i at w here in cc));
      fitting = column_fitting w h (places log) ws b at clock wants here (subst (λ n. 8 ≤ n) (sym (length-places log)) started);
    }
moves_of laws Activate w h offered log ws finished b at clock r wants here low started le none window =
    let k = first_of ws b at w wants.1 here in
    let inside : bank_number w.place.bank < 32 = subst (λ n. n < 32) (sym k.bank) low in
    let closed : open_at (bank_number w.place.bank) (places log) ≡ None = ap (λ n. open_at n (places log)) k.bank ∙ wants.0 in
    let f = activate_fitting w h (places log) ws b at clock wants here low (subst (λ n. 8 ≤ n) (sym (length-places log)) started) le none window in record {
      serves = Activates w.place.bank w.place.row refl inside closed (has_of ws at w here) refl;
      requested = laws.requests.activate h offered log ws (excused None finished ws) (excused None finished ws) clock w.place.bank w.place.row r inside closed f.chosen.0 (never_excused finished ws (bank_number w.place.bank) at w here) (λ i below e. e);
      fitting = f;
    }
moves_of laws Precharge w h offered log ws finished b at clock r wants here low started le none window =
    let k = first_of ws b at w wants.2 here in
    let inside : bank_number w.place.bank < 32 = subst (λ n. n < 32) (sym k.bank) low in
    let spared = laws.requests.missed h offered log ws (excused None finished ws) b r low (none_found 0 (hits b (open_at b (places log))) ws wants.1) in
    let f = precharge_fitting w h (places log) ws b at clock wants here (subst (λ n. 8 ≤ n) (sym (length-places log)) started) spared in record {
      serves = Precharges w.place.bank refl inside (is_open_is _ f.chosen.0.opened) (subst (λ n. owed n (places log) ≡ false) (sym k.bank) spared) refl;
      requested = laws.requests.precharge h offered log ws (excused None finished ws) (excused None finished ws) clock w.place.bank r f.chosen.0 (λ i below e. e);
      fitting = f;
    }

-- ---- All of it

pub offer_ready : (laws : Laws) (c : State) (h : Header) (offered : List Request) (idle : ℕ) (log : List Step) (candidate : Candidate) → IsAwake c h offered idle log → c.ledger.from < 2 ^ 47 → 8 ≤ length log → IsFree c h (places log) (Some candidate) candidate.clock → IsBest h c.queue.items (places log) c.ledger.from all_asked candidate → IsReadyFor c c.ledger.from c.until c.finished h offered idle log candidate None
offer_ready laws c h offered idle log candidate a bound started free best = record {
  inside = get-inside c.queue.items candidate.at best.is_candidate.waiting best.is_candidate.here;
  soon = (let s = soon_of laws c h offered idle log c.ledger.from candidate.clock (command_for candidate.class best.is_candidate.waiting) a.holds (omega arith) best.is_candidate.soonest in let within = s.within in omega (arith, within));
  ready = λ w here.
      let i = best.is_candidate in
      let e : i.waiting ≡ w = cc (i.here, here) in
      let soonest = subst (λ (x : Waiting). IsSoonest h (places log) c.ledger.from (command_for candidate.class x) candidate.clock) e i.soonest in
      let r = subst (λ (t : Option Task). Requested h offered log c.queue.items (excused t c.finished c.queue.items)) free.untasked a.holds.requested in
      let m = moves_of laws candidate.class w h offered log c.queue.items c.finished best.bank candidate.at candidate.clock r i.wants here best.low started a.holds.accepted.checks.management.1 free.no_management free.window in
      let s = soon_of laws c h offered idle log c.ledger.from candidate.clock (command_for candidate.class w) a.holds (omega arith) soonest in
      let within = s.within in let f = m.fitting in
      let places_started : 8 ≤ length (places log) = subst (λ n. 8 ≤ n) (sym (length-places log)) started in record {
        holds = a.holds;
        seen = a.seen;
        waited = omega arith;
        late = soonest.not_before;
        near = omega (arith, within, bound);
        soon = omega (arith, within);
        turn = ServesRequest places_started free.untasked free.no_scrub free.no_refresh free.window soonest m.serves refl;
        follows = soonest.follows;
        fits = f.fits;
        ninth = f.ninth;
        tenth = f.tenth;
        twelfth = f.twelfth;
        fourteenth = f.fourteenth;
        spares = f.spares;
        requested = m.requested;
        tasked = tt;
        starting = λ few. absurd (omega (arith, few, started));
        untasked = λ few. refl;
        chosen = f.chosen;
        prompt = prompt_of candidate.class w h c.ledger.from (places log) candidate.clock soonest;
        busy = λ rest. absurd (not_empty c.queue.items candidate.at w here (a.holds.requested.waits ∙ rest.none_waits));
      };
}
