-- A command is delivered: the lists of both ends, the counts, and what is kept grow by it.
use Rattle.std.proofs.Common.{◌≡◌, ◌∙◌, ℕ, suc, ◌+◌, ◌<◌, ◌≤◌, Bool, Option, Some, None, is_some, IfSome, List, [], ◌∷◌, ◌++◌, length, refl, sym, ap, subst, arith, length-append}
use Rattle.command_words.specs.declared.command.Command.{Command}
use Rattle.command_words.specs.declared.command.Command.TheVariants.{Act, Rd, Wr, PrePb, PreSb, PreAb, RefAb, RefSb, RfmAb, RfmSb, Mrw, Ecs, Nop}
use Rattle.speed_bin.specs.Alert.{alert}
use Rattle.speed_bin.specs.Log.{Log}
use Rattle.speed_bin.specs.declared.header.Header.{Header}
use Rattle.error_scrub.specs.declared.cells.LineRead.{LineRead}
use Rattle.device_core.specs.Steps.{Step as DeviceStep, Issues as Gives}
use Rattle.device_core.specs.Stored.{answer as device_answer}
use Rattle.ddr_text.specs.declared.lines.TraceLine.{TraceLine}
use Rattle.ddr_text.specs.declared.lines.TraceLine.TheVariants.{Idle}
use Rattle.requests.specs.Choice.{IsChosen}
use Rattle.requests.specs.Queue.{Step as NumberedStep, places, waiting}
use Rattle.requests.specs.declared.request.Request.{Request as Asked}
use Rattle.requests.specs.declared.request.RequestId.{RequestId}
use Rattle.scheduler.specs.Controller.{number_of}
use Rattle.reports.specs.Delivered.{bytes_for, device_steps}
use Rattle.reports.specs.Offered.{offered, ranked, controller_steps}
use Rattle.reports.specs.Requests.{Request, requests}
use Rattle.reports.specs.Runs.{Run, Step as RunStep, log_of, ready, held}
use Rattle.reports.specs.Underway.{Next as NextLine, IsUnderway, issue}
use Rattle.trace_replay.specs.Coupled.{Step, StandsFor, IsAwaited, pending_of, controller_of, from_of, until_of, finished_of, issued_as, delivered, with_pending, log_of as coupled_log, controller_steps as numbered_steps, device_steps as stored_steps}
use Rattle.trace_replay.specs.Counts.{counts_of}
use Rattle.trace_replay.specs.RequestBuffer.{Kept, Has}
use Rattle.trace_replay.specs.ReplayState.{following, passing, kept_of, bytes_at, outcome_with, noted, AreOf, BothStand, IsAhead, LoopInvariant, IsIssuing, IsDelivered}
use Rattle.trace_replay.specs.declared.counts.Counts.{Counts}
use Rattle.trace_replay.specs.declared.ends.Ends.{Ends as Coupled}
use Rattle.trace_replay.specs.declared.replay_state.Ahead.{Ahead}
use Rattle.trace_replay.specs.declared.replay_state.Ahead.TheVariants.{Unknown, NextLine, Passes, End, Refused}
use Rattle.trace_replay.specs.declared.replay_state.ReplayState.{ReplayState}
use Rattle.trace_replay.proofs.Agreeing.{places_are}
use Rattle.trace_replay.proofs.Taken.{few-asked, same-length, total-clocks}
use Rattle.trace_replay.specs.Delivery.{DeliveryLaws}
use Rattle.trace_replay.proofs.Noting.{bytes-are, has-it, kept-after}

-- ---- Before it is delivered

-- the run with it
goes-under : DeliveryLaws → (h : Header) (p : ReplayState) (trace : List TraceLine) (run : Run) (clock : ℕ) (command : Command) (id : Option RequestId) (k : IsIssuing h p trace run clock command id)
    → IsUnderway h trace k.follows.done (from_of p.coupled) (issue trace clock command (number_of id) ∷ run) (following p.ahead)
goes-under laws h p trace run clock command id k =
    laws.kept h trace k.follows.done k.follows.now (from_of p.coupled) run (following p.ahead) clock command (number_of id) k.follows.underway k.issued k.follows.past k.passed

-- the device may be given it, with the bytes that are kept
pub awaited : DeliveryLaws → (h : Header) (p : ReplayState) (trace : List TraceLine) (run : Run) (clock : ℕ) (command : Command) (id : Option RequestId) (bytes : Option (List ℕ)) → bytes ≡ bytes_at p.held (number_of id) → IsIssuing h p trace run clock command id
    → IsAwaited (pending_of p.coupled) bytes
awaited laws h p trace run clock command id bytes e k =
    let u = goes-under laws h p trace run clock command id k in
    let given = laws.given h trace run (record { issued = record { clock = clock; command = command }; request = ranked trace (number_of id) }) k.follows.accepted u.sound.0 in
    record {
      step = issued_as clock command id;
      is_pending = k.is_pending;
      with_bytes = ap is_some (e ∙ bytes-are laws h trace run clock command (number_of id) p.held u.sound k.issued.serving k.follows.kept) ∙ given.with_bytes;
    }

pub issuing-has : DeliveryLaws → (h : Header) (p : ReplayState) (trace : List TraceLine) (run : Run) (clock : ℕ) (command : Command) (id : Option RequestId) → IsIssuing h p trace run clock command id → IfSome (number_of id) (λ n. Has p.held n)
issuing-has laws h p trace run clock command id k =
    has-it laws h trace run clock command (number_of id) p.held (goes-under laws h p trace run clock command id k).sound k.issued.serving k.follows.kept

as-many-places : (log : List NumberedStep) → length (places log) ≡ length log
as-many-places [] = refl
as-many-places (step ∷ log) = ap suc (as-many-places log)

-- fewer commands were issued than can ever be
pub few-commands : DeliveryLaws → (h : Header) (p : ReplayState) (trace : List TraceLine) (run : Run) (clock : ℕ) (command : Command) (id : Option RequestId) → IsIssuing h p trace run clock command id → length (log_of run) < 2200000000
few-commands laws h p trace run clock command id k =
    let f = k.follows in
    let few : length (offered trace) ≤ 1048576 = omega (arith, same-length (requests trace), few-asked 1 trace, f.traced.few) in
    let clocks : p.tally.clocks ≤ 4294967296 = omega (arith, f.tally.clocks, f.traced.idle) in
    let idle = total-clocks h p trace run f.now p.ahead clocks f.ahead in
    let most = laws.places_limit h (controller_of p.coupled) (offered trace) (p.tally.clocks + passing p.ahead) (with_pending (pending_of p.coupled) (numbered_steps k.both.steps))
    (laws.agrees p.coupled h (offered trace) (p.tally.clocks + passing p.ahead) k.both.steps k.both.stands) few idle in
    let one : length (with_pending (pending_of p.coupled) (numbered_steps k.both.steps)) ≡ suc (length (controller_steps trace run))
    = ap (λ o. length (with_pending o (numbered_steps k.both.steps))) k.is_pending ∙ ap (λ l. suc (length l)) k.both.are_of.controller in
    let many : length (controller_steps trace run) ≡ length (log_of run) = sym (as-many-places (controller_steps trace run)) ∙ ap length (laws.log trace run) in
    omega (arith, most, one, many)

-- ---- After it was delivered

-- a run under way, and what is known of the line ahead
record Onwards (h : Header) (q : ReplayState) (trace : List TraceLine) (run : Run) (a : Ahead) : Type 0 where
  pub done : ℕ
  pub now : ℕ
  pub underway : IsUnderway h trace done now run (following a)
  pub past : now ≤ from_of q.coupled
  pub ahead : IsAhead q trace run h now a

-- where none waits, a command serves none
none-chosen : (h : Header) (log : Log) (clock : ℕ) (command : Command) (id : Option ℕ) → IsChosen h [] log clock command id → id ≡ None
none-chosen h log clock (Act bank row) id s = s.1
none-chosen h log clock (Rd bank column) id s = let k : None ≡ Some s.request = s.oldest_hit in cc
none-chosen h log clock (Wr bank column) id s = let k : None ≡ Some s.request = s.oldest_hit in cc
none-chosen h log clock (PrePb bank) id s = s.1
none-chosen h log clock (PreSb address) id s = s.1
none-chosen h log clock PreAb id s = s.1
none-chosen h log clock RefAb id s = s.1
none-chosen h log clock (RefSb address) id s = s.1
none-chosen h log clock RfmAb id s = s.1
none-chosen h log clock (RfmSb address) id s = s
none-chosen h log clock (Mrw write) id s = s
none-chosen h log clock Ecs id s = s
none-chosen h log clock Nop id s = absurd s

-- while the clocks of an I line pass, no request is served, and they pass from the same clock on
passes-on : (h : Header) (p : ReplayState) (next : Coupled) (kept : Kept) (counts : Counts) (trace : List TraceLine) (run : Run) (clock : ℕ) (command : Command) (n now clocks : ℕ)
    → from_of next ≡ from_of p.coupled → until_of next ≡ until_of p.coupled → finished_of next ≡ finished_of p.coupled → now ≤ from_of p.coupled
    → IsUnderway h trace n now run (NextLine (Idle clocks)) → IsUnderway h trace n (from_of p.coupled) (issue trace clock command None ∷ run) (NextLine (Idle clocks)) → IsAhead p trace run h now (Passes clocks)
    → Onwards h (record p { coupled = next; held = kept; counts = counts }) trace (issue trace clock command None ∷ run) (Passes clocks)
passes-on h p next kept counts trace run clock command n now clocks from until finished low u v was = record {
  done = n;
  now = now;
  underway = record { sound = v.sound; within = u.within; block = u.block; done = v.done; flips = v.flips; window = v.window; apart = v.apart; past = u.past; waited = u.waited; idle = u.idle };
  past = omega (arith, low, from);
  ahead = (finished ∙ was.0, was.1, was.2, until ∙ was.3);
}

onwards : (h : Header) (p : ReplayState) (next : Coupled) (kept : Kept) (counts : Counts) (trace : List TraceLine) (run : Run) (clock : ℕ) (command : Command) (id : Option ℕ) (n now : ℕ) (a : Ahead)
    → from_of next ≡ from_of p.coupled → until_of next ≡ until_of p.coupled → finished_of next ≡ finished_of p.coupled → now ≤ from_of p.coupled
    → IsUnderway h trace n now run (following a) → IsUnderway h trace n (from_of p.coupled) (issue trace clock command id ∷ run) (following a) → IsChosen h (waiting h (offered trace) (controller_steps trace run)) (log_of run) clock command id → IsAhead p trace run h now a
    → Onwards h (record p { coupled = next; held = kept; counts = counts }) trace (issue trace clock command id ∷ run) a
onwards h p next kept counts trace run clock command id n now Unknown from until finished low u v chosen was = record { done = n; now = from_of p.coupled; underway = v; past = omega (arith, from); ahead = finished ∙ was }
onwards h p next kept counts trace run clock command id n now (NextLine line) from until finished low u v chosen was = record { done = n; now = from_of p.coupled; underway = v; past = omega (arith, from); ahead = (finished ∙ was.0, was.1) }
onwards h p next kept counts trace run clock command id n now (Passes clocks) from until finished low u v chosen was =
    let none : id ≡ None = none-chosen h (log_of run) clock command id (subst (λ ws. IsChosen h ws (log_of run) clock command id) was.2 chosen) in
    subst (λ i. Onwards h (record p { coupled = next; held = kept; counts = counts }) trace (issue trace clock command i ∷ run) (Passes clocks)) (sym none)
    (passes-on h p next kept counts trace run clock command n now clocks from until finished low u (subst (λ i. IsUnderway h trace n (from_of p.coupled) (issue trace clock command i ∷ run) (NextLine (Idle clocks))) none v) was)
onwards h p next kept counts trace run clock command id n now End from until finished low u v chosen was = record { done = n; now = from_of p.coupled; underway = v; past = omega (arith, from); ahead = tt }
onwards h p next kept counts trace run clock command id n now (Refused reason) from until finished low u v chosen was = record { done = n; now = from_of p.coupled; underway = v; past = omega (arith, from); ahead = tt }

log-same : DeliveryLaws → (h : Header) (trace : List TraceLine) (run : Run) (steps : List Step) → AreOf h trace run steps → coupled_log steps ≡ log_of run
log-same laws h trace run steps a = sym (places_are steps) ∙ ap places a.controller ∙ laws.log trace run

-- both ends stand for the list with it
both-after : DeliveryLaws → (h : Header) (p : ReplayState) (next : Coupled) (kept : Kept) (counts : Counts) (trace : List TraceLine) (run : Run) (clock : ℕ) (command : Command) (id : Option RequestId) (bytes : Option (List ℕ)) → bytes ≡ bytes_for trace (ranked trace (number_of id))
    → ((offers : List Asked) (idle : ℕ) (steps : List Step) (step : NumberedStep) → StandsFor p.coupled h offers idle steps → pending_of p.coupled ≡ Some step → StandsFor next h offers idle (delivered step bytes ∷ steps))
    → IsIssuing h p trace run clock command id → BothStand h (record p { coupled = next; held = kept; counts = counts }) trace (issue trace clock command (number_of id) ∷ run)
both-after laws h p next kept counts trace run clock command id bytes e stands k = record {
  steps = delivered (issued_as clock command id) bytes ∷ k.both.steps;
  are_of = record {
    controller = ap (λ (l : List NumberedStep). record { issued = record { clock = clock; command = command }; id = number_of id } ∷ l) k.both.are_of.controller ∙ sym (laws.steps h trace run clock command (number_of id) k.follows.underway.sound k.issued.serving);
    device = ap (λ (l : List DeviceStep). Gives (record { issued = record { clock = clock; command = command }; bytes = bytes }) ∷ l) k.both.are_of.device
        ∙ ap (λ b. Gives (record { issued = record { clock = clock; command = command }; bytes = b }) ∷ device_steps h trace run) e;
  };
  stands = stands (offered trace) (p.tally.clocks + passing p.ahead) k.both.steps (issued_as clock command id) k.both.stands k.is_pending;
}

pub delivered-is : DeliveryLaws → (h : Header) (p : ReplayState) (trace : List TraceLine) (run : Run) (clock : ℕ) (command : Command) (id : Option RequestId) (next : Coupled) (kept : Kept) (counts : Counts) (found : Option LineRead) (raised : Bool) (bytes : Option (List ℕ))
    → bytes ≡ bytes_at p.held (number_of id)
    → ((offers : List Asked) (idle : ℕ) (steps : List Step) (step : NumberedStep) → StandsFor p.coupled h offers idle steps → pending_of p.coupled ≡ Some step → StandsFor next h offers idle (delivered step bytes ∷ steps))
    → ((offers : List Asked) (idle : ℕ) (steps : List Step) (step : NumberedStep) → StandsFor p.coupled h offers idle steps → pending_of p.coupled ≡ Some step → found ≡ device_answer h step.issued.command (stored_steps steps))
    → ((offers : List Asked) (idle : ℕ) (steps : List Step) (step : NumberedStep) → StandsFor p.coupled h offers idle steps → pending_of p.coupled ≡ Some step → raised ≡ is_some (alert h (step.issued ∷ coupled_log steps)))
    → pending_of next ≡ None → from_of next ≡ from_of p.coupled → until_of next ≡ until_of p.coupled → finished_of next ≡ finished_of p.coupled
    → ((clock : ℕ) (log : Log) → p.counts ≡ counts_of h log → raised ≡ is_some (alert h (record { clock = clock; command = command } ∷ log)) → counts ≡ counts_of h (record { clock = clock; command = command } ∷ log))
    → kept ≡ noted p.held (number_of id) (outcome_with found)
    → IsIssuing h p trace run clock command id
    → IsDelivered h (record p { coupled = next; held = kept; counts = counts }) trace run (issue trace clock command (number_of id))
delivered-is laws h p trace run clock command id next kept counts found raised bytes brings stands answered alerts pending from until finished counted keeps k =
    let f = k.follows in
    let u = goes-under laws h p trace run clock command id k in
    let on = onwards h p next kept counts trace run clock command (number_of id) f.done f.now p.ahead from until finished f.past f.underway u k.issued.chosen f.ahead in
    let answer_is : found ≡ device_answer h command (device_steps h trace run) = answered (offered trace) (p.tally.clocks + passing p.ahead) k.both.steps (issued_as clock command id) k.both.stands k.is_pending ∙ ap (device_answer h command) k.both.are_of.device in
    let alert_is : raised ≡ is_some (alert h (record { clock = clock; command = command } ∷ log_of run))
    = alerts (offered trace) (p.tally.clocks + passing p.ahead) k.both.steps (issued_as clock command id) k.both.stands k.is_pending
    ∙ ap (λ (l : Log). is_some (alert h (record { clock = clock; command = command } ∷ l))) (log-same laws h trace run k.both.steps k.both.are_of) in
    record {
      accepted = f.accepted;
      geometry = f.geometry;
      traced = f.traced;
      tally = f.tally;
      kept = keeps ∙ kept-after laws h trace run clock command (number_of id) p.held found u.sound k.issued.serving f.kept answer_is;
      done = on.done;
      now = on.now;
      underway = on.underway;
      past = on.past;
      ahead = on.ahead;
      both = both-after laws h p next kept counts trace run clock command id bytes (brings ∙ bytes-are laws h trace run clock command (number_of id) p.held u.sound k.issued.serving f.kept) stands k;
      none_pending = pending;
      commands = k.commands;
      counts = counted clock (log_of run) k.counts alert_is;
    }

-- ---- The answers are written

abbrev pub ReadyMore : Type 0
ReadyMore = (rs : List Request) (step : RunStep) (run : Run) → ready rs (step ∷ run) ≡ ready rs run ++ ready (held rs run) (step ∷ run)

abbrev pub HeldMore : Type 0
HeldMore = (rs : List Request) (step : RunStep) (run : Run) → held rs (step ∷ run) ≡ held (held rs run) (step ∷ run)

-- once the answers that are due are written, the run with the command is under way
pub issued-holds : ReadyMore → HeldMore → (h : Header) (p : ReplayState) (trace : List TraceLine) (run : Run) (clock : ℕ) (command : Command) (id : Option RequestId) (kept : Kept) → IsDelivered h p trace run (issue trace clock command (number_of id))
    → kept ≡ kept_of h trace (issue trace clock command (number_of id) ∷ run) (length (ready (requests trace) run) + length (ready (held (requests trace) run) (issue trace clock command (number_of id) ∷ run))) (held (held (requests trace) run) (issue trace clock command (number_of id) ∷ run))
    → LoopInvariant h (record p { commands = p.commands + 1; last = clock; held = kept }) trace (issue trace clock command (number_of id) ∷ run)
issued-holds more others h p trace run clock command id kept d e =
    let step = issue trace clock command (number_of id) in
    let many : length (ready (requests trace) run) + length (ready (held (requests trace) run) (step ∷ run)) ≡ length (ready (requests trace) (step ∷ run))
    = sym (ap length (more (requests trace) step run) ∙ length-append (ready (requests trace) run) (ready (held (requests trace) run) (step ∷ run))) in
    record {
      follows = record {
        accepted = d.accepted;
        geometry = d.geometry;
        traced = d.traced;
        tally = d.tally;
        kept = e ∙ ap (λ n. kept_of h trace (step ∷ run) n (held (held (requests trace) run) (step ∷ run))) many
            ∙ ap (kept_of h trace (step ∷ run) (length (ready (requests trace) (step ∷ run)))) (sym (others (requests trace) step run));
        done = d.done;
        now = d.now;
        underway = d.underway;
        past = d.past;
        ahead = still-ahead d.now p.ahead d.ahead;
      };
      both = record { steps = d.both.steps; are_of = d.both.are_of; stands = d.both.stands };
      none_pending = d.none_pending;
      last = refl;
      commands = omega (arith, d.commands);
      counts = d.counts;
    }
  where
    still-ahead : (now : ℕ) (a : Ahead) → IsAhead p trace (issue trace clock command (number_of id) ∷ run) h now a → IsAhead (record p { commands = p.commands + 1; last = clock; held = kept }) trace (issue trace clock command (number_of id) ∷ run) h now a
    still-ahead now Unknown w = w
    still-ahead now (NextLine line) w = w
    still-ahead now (Passes clocks) w = w
    still-ahead now End w = w
    still-ahead now (Refused reason) w = w
