-- A turn that issues a command: it is pending, and once it is delivered the run has a step more.
use Rattle.std.proofs.Common.{◌≡◌, ◌∙◌, ℕ, suc, ◌+◌, ◌<◌, ◌≤◌, Option, Some, None, IfSome, List, [], ◌∷◌, ◌++◌, length, refl, sym, ap, subst, arith}
use Rattle.std.specs.List.{flat_map}
use Rattle.std.specs.Io.KnownBytes.{Appends}
use Rattle.std.proofs.KnownBytes.{Appends-trans}
use Rattle.std.proofs.lemmas.Grind.{flat_map-append}
use Rattle.command_words.specs.Command.{bank_number, IsBank, IsInRange}
use Rattle.command_words.specs.declared.place.Bank.{Bank}
use Rattle.command_words.specs.declared.command.Command.{Command}
use Rattle.speed_bin.specs.Log.{open_at}
use Rattle.speed_bin.specs.declared.header.Header.{Header}
use Rattle.ddr_io.specs.Sink.{AppendsPrefix}
use Rattle.ddr_text.specs.Spelling.{spelled}
use Rattle.ddr_text.specs.declared.lines.TraceLine.{TraceLine}
use Rattle.requests.specs.Choice.{IsChosen, IsOldestHit}
use Rattle.requests.specs.Order.{Serves as ServesNumbered, IsServing}
use Rattle.requests.specs.Queue.{Step as NumberedStep, places, waiting}
use Rattle.speed_bin.specs.Header.{shape_of}
use Rattle.requests.specs.declared.request.Kind.{Kind}
use Rattle.requests.specs.declared.request.Request.{Request as Asked}
use Rattle.requests.specs.declared.request.RequestId.{RequestId}
use Rattle.scheduler.specs.Controller.{number_of, StandsFor as ControllerFor, from_of as controller_from}
use Rattle.scheduler.specs.declared.state.State.{State as Controller}
use Rattle.reports.specs.Requests.{requests}
use Rattle.reports.specs.Runs.{Run, log_of}
use Rattle.reports.specs.Offered.{offered, controller_steps}
use Rattle.reports.specs.Report.{report, latest}
use Rattle.reports.specs.Underway.{Ahead as Following, IsUnderway, IsOffered, IsIssued, issue}
use Rattle.trace_replay.specs.Coupled.{Step, StandsFor, Issues, IsDue, controller_of, pending_of, with_pending, issued_as, from_of, until_of, finished_of, log_of as delivered_log, controller_steps as numbered_steps}
use Rattle.trace_replay.specs.declared.ends.Ends.{Ends as Coupled}
use Rattle.trace_replay.specs.Reading.{IsRead, IsFront}
use Rattle.trace_replay.specs.ReplayState.{following, passing, LoopInvariant, IsAhead, IsIssuing, IsUnder, IsBegun, left_of, rest_of}
use Rattle.trace_replay.specs.declared.replay_state.Ahead.{Ahead}
use Rattle.trace_replay.specs.declared.replay_state.Ahead.TheVariants.{Unknown, NextLine, Passes, End, Refused}
use Rattle.trace_replay.specs.declared.replay_state.ReplayState.{ReplayState}
use Rattle.trace_replay.specs.declared.trace_lines.Tally.{Tally}
use Rattle.ddr_text.proofs.Prefixes.{prefix-behind}
use Rattle.trace_replay.proofs.Under.{Agrees, Few}
use Rattle.trace_replay.proofs.Taken.{Known, Within, controls, same-length, few-asked, total-clocks}

-- ---- What holds of every controller and every run

abbrev pub OneLog : Type 0
OneLog = (steps : List Step) → places (numbered_steps steps) ≡ delivered_log steps

abbrev pub LogOfRun : Type 0
LogOfRun = (trace : List TraceLine) (run : Run) → places (controller_steps trace run) ≡ log_of run

abbrev pub ServesOldest : Type 0
ServesOldest = (h : Header) (c : Controller) (offers : List Asked) (idle : ℕ) (log : List NumberedStep) (kind : Kind) (bank : Bank) (column : ℕ) (id : Option ℕ)
    → ControllerFor h c offers idle log → IsBank bank
    → IsOldestHit (waiting h offers log) (bank_number bank) (open_at (bank_number bank) (places log)) kind column id
    → ServesNumbered h offers log kind bank column id

abbrev pub ServesChosen : Type 0
ServesChosen = (h : Header) (offers : List Asked) (log : List NumberedStep) (clock : ℕ) (command : Command) (id : Option ℕ)
    → ((kind : Kind) (bank : Bank) (column : ℕ) (id : Option ℕ) → IsBank bank
    → IsOldestHit (waiting h offers log) (bank_number bank) (open_at (bank_number bank) (places log)) kind column id
    → ServesNumbered h offers log kind bank column id)
    → IsInRange command → IsChosen h (waiting h offers log) (places log) clock command id → IsServing h offers log command id

abbrev pub NewestPassed : Type 0
NewestPassed = (h : Header) (c : Controller) (offers : List Asked) (idle : ℕ) (step : NumberedStep) (log : List NumberedStep) → ControllerFor h c offers idle (step ∷ log) → step.issued.clock < controller_from c

abbrev pub PlacesLimit : Type 0
PlacesLimit = (h : Header) (c : Controller) (offers : List Asked) (idle : ℕ) (log : List NumberedStep) → ControllerFor h c offers idle log → length offers ≤ 1048576 → idle ≤ 4294967296 → length log < 2200000000

pub record IssueLaws : Type 0 where
  pub agrees : Agrees
  pub one_log : OneLog
  pub log_is : LogOfRun
  pub known : Known
  pub few : Few
  pub within_is : Within
  pub serves_oldest : ServesOldest
  pub serves_chosen : ServesChosen
  pub newest : NewestPassed

-- the log of the steps that were delivered is that of the run
pub same-log : OneLog → LogOfRun → (h : Header) (p : ReplayState) (trace : List TraceLine) (run : Run) (k : LoopInvariant h p trace run) → delivered_log k.both.steps ≡ log_of run
same-log one log_is h p trace run k = sym (one k.both.steps) ∙ ap places k.both.are_of.controller ∙ log_is trace run

-- ---- A command is pending

-- what is known of the end and of the line ahead stays
pub ahead-turned : (p : ReplayState) (new : Coupled) (trace : List TraceLine) (run : Run) (h : Header) (now : ℕ) (a : Ahead) → until_of new ≡ until_of p.coupled → finished_of new ≡ finished_of p.coupled
    → IsAhead p trace run h now a → IsAhead (record p { coupled = new }) trace run h now a
ahead-turned p new trace run h now Unknown until finished is = finished ∙ is
ahead-turned p new trace run h now (NextLine line) until finished is = (finished ∙ is.0, is.1)
ahead-turned p new trace run h now (Passes clocks) until finished is = (finished ∙ is.0, is.1, is.2, until ∙ is.3)
ahead-turned p new trace run h now End until finished is = tt
ahead-turned p new trace run h now (Refused reason) until finished is = tt

some-anyway : (o : Option ℕ) (P : Type 0) → P → IfSome o (λ n. P)
some-anyway None P x = tt
some-anyway (Some n) P x = x

-- it is issued as a controller does
issued-of : IssueLaws → (h : Header) (p : ReplayState) (new : Coupled) (trace : List TraceLine) (run : Run) (clock : ℕ) (command : Command) (id : Option RequestId) (k : LoopInvariant h p trace run)
    → IsOffered h trace run (following p.ahead) → IsInRange command
    → Issues clock command id (from_of p.coupled) (until_of p.coupled) (finished_of p.coupled) h new (offered trace) (p.tally.clocks + passing p.ahead) k.both.steps
    → IsIssued h trace run (following p.ahead) k.follows.now clock command (number_of id)
issued-of laws h p new trace run clock command id k filled range i =
    let idle : ℕ = p.tally.clocks + passing p.ahead in
    let stands : ControllerFor h (controller_of p.coupled) (offered trace) idle (controller_steps trace run) = controls laws.agrees h p trace run k in
    let same : delivered_log k.both.steps ≡ log_of run = same-log laws.one_log laws.log_is h p trace run k in
    let due : IsDue h (log_of run) (issued_as clock command id) = subst (λ l. IsDue h l (issued_as clock command id)) same i.due in
    let chosen : IsChosen h (waiting h (offered trace) (controller_steps trace run)) (log_of run) clock command (number_of id)
    = subst (λ l. IsChosen h (waiting h (offered trace) (controller_steps trace run)) l clock command (number_of id)) same
    (subst (λ steps. IsChosen h (waiting h (offered trace) steps) (delivered_log k.both.steps) clock command (number_of id)) k.both.are_of.controller i.chosen) in
    let placed : IsChosen h (waiting h (offered trace) (controller_steps trace run)) (places (controller_steps trace run)) clock command (number_of id)
    = subst (λ l. IsChosen h (waiting h (offered trace) (controller_steps trace run)) l clock command (number_of id)) (sym (laws.log_is trace run)) chosen in
    let later : k.follows.now ≤ clock = omega (arith, k.follows.past, i.late) in
    record {
      legal = record { in_time = due.in_time; in_range = range; row = due.row; rules = due.rules };
      serving = laws.serves_chosen h (offered trace) (controller_steps trace run) clock command (number_of id)
          (λ kind bank column number is hit. laws.serves_oldest h (controller_of p.coupled) (offered trace) idle (controller_steps trace run) kind bank column number stands is hit) range placed;
      known = laws.known h (controller_of p.coupled) (offered trace) idle (controller_steps trace run) stands;
      few = laws.few h (controller_of p.coupled) (offered trace) idle (controller_steps trace run) stands;
      within = laws.within_is h (controller_of p.coupled) (offered trace) idle (controller_steps trace run) stands;
      filled = filled;
      chosen = chosen;
      late = some-anyway (number_of id) (k.follows.now ≤ clock) later;
    }

-- it came before the least clock of the next one
passed-of : Agrees → NewestPassed → (h : Header) (new : Coupled) (offers : List Asked) (idle clock : ℕ) (command : Command) (id : Option RequestId) (steps : List Step)
    → StandsFor new h offers idle steps → pending_of new ≡ Some (issued_as clock command id) → clock < from_of new
passed-of agrees newest h new offers idle clock command id steps stands pending =
    newest h (controller_of new) offers idle (issued_as clock command id) (numbered_steps steps)
    (subst (λ o. ControllerFor h (controller_of new) offers idle (with_pending o (numbered_steps steps))) pending (agrees new h offers idle steps stands))

pub issuing-of : IssueLaws → (h : Header) (p : ReplayState) (new : Coupled) (trace : List TraceLine) (run : Run) (clock : ℕ) (command : Command) (id : Option RequestId) (k : LoopInvariant h p trace run)
    → IsOffered h trace run (following p.ahead) → IsInRange command → until_of new ≡ until_of p.coupled → finished_of new ≡ finished_of p.coupled
    → Issues clock command id (from_of p.coupled) (until_of p.coupled) (finished_of p.coupled) h new (offered trace) (p.tally.clocks + passing p.ahead) k.both.steps
    → IsIssuing h (record p { coupled = new }) trace run clock command id
issuing-of laws h p new trace run clock command id k filled range until finished i =
    let f = k.follows in
    let before : clock < from_of new = passed-of laws.agrees laws.newest h new (offered trace) (p.tally.clocks + passing p.ahead) clock command id k.both.steps i.stands i.is_pending in
    record {
      follows = record {
        accepted = f.accepted;
        geometry = f.geometry;
        traced = f.traced;
        tally = f.tally;
        kept = f.kept;
        done = f.done;
        now = f.now;
        underway = f.underway;
        past = omega (arith, f.past, i.late, before);
        ahead = ahead-turned p new trace run h f.now p.ahead until finished f.ahead;
      };
      both = record { steps = k.both.steps; are_of = k.both.are_of; stands = i.stands };
      is_pending = i.is_pending;
      issued = issued-of laws h p new trace run clock command id k filled range i;
      passed = before;
      commands = k.commands;
      counts = k.counts;
    }

-- ---- How many commands

same-count : (log : List NumberedStep) → length (places log) ≡ length log
same-count [] = refl
same-count (step ∷ log) = ap suc (same-count log)

pub commands-below : Agrees → LogOfRun → PlacesLimit → (h : Header) (p : ReplayState) (trace : List TraceLine) (run : Run) → LoopInvariant h p trace run → p.commands < 2200000000
commands-below agrees log_is limit h p trace run k =
    let f = k.follows in
    let few : length (offered trace) ≤ 1048576 = omega (arith, same-length (requests trace), few-asked 1 trace, f.traced.few) in
    let clocks : p.tally.clocks ≤ 4294967296 = omega (arith, f.tally.clocks, f.traced.idle) in
    let most : length (controller_steps trace run) < 2200000000
    = limit h (controller_of p.coupled) (offered trace) (p.tally.clocks + passing p.ahead) (controller_steps trace run) (controls agrees h p trace run k) few (total-clocks h p trace run f.now p.ahead clocks f.ahead) in
    let same : length (controller_steps trace run) ≡ length (log_of run) = sym (same-count (controller_steps trace run)) ∙ ap length (log_is trace run) in
    omega (arith, most, same, k.commands)

-- one command more is one less to come
pub left-issued : (p q : ReplayState) → q.commands ≡ p.commands + 1 → q.tally ≡ p.tally → q.ahead ≡ p.ahead → finished_of q.coupled ≡ finished_of p.coupled → p.commands < 2200000000 → left_of q < left_of p
unfolding left_of
left-issued p q commands tally ahead finished few =
    let rest : rest_of (finished_of q.coupled) q.ahead ≡ rest_of (finished_of p.coupled) p.ahead = ap (λ b. rest_of b q.ahead) finished ∙ ap (rest_of (finished_of p.coupled)) ahead in
    let lines : q.tally.lines ≡ p.tally.lines = ap (λ (t : Tally). t.lines) tally in
    omega (arith, rest, lines, commands, few)

-- what says how much is left is as it was
pub left-same : (p q : ReplayState) → q.commands ≡ p.commands → q.tally ≡ p.tally → q.ahead ≡ p.ahead → finished_of q.coupled ≡ finished_of p.coupled → left_of q ≡ left_of p
unfolding left_of
left-same p q commands tally ahead finished =
    let rest : rest_of (finished_of q.coupled) q.ahead ≡ rest_of (finished_of p.coupled) p.ahead = ap (λ b. rest_of b q.ahead) finished ∙ ap (rest_of (finished_of p.coupled)) ahead in
    let lines : q.tally.lines ≡ p.tally.lines = ap (λ (t : Tally). t.lines) tally in
    omega (arith, rest, lines, commands)

-- ---- The run has a step more

-- the step's report lines behind those so far
report-more : (h : Header) (trace : List TraceLine) (run : Run) (clock : ℕ) (command : Command) (id : Option ℕ)
    → flat_map spelled (report h trace run) ++ flat_map spelled (latest h trace run (issue trace clock command id)) ≡ flat_map spelled (report h trace (issue trace clock command id ∷ run))
report-more h trace run clock command id = sym (flat_map-append spelled (report h trace run) (latest h trace run (issue trace clock command id)))

pub issued-under : (h : Header) (q : ReplayState) (trace : List TraceLine) (run : Run) (clock : ℕ) (command : Command) (id : Option ℕ) (a : Ahead) (start left before between written : Option (List ℕ))
    → q.ahead ≡ a → IsRead (shape_of h) trace a start left → Appends before between (flat_map spelled (report h trace run))
    → LoopInvariant h q trace (issue trace clock command id ∷ run) → Appends between written (flat_map spelled (latest h trace run (issue trace clock command id))) → IsUnder h q start left before written
issued-under h q trace run clock command id a start left before between written e read so_far k more = record {
  trace = trace;
  run = issue trace clock command id ∷ run;
  holds = k;
  read = subst (λ v. IsRead (shape_of h) trace v start left) (sym e) read;
  wrote = subst (Appends before written) (report-more h trace run clock command id)
      (Appends-trans before between written (flat_map spelled (report h trace run)) (flat_map spelled (latest h trace run (issue trace clock command id))) so_far more);
}

abbrev pub KeepsIssued : Type 0
KeepsIssued = (h : Header) (trace : List TraceLine) (n now later : ℕ) (run : Run) (ahead : Following) (clock : ℕ) (command : Command) (id : Option ℕ) → IsUnderway h trace n now run ahead
    → IsIssued h trace run ahead now clock command id → now ≤ later → clock < later → IsUnderway h trace n later (issue trace clock command id ∷ run) ahead

-- the step's report lines are cut off
pub issued-begun : KeepsIssued → (h : Header) (p : ReplayState) (trace : List TraceLine) (run : Run) (clock : ℕ) (command : Command) (id : Option RequestId) (start before between written : Option (List ℕ))
    → IsFront (shape_of h) trace start → Appends before between (flat_map spelled (report h trace run)) → IsIssuing h p trace run clock command id
    → AppendsPrefix between written (flat_map spelled (latest h trace run (issue trace clock command (number_of id)))) → IsBegun h start before written
issued-begun keeps h p trace run clock command id start before between written front so_far i cut = record {
  trace = trace;
  run = issue trace clock command (number_of id) ∷ run;
  traced = i.follows.traced;
  sound = (keeps h trace i.follows.done i.follows.now (from_of p.coupled) run (following p.ahead) clock command (number_of id) i.follows.underway i.issued i.follows.past i.passed).sound;
  read = front;
  wrote = subst (AppendsPrefix before written) (report-more h trace run clock command (number_of id))
      (prefix-behind before between written (flat_map spelled (report h trace run)) (flat_map spelled (latest h trace run (issue trace clock command (number_of id)))) so_far cut);
}
