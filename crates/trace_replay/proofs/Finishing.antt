-- A turn that issues nothing: no request waits, and at the end of the trace the run is finished.
use Rattle.std.proofs.Common.{◌≡◌, ◌∙◌, ℕ, ◌+◌, ◌*◌, ◌/◌, ◌≤◌, ◌⊎◌, inl, inr, true, false, Option, None, List, [], ◌∷◌, length, sum, max, refl, sym, ap, subst, arith}
use Rattle.speed_bin.specs.Counts.{commands}
use Rattle.speed_bin.specs.Gap.{n_max}
use Rattle.command_words.specs.Kinds.{is_act}
use Rattle.speed_bin.specs.Page.{keeps_page}
use Rattle.speed_bin.specs.Rules.{broken_at_end}
use Rattle.speed_bin.specs.declared.header.Header.{Header}
use Rattle.ddr_text.specs.declared.lines.TraceLine.{TraceLine}
use Rattle.requests.specs.Queue.{Step as NumberedStep, places, waiting, IsFull}
use Rattle.speed_bin.specs.Header.{shape_of}
use Rattle.requests.specs.declared.request.Request.{Request as Asked}
use Rattle.requests.specs.declared.waiting.Waiting.{Waiting}
use Rattle.scheduler.specs.Controller.{StandsFor as ControllerFor, from_of as controller_from}
use Rattle.scheduler.specs.declared.state.State.{State as Controller}
use Rattle.scheduler.specs.declared.turn.Turn.{Turn}
use Rattle.scheduler.specs.declared.turn.Turn.TheVariants.{Issue, Idle, Done}
use Rattle.reports.specs.Runs.{Run, log_of}
use Rattle.reports.specs.Barriers.{idle_clocks}
use Rattle.reports.specs.Offered.{offered, controller_steps}
use Rattle.reports.specs.Sound.{IsShort, IsRun}
use Rattle.reports.specs.Underway.{Ended, IsUnderway, IsOffered, IsStopped, IsEnded}
use Rattle.trace_replay.specs.Coupled.{After, Rests, controller_of, from_of, until_of, finished_of, log_of as delivered_log}
use Rattle.trace_replay.specs.declared.ends.Ends.{Ends as Coupled}
use Rattle.trace_replay.specs.Reading.{IsRead}
use Rattle.trace_replay.specs.ReplayState.{following, passing, IsKnown, IsAhead, LoopInvariant, IsResting, IsAtRest, IsUnder, IsOver}
use Rattle.trace_replay.specs.Turning.{IsSpelled, IsDone, Turned}
use Rattle.trace_replay.specs.declared.replay_state.Ahead.{Ahead}
use Rattle.trace_replay.specs.declared.replay_state.Ahead.TheVariants.{Unknown, NextLine, Passes, End, Refused}
use Rattle.trace_replay.specs.declared.replay_state.ReplayState.{ReplayState}
use Rattle.trace_replay.proofs.Taken.{controls}
use Rattle.trace_replay.proofs.Issuing.{IssueLaws, ahead-turned, issuing-of, same-log}

-- ---- What holds of every controller and every run

abbrev pub OpenPage : Type 0
OpenPage = (h : Header) (c : Controller) (offers : List Asked) (idle : ℕ) (log : List NumberedStep) → ControllerFor h c offers idle log → keeps_page (places log) ≡ true

abbrev pub FewActs : Type 0
FewActs = (h : Header) (c : Controller) (offers : List Asked) (idle : ℕ) (log : List NumberedStep) → ControllerFor h c offers idle log → commands is_act (places log) ≤ length offers

abbrev pub EndsSoon : Type 0
EndsSoon = (h : Header) (c : Controller) (offers : List Asked) (idle : ℕ) (log : List NumberedStep) → ControllerFor h c offers idle log → controller_from c ≤ 2 * (idle + 8 * n_max h.timing * (length offers + 3))

abbrev pub FewPlaces : Type 0
FewPlaces = (h : Header) (c : Controller) (offers : List Asked) (idle : ℕ) (log : List NumberedStep) → ControllerFor h c offers idle log → length log ≤ 28 + 5 * length offers + 5 * (controller_from c / h.timing.nrefi)

abbrev pub Finishes : Type 0
Finishes = (h : Header) (trace : List TraceLine) (n now clock : ℕ) (run : Run) → IsUnderway h trace n now run Ended → waiting h (offered trace) (controller_steps trace run) ≡ [] → now ≤ clock → IsEnded h trace run clock → IsRun h trace run clock

abbrev pub StaysShort : Type 0
StaysShort = (h : Header) (trace : List TraceLine) (run : Run) (idle clock : ℕ) → idle ≡ sum (idle_clocks trace)
    → commands is_act (places (controller_steps trace run)) ≤ length (offered trace)
    → clock ≤ 2 * (idle + 8 * n_max h.timing * (length (offered trace) + 3))
    → length (controller_steps trace run) ≤ 28 + 5 * length (offered trace) + 5 * (clock / h.timing.nrefi)
    → IsShort h trace run clock

pub record EndLaws : Type 0 where
  pub issue_laws : IssueLaws
  pub page : OpenPage
  pub acts : FewActs
  pub soon : EndsSoon
  pub places_few : FewPlaces
  pub finishes : Finishes
  pub short : StaysShort

-- ---- Nothing waits

-- the controller has let the time pass
pub rested-holds : (h : Header) (p : ReplayState) (new : Coupled) (trace : List TraceLine) (run : Run) (k : LoopInvariant h p trace run) → until_of new ≡ until_of p.coupled → finished_of new ≡ finished_of p.coupled
    → Rests (from_of p.coupled) (until_of p.coupled) h new (offered trace) (p.tally.clocks + passing p.ahead) k.both.steps → LoopInvariant h (record p { coupled = new }) trace run
rested-holds h p new trace run k until finished r =
    let f = k.follows in
    let from : from_of p.coupled ≤ from_of new = at-most (from_of p.coupled) (until_of p.coupled) (from_of new) r.now in
    record {
      follows = record {
        accepted = f.accepted;
        geometry = f.geometry;
        traced = f.traced;
        tally = f.tally;
        kept = f.kept;
        done = f.done;
        now = f.now;
        underway = f.underway;
        past = omega (arith, f.past, from);
        ahead = ahead-turned p new trace run h f.now p.ahead until finished f.ahead;
      };
      both = record { steps = k.both.steps; are_of = k.both.are_of; stands = r.stands };
      none_pending = r.none_pending;
      last = k.last;
      commands = k.commands;
      counts = k.counts;
    }
  where
    at-most : (a b c : ℕ) → c ≡ max a b → a ≤ c
    at-most a b c e = omega (arith, e)

pub none-waits : (h : Header) (p : ReplayState) (new : Coupled) (trace : List TraceLine) (run : Run) (k : LoopInvariant h p trace run)
    → Rests (from_of p.coupled) (until_of p.coupled) h new (offered trace) (p.tally.clocks + passing p.ahead) k.both.steps → waiting h (offered trace) (controller_steps trace run) ≡ []
none-waits h p new trace run k r = ap (waiting h (offered trace)) (sym k.both.are_of.controller) ∙ r.rest.none_waits

pub resting-of : (h : Header) (p : ReplayState) (new : Coupled) (trace : List TraceLine) (run : Run) (k : LoopInvariant h p trace run) → IsOffered h trace run (following p.ahead) → until_of new ≡ until_of p.coupled → finished_of new ≡ finished_of p.coupled
    → finished_of p.coupled ≡ false → Rests (from_of p.coupled) (until_of p.coupled) h new (offered trace) (p.tally.clocks + passing p.ahead) k.both.steps → IsResting h (record p { coupled = new }) trace run
resting-of h p new trace run k filled until finished unfinished r = record {
  holds = rested-holds h p new trace run k until finished r;
  none_waits = none-waits h p new trace run k r;
  filled = filled;
  unfinished = finished ∙ unfinished;
  reached = at-most (from_of p.coupled) (until_of p.coupled) (from_of new) (until_of new) r.now until;
}
  where
    at-most : (a b c d : ℕ) → c ≡ max a b → d ≡ b → d ≤ c
    at-most a b c d e same = omega (arith, e, same)

-- what came back or stands before a barrier is known: the queue is empty, so it is not full
pub known-of : (h : Header) (p : ReplayState) (trace : List TraceLine) (run : Run) → IsResting h p trace run → IsKnown p.ahead
known-of h p trace run r = λ e. open-ahead (waiting h (offered trace) (controller_steps trace run)) (length (offered trace)) r.none_waits (subst (λ a. IsOffered h trace run (following a)) e r.filled)
  where
    open-ahead : (ws : List Waiting) (n : ℕ) → ws ≡ [] → IsFull n ws ⊎ IsStopped (following Unknown) → ⊥
    open-ahead [] n e (inl (inl full)) = cc
    open-ahead [] n e (inl (inr full)) = cc
    open-ahead [] n e (inr stopped) = stopped
    open-ahead (w ∷ ws) n e stopped = cc

-- ---- No line is left

-- once no more requests come, no line is left
ended-of : (p : ReplayState) (trace : List TraceLine) (run : Run) (h : Header) (now : ℕ) (a : Ahead) → finished_of p.coupled ≡ true → IsAhead p trace run h now a → following a ≡ Ended
ended-of p trace run h now Unknown is ahead = cc
ended-of p trace run h now (NextLine line) is ahead = let e : finished_of p.coupled ≡ false = ahead.0 in cc
ended-of p trace run h now (Passes clocks) is ahead = let e : finished_of p.coupled ≡ false = ahead.0 in cc
ended-of p trace run h now End is ahead = refl
ended-of p trace run h now (Refused reason) is ahead = refl

none-passing : (a : Ahead) → following a ≡ Ended → passing a ≡ 0
none-passing Unknown e = cc
none-passing (NextLine line) e = cc
none-passing (Passes clocks) e = cc
none-passing End e = refl
none-passing (Refused reason) e = refl

-- where the run may end, it keeps the page and is short
ended-run : EndLaws → (h : Header) (p : ReplayState) (trace : List TraceLine) (run : Run) (k : LoopInvariant h p trace run) → following p.ahead ≡ Ended → broken_at_end h (from_of p.coupled) (log_of run) ≡ None → IsEnded h trace run (from_of p.coupled)
ended-run laws h p trace run k last rules =
    let idle : ℕ = p.tally.clocks + passing p.ahead in
    let stands : ControllerFor h (controller_of p.coupled) (offered trace) idle (controller_steps trace run) = controls laws.issue_laws.agrees h p trace run k in
    let total : idle ≡ sum (idle_clocks trace) = let none = none-passing p.ahead last in omega (arith, none, k.follows.tally.clocks) in
    record {
      rules = rules;
      page = ap keeps_page (sym (laws.issue_laws.log_is trace run)) ∙ laws.page h (controller_of p.coupled) (offered trace) idle (controller_steps trace run) stands;
      short = laws.short h trace run idle (from_of p.coupled) total
          (laws.acts h (controller_of p.coupled) (offered trace) idle (controller_steps trace run) stands)
          (laws.soon h (controller_of p.coupled) (offered trace) idle (controller_steps trace run) stands)
          (laws.places_few h (controller_of p.coupled) (offered trace) idle (controller_steps trace run) stands);
    }

pub done-of : EndLaws → (h : Header) (p : ReplayState) (new : Coupled) (trace : List TraceLine) (run : Run) (k : LoopInvariant h p trace run) → until_of new ≡ until_of p.coupled → finished_of new ≡ finished_of p.coupled
    → finished_of p.coupled ≡ true → Rests (from_of p.coupled) (until_of p.coupled) h new (offered trace) (p.tally.clocks + passing p.ahead) k.both.steps
    → broken_at_end h (max (from_of p.coupled) (until_of p.coupled)) (delivered_log k.both.steps) ≡ None → IsDone h (record p { coupled = new }) trace run
done-of laws h p new trace run k until finished is r rules =
    let f = k.follows in
    let q : ReplayState = record p { coupled = new } in
    let holds : LoopInvariant h q trace run = rested-holds h p new trace run k until finished r in
    let last : following p.ahead ≡ Ended = ended-of p trace run h f.now p.ahead is f.ahead in
    let under : IsUnderway h trace f.done f.now run Ended = subst (λ a. IsUnderway h trace f.done f.now run a) last f.underway in
    let same : delivered_log k.both.steps ≡ log_of run = same-log laws.issue_laws.one_log laws.issue_laws.log_is h p trace run k in
    let ends : broken_at_end h (from_of new) (log_of run) ≡ None = ap (λ n. broken_at_end h n (log_of run)) r.now ∙ ap (broken_at_end h (max (from_of p.coupled) (until_of p.coupled))) (sym same) ∙ rules in
    record {
      holds = holds;
      last = last;
      finished = laws.finishes h trace f.done f.now (from_of new) run under (none-waits h p new trace run k r) (past-of f.now (from_of p.coupled) (until_of p.coupled) (from_of new) f.past r.now) (ended-run laws h q trace run holds last ends);
    }
  where
    past-of : (now a b c : ℕ) → now ≤ a → c ≡ max a b → now ≤ c
    past-of now a b c low e = omega (arith, low, e)

-- ---- What a turn leaves

pub turned-of : EndLaws → (h : Header) (p : ReplayState) (new : Coupled) (trace : List TraceLine) (run : Run) (turn : Turn) (k : LoopInvariant h p trace run) → IsOffered h trace run (following p.ahead) → IsSpelled turn
    → until_of new ≡ until_of p.coupled → finished_of new ≡ finished_of p.coupled
    → After turn (from_of p.coupled) (until_of p.coupled) (finished_of p.coupled) h new (offered trace) (p.tally.clocks + passing p.ahead) k.both.steps → Turned turn h (record p { coupled = new }) trace run
turned-of laws h p new trace run (Issue clock command id) k filled spelled until finished a = issuing-of laws.issue_laws h p new trace run clock command id k filled spelled until finished a
turned-of laws h p new trace run Idle k filled spelled until finished a = resting-of h p new trace run k filled until finished a.1 a.0
turned-of laws h p new trace run Done k filled spelled until finished a = done-of laws h p new trace run k until finished a.1 a.0 a.2

-- ---- Of what was read and written

under-turned : (h : Header) (p q : ReplayState) (start left before written : Option (List ℕ)) (u : IsUnder h p start left before written) → q.ahead ≡ p.ahead → LoopInvariant h q u.trace u.run → IsUnder h q start left before written
under-turned h p q start left before written u ahead k = record {
  trace = u.trace;
  run = u.run;
  holds = k;
  read = subst (λ v. IsRead (shape_of h) u.trace v start left) (sym ahead) u.read;
  wrote = u.wrote;
}

pub at-rest-of : (h : Header) (p q : ReplayState) (start left before written : Option (List ℕ)) (u : IsUnder h p start left before written) → q.ahead ≡ p.ahead → IsResting h q u.trace u.run → IsAtRest h q start left before written
unfolding under-turned
at-rest-of h p q start left before written u ahead r = record { under = under-turned h p q start left before written u ahead r.holds; rests = r }

pub over-of : (h : Header) (p q : ReplayState) (start left before written : Option (List ℕ)) (u : IsUnder h p start left before written) → q.ahead ≡ p.ahead → IsDone h q u.trace u.run → IsOver h q start left before written
unfolding under-turned
over-of h p q start left before written u ahead d = record { under = under-turned h p q start left before written u ahead d.holds; finished = d.finished; last = d.last }
