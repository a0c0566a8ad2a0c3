-- A replay under way: what was read, and what a line more changes.
use Rattle.std.proofs.Common.{◌≡◌, ◌∙◌, ℕ, ◌+◌, ◌≤◌, Bool, true, false, Option, Some, None, IfSome, List, [], ◌∷◌, ◌++◌, length, refl, sym, ap, subst, arith, append_assoc}
use Rattle.std.specs.Io.KnownBytes.{Keeps}
use Rattle.std.proofs.lemmas.List.Splits.{slice_split_none}
use Rattle.command_words.specs.Geometry.{Shape}
use Rattle.speed_bin.specs.declared.header.Header.{Header}
use Rattle.ddr_io.specs.Line.{HasNoFeed, next_bytes}
use Rattle.ddr_text.specs.Opening.{is_feed, parts_of}
use Rattle.ddr_text.specs.declared.lines.TraceLine.{TraceLine}
use Rattle.requests.specs.Queue.{waiting}
use Rattle.speed_bin.specs.Header.{shape_of}
use Rattle.requests.specs.declared.request.Request.{Request as Asked}
use Rattle.reports.specs.Requests.{requests}
use Rattle.reports.specs.Runs.{Run, unserved}
use Rattle.reports.specs.Offered.{offered, controller_steps}
use Rattle.reports.specs.Sound.{Sound}
use Rattle.reports.specs.Underway.{Ahead as Following, Unknown as UnknownLine, IsUnderway}
use Rattle.scheduler.specs.Controller.{StandsFor as ControllerFor}
use Rattle.scheduler.specs.declared.state.State.{State as Controller}
use Rattle.requests.specs.Queue.{Step as NumberedStep}
use Rattle.trace_replay.specs.Coupled.{Step, StandsFor, pending_of, controller_of, with_pending, finished_of, controller_steps as numbered_steps}
use Rattle.trace_replay.specs.declared.ends.Ends.{Ends as Coupled}
use Rattle.trace_replay.specs.Job.{MOST, trace_from, trace_of, ended, refused_behind, at_end}
use Rattle.trace_replay.specs.Reading.{IsTally, IsNext, MayStand, Continues, Ends, IsRead, IsTakenBy}
use Rattle.trace_replay.specs.ReplayState.{following, passing, found_as, LoopInvariant, IsUnder, IsStoppedByReadFault, IsAhead, MayGoOn, tally_with, rest_of, left_of}
use Rattle.trace_replay.specs.declared.replay_state.Ahead.{Ahead}
use Rattle.trace_replay.specs.declared.replay_state.Ahead.TheVariants.{Unknown, NextLine, Passes, End, Refused}
use Rattle.trace_replay.specs.declared.replay_state.ReplayState.{ReplayState}
use Rattle.ddr_io.specs.declared.line_reader.Line.{Line}
use Rattle.trace_replay.specs.declared.trace_lines.Tally.{Tally}
use Rattle.trace_replay.specs.declared.trace_lines.Next.{Next}
use Rattle.trace_replay.specs.declared.trace_lines.Next.TheVariants.{Found, End as NoLine, Refused as RefusedLine}
use Rattle.ddr_text.proofs.LineParts.{no_feeds}

-- ---- Bytes

pub continues-trans : (g : Shape) (a b c : List TraceLine) (start old new : Option (List ℕ)) → Continues g a start b old → Continues g b old c new → Continues g a start c new
continues-trans g a b c None old new h k = tt
continues-trans g a b c (Some bytes) None new h k = absurd h
continues-trans g a b c (Some bytes) (Some rest) None h k = absurd k
continues-trans g a b c (Some bytes) (Some rest) (Some last) h k = (
  h.0 ++ k.0,
  h.1 ∙ ap (λ l. h.0 ++ l) k.1 ∙ sym (append_assoc h.0 k.0 last),
  λ more. ap (λ l. trace_from g a (parts_of l)) (append_assoc h.0 k.0 more) ∙ h.2 (k.0 ++ more) ∙ k.2 more,
)

ends-from : (g : Shape) (trace : List TraceLine) (start old new : Option (List ℕ)) → Continues g [] start trace old → Ends g trace old new → IfSome start (λ bytes. (trace_of g bytes ≡ ended trace) × (new ≡ Some []))
ends-from g trace None old new h k = tt
ends-from g trace (Some bytes) None new h k = absurd h
ends-from g trace (Some bytes) (Some rest) new h k = (ap (λ l. trace_from g [] (parts_of l)) h.1 ∙ h.2 rest ∙ k.0, k.1)

refused-from : (g : Shape) (trace : List TraceLine) (reason : ℕ) (start old : Option (List ℕ)) → Continues g [] start trace old → IfSome old (λ bytes. trace_from g trace (parts_of bytes) ≡ refused_behind trace reason) → IfSome start (λ bytes. trace_of g bytes ≡ refused_behind trace reason)
refused-from g trace reason None old h k = tt
refused-from g trace reason (Some bytes) None h k = absurd h
refused-from g trace reason (Some bytes) (Some rest) h k = ap (λ l. trace_from g [] (parts_of l)) h.1 ∙ h.2 rest ∙ k

pub read-next : (g : Shape) (trace : List TraceLine) (start old new : Option (List ℕ)) (next : Next) → Continues g [] start trace old → IsNext g trace old new next → IsRead g trace (found_as next) start new
read-next g trace start old new (Found line) h k = continues-trans g [] trace (trace ++ line ∷ []) start old new h k
read-next g trace start old new NoLine h k = ends-from g trace start old new h k
read-next g trace start old new (RefusedLine reason) h k = refused-from g trace reason start old h k

-- what has no line feed is no line
end-lines : (trace : List TraceLine) (part : List ℕ) → (at_end trace part).lines ≡ trace
end-lines trace [] = refl
end-lines trace (byte ∷ bytes) = refl

taken-all : (g : Shape) (trace : List TraceLine) (start old : Option (List ℕ)) (held : List ℕ) (left : Option (List ℕ)) → HasNoFeed held → Continues g [] start trace old → Keeps old (next_bytes held left) → IsTakenBy g trace start left
unfolding parts_of
taken-all g trace None old held left clean h k = tt
taken-all g trace (Some bytes) None held left clean h k = absurd h
taken-all g trace (Some bytes) (Some rest) held None clean h k = absurd k
taken-all g trace (Some bytes) (Some rest) held (Some last) clean h k = (
  h.0 ++ held,
  h.1 ∙ ap (λ l. h.0 ++ l) (sym k) ∙ sym (append_assoc h.0 held last),
  ap (λ t. t.lines) (h.2 held ∙ ap (trace_from g trace) (slice_split_none is_feed held (no_feeds held clean))) ∙ end-lines trace held,
)

-- ---- The line ahead

-- what holds of every controller
abbrev pub Agrees : Type 0
Agrees = (c : Coupled) (h : Header) (offers : List Asked) (idle : ℕ) (steps : List Step) → StandsFor c h offers idle steps → ControllerFor h (controller_of c) offers idle (with_pending (pending_of c) (numbered_steps steps))

abbrev pub Few : Type 0
Few = (h : Header) (c : Controller) (offers : List Asked) (idle : ℕ) (log : List NumberedStep) → ControllerFor h c offers idle log → length (waiting h offers log) ≤ 32

abbrev pub Counts : Type 0
Counts = (h : Header) (trace : List TraceLine) (run : Run) → Sound h trace run → length (waiting h (offered trace) (controller_steps trace run)) ≡ length (unserved (requests trace) run)

pub few-wait : Agrees → Few → (h : Header) (p : ReplayState) (trace : List TraceLine) (run : Run) → LoopInvariant h p trace run → length (waiting h (offered trace) (controller_steps trace run)) ≤ 32
few-wait agrees few h p trace run k =
    let same : with_pending (pending_of p.coupled) (numbered_steps k.both.steps) ≡ controller_steps trace run = ap (λ o. with_pending o (numbered_steps k.both.steps)) k.none_pending ∙ k.both.are_of.controller in
    let stands = subst (λ l. ControllerFor h (controller_of p.coupled) (offered trace) (p.tally.clocks + passing p.ahead) l) same (agrees p.coupled h (offered trace) (p.tally.clocks + passing p.ahead) k.both.steps k.both.stands) in
    few h (controller_of p.coupled) (offered trace) (p.tally.clocks + passing p.ahead) (controller_steps trace run) stands

pub left-off : Agrees → Few → Counts → (h : Header) (p : ReplayState) (start old before written : Option (List ℕ)) (held : List ℕ) (left : Option (List ℕ)) → p.ahead ≡ Unknown → IsUnder h p start old before written → HasNoFeed held × Keeps old (next_bytes held left) → IsStoppedByReadFault h start left before written
left-off agrees few counts h p start old before written held left e u k =
    let f = u.holds.follows in
    let read : Continues (shape_of h) [] start u.trace old = subst (λ a. IsRead (shape_of h) u.trace a start old) e u.read in
    record {
      trace = u.trace;
      run = u.run;
      traced = f.traced;
      sound = f.underway.sound;
      read = taken-all (shape_of h) u.trace start old held left k.0 read k.1;
      few = omega (arith, few-wait agrees few h p u.trace u.run u.holds, counts h u.trace u.run f.underway.sound);
      wrote = u.wrote;
    }

abbrev pub GoesOnWith : Type 0
GoesOnWith = (h : Header) (trace : List TraceLine) (n now : ℕ) (run : Run) (ahead : Following) → IsUnderway h trace n now run UnknownLine → IsUnderway h trace n now run ahead

ahead-next : (h : Header) (p : ReplayState) (trace : List TraceLine) (run : Run) (now : ℕ) (next : Next) → finished_of p.coupled ≡ false → MayStand p.g p.tally next → IsAhead (record p { ahead = found_as next }) trace run h now (found_as next)
ahead-next h p trace run now (Found line) e m = (e, m)
ahead-next h p trace run now NoLine e m = tt
ahead-next h p trace run now (RefusedLine reason) e m = tt

none-passes : (next : Next) → passing (found_as next) ≡ 0
none-passes (Found line) = refl
none-passes NoLine = refl
none-passes (RefusedLine reason) = refl

pub looked : GoesOnWith → (h : Header) (p : ReplayState) (next : Next) (start old new before written : Option (List ℕ)) → p.ahead ≡ Unknown → ((trace : List TraceLine) → IsTally p.tally trace → IsNext p.g trace old new next) → MayStand p.g p.tally next → IsUnder h p start old before written
    → IsUnder h (record p { ahead = found_as next }) start new before written
looked goes h p next start old new before written e found may u =
    let f = u.holds.follows in
    let was : IsAhead p u.trace u.run h f.now Unknown = subst (λ a. IsAhead p u.trace u.run h f.now a) e f.ahead in
    let under : IsUnderway h u.trace f.done f.now u.run UnknownLine = subst (λ a. IsUnderway h u.trace f.done f.now u.run (following a)) e f.underway in
    let read : Continues (shape_of h) [] start u.trace old = subst (λ a. IsRead (shape_of h) u.trace a start old) e u.read in
    let clocks : p.tally.clocks + passing p.ahead ≡ p.tally.clocks + passing (found_as next) = ap (λ n. p.tally.clocks + n) (ap passing e ∙ sym (none-passes next)) in
    record {
      trace = u.trace;
      run = u.run;
      holds = record {
        follows = record {
          accepted = f.accepted;
          geometry = f.geometry;
          traced = f.traced;
          tally = f.tally;
          kept = f.kept;
          done = f.done;
          now = f.now;
          underway = goes h u.trace f.done f.now u.run (following (found_as next)) under;
          past = f.past;
          ahead = ahead-next h p u.trace u.run f.now next was may;
        };
        both = record {
          steps = u.holds.both.steps;
          are_of = u.holds.both.are_of;
          stands = subst (λ n. StandsFor p.coupled h (offered u.trace) n u.holds.both.steps) clocks u.holds.both.stands;
        };
        none_pending = u.holds.none_pending;
        last = u.holds.last;
        commands = u.holds.commands;
        counts = u.holds.counts;
      };
      read = read-next (shape_of h) u.trace start old new next read (subst (λ g. IsNext g u.trace old new next) f.geometry (found u.trace f.tally));
      wrote = u.wrote;
    }

rest-next : (b : Bool) (next : Next) → rest_of b (found_as next) ≡ rest_of b Unknown
rest-next true next = refl
rest-next false (Found line) = refl
rest-next false NoLine = refl
rest-next false (RefusedLine reason) = refl

pub left-next : (p : ReplayState) (next : Next) → p.ahead ≡ Unknown → left_of (record p { ahead = found_as next }) ≤ left_of p
unfolding left_of
left-next p next e =
    let r : rest_of (finished_of p.coupled) (found_as next) ≡ rest_of (finished_of p.coupled) p.ahead = rest-next (finished_of p.coupled) next ∙ ap (rest_of (finished_of p.coupled)) (sym e) in
    omega (arith, r)

-- ---- A request more

rest-taken : (b : Bool) (line : TraceLine) → rest_of b Unknown ≡ rest_of b (NextLine line)
rest-taken true line = refl
rest-taken false line = refl

pub left-offered : (old new : ReplayState) (line : TraceLine) (b : Bool) → old.ahead ≡ NextLine line → (b ≡ true → new.tally ≡ tally_with old.tally 0) → (b ≡ true → new.ahead ≡ Unknown) → new.commands ≡ old.commands
    → finished_of new.coupled ≡ finished_of old.coupled → (b ≡ false → new ≡ old) → left_of new ≤ left_of old
unfolding left_of
left-offered old new line true was tally ahead commands finished same =
    let lines : new.tally.lines ≡ old.tally.lines + 1 = ap (λ (t : Tally). t.lines) (tally refl) in
    let rest : rest_of (finished_of new.coupled) new.ahead ≡ rest_of (finished_of old.coupled) old.ahead
    = ap (rest_of (finished_of new.coupled)) (ahead refl) ∙ ap (λ b. rest_of b Unknown) finished ∙ rest-taken (finished_of old.coupled) line ∙ ap (rest_of (finished_of old.coupled)) (sym was) in
    omega (arith, lines, rest, commands)
left-offered old new line false was tally ahead commands finished same = let e = ap left_of (same refl) in omega (arith, e)

pub goes-offered : (old new : ReplayState) (line : TraceLine) (b : Bool) (last : Line) → old.ahead ≡ NextLine line → (b ≡ true → new.ahead ≡ Unknown) → (b ≡ false → new ≡ old) → MayGoOn old.ahead last → MayGoOn new.ahead last
goes-offered old new line true last was ahead same m = subst (λ a. MayGoOn a last) (sym (ahead refl)) (subst (λ a. MayGoOn a last) was m)
goes-offered old new line false last was ahead same m = subst (λ (q : ReplayState). MayGoOn q.ahead last) (sym (same refl)) m

-- of bytes that are not known nothing is said
read-none : (g : Shape) (trace : List TraceLine) (ahead : Ahead) (left : Option (List ℕ)) → IsRead g trace ahead None left
read-none g trace Unknown left = tt
read-none g trace (NextLine line) left = tt
read-none g trace (Passes clocks) left = tt
read-none g trace End left = tt
read-none g trace (Refused reason) left = tt

pub under-none : (h : Header) (p : ReplayState) (trace : List TraceLine) (run : Run) (left : Option (List ℕ)) → LoopInvariant h p trace run → IsUnder h p None left None None
under-none h p trace run left k = record { trace = trace; run = run; holds = k; read = read-none (shape_of h) trace p.ahead left; wrote = tt }

pub under-lines : (h : Header) (p : ReplayState) (start left before written : Option (List ℕ)) → IsUnder h p start left before written → p.tally.lines ≤ MOST
under-lines h p start left before written u = omega (arith, u.holds.follows.traced.few, u.holds.follows.tally.lines)
