-- An idle turn: the line ahead is carried out, or the end is announced.
use Rattle.std.proofs.Common.{◌≡◌, ◌∙◌, ℕ, ◌+◌, ◌-◌, ◌<◌, ◌≤◌, Bool, true, false, Option, Some, List, [], ◌∷◌, ◌++◌, map, length, slice_get, cond, sum, refl, sym, ap, subst, arith, append-nil, zero-add, length-append}
use Rattle.std.specs.List.{flat_map}
use Rattle.std.specs.Io.KnownBytes.{Appends}
use Rattle.std.proofs.KnownBytes.{Appends-trans}
use Rattle.std.proofs.lemmas.List.Sums.{sum_by-append}
use Rattle.speed_bin.specs.Header.{shape_of}
use Rattle.speed_bin.specs.declared.header.Header.{Header}
use Rattle.ddr_io.specs.Sink.{AppendsPrefix}
use Rattle.ddr_text.specs.Spelling.{spelled}
use Rattle.ddr_text.specs.declared.lines.TraceLine.{TraceLine}
use Rattle.ddr_text.specs.declared.lines.TraceLine.TheVariants.{Flip, Idle}
use Rattle.requests.specs.Queue.{waiting}
use Rattle.requests.specs.declared.request.Request.{Request as Asked}
use Rattle.reports.specs.Requests.{Request, request_of, requests}
use Rattle.reports.specs.Runs.{Run, Flips, log_of, is_served, ready, held}
use Rattle.reports.specs.Sound.{Sound}
use Rattle.trace_replay.proofs.Fronts.{front-with}
use Rattle.ddr_text.proofs.Prefixes.{prefix-behind}
use Rattle.trace_replay.proofs.Taken.{NoneHeld, get-last, InsideMore, StepsLonger, Laws-longer, ReportLonger, Parts, requests-more_of, kept-longer}
use Rattle.reports.specs.Barriers.{idle_clocks}
use Rattle.reports.specs.Delivered.{device_steps}
use Rattle.reports.specs.Report.{report, latest}
use Rattle.speed_bin.specs.Log.{last_clock}
use Rattle.device_core.specs.Standing.{IsBit}
use Rattle.device_core.specs.Steps.{Flips as Turned}
use Rattle.command_words.specs.Place.{IsInside, place_of}
use Rattle.command_words.specs.declared.geometry.Place.{Place}
use Rattle.ddr_text.specs.declared.lines.ReportLine.TheVariants.{Flip as FlipLine}
use Rattle.std.proofs.lemmas.Grind.{flat_map-append}
use Rattle.reports.specs.Offered.{offered, controller_steps}
use Rattle.reports.specs.Underway.{Ahead as Following, Unknown as UnknownLine, Next as NextLine, Ended, IsUnderway}
use Rattle.trace_replay.specs.Coupled.{Step, Flips as Turns, StandsFor, pending_of, from_of, until_of, finished_of}
use Rattle.trace_replay.specs.declared.ends.Ends.{Ends as Coupled}
use Rattle.trace_replay.specs.Job.{MOST, IsTrace}
use Rattle.trace_replay.specs.Reading.{IsMore, IsRead}
use Rattle.trace_replay.specs.ReplayState.{following, passing, taken, kept_as, kept_of, Follows, LoopInvariant, IsUnder, IsResting, IsAtRest, IsBegun, IsAhead, rest_of, left_of}
use Rattle.trace_replay.specs.declared.trace_lines.Tally.{Tally}
use Rattle.trace_replay.specs.declared.replay_state.Ahead.{Ahead}
use Rattle.trace_replay.specs.declared.replay_state.Ahead.TheVariants.{Unknown, NextLine, Passes, End, Refused}
use Rattle.trace_replay.specs.declared.replay_state.ReplayState.{ReplayState}

-- ---- The end is announced

over-ahead : (p q : ReplayState) (trace : List TraceLine) (run : Run) (h : Header) (now : ℕ) (a : Ahead) → following a ≡ Ended → IsAhead q trace run h now a
over-ahead p q trace run h now Unknown e = cc
over-ahead p q trace run h now (NextLine line) e = cc
over-ahead p q trace run h now (Passes clocks) e = cc
over-ahead p q trace run h now End e = tt
over-ahead p q trace run h now (Refused reason) e = tt

pub finished-under : (h : Header) (p : ReplayState) (ended : Coupled) (start left before written : Option (List ℕ)) → following p.ahead ≡ Ended
    → ((offers : List Asked) (idle : ℕ) (steps : List Step) → StandsFor p.coupled h offers idle steps → StandsFor ended h offers idle steps)
    → pending_of ended ≡ pending_of p.coupled → from_of ended ≡ from_of p.coupled → IsUnder h p start left before written → IsUnder h (record p { coupled = ended }) start left before written
finished-under h p ended start left before written e stands pending from u =
    let k = u.holds in
    let f = k.follows in
    record {
      trace = u.trace;
      run = u.run;
      holds = record {
        follows = record {
          accepted = f.accepted;
          geometry = f.geometry;
          traced = f.traced;
          tally = f.tally;
          kept = f.kept;
          done = f.done;
          now = f.now;
          underway = f.underway;
          past = omega (arith, f.past, from);
          ahead = over-ahead p (record p { coupled = ended }) u.trace u.run h f.now p.ahead e;
        };
        both = record { steps = k.both.steps; are_of = k.both.are_of; stands = stands (offered u.trace) (p.tally.clocks + passing p.ahead) k.both.steps k.both.stands };
        none_pending = pending ∙ k.none_pending;
        last = k.last;
        commands = k.commands;
        counts = k.counts;
      };
      read = u.read;
      wrote = u.wrote;
    }

rest-end : (a : Ahead) → following a ≡ Ended → rest_of false a ≡ 2
rest-end Unknown e = cc
rest-end (NextLine line) e = cc
rest-end (Passes clocks) e = cc
rest-end End e = refl
rest-end (Refused reason) e = refl

pub left-finished : (p : ReplayState) (ended : Coupled) → following p.ahead ≡ Ended → finished_of p.coupled ≡ false → finished_of ended ≡ true → left_of (record p { coupled = ended }) < left_of p
unfolding left_of
left-finished p ended e was is =
    let a : rest_of (finished_of ended) p.ahead ≡ 0 = ap (λ b. rest_of b p.ahead) is in
    let b : rest_of (finished_of p.coupled) p.ahead ≡ 2 = ap (λ b. rest_of b p.ahead) was ∙ rest-end p.ahead e in
    omega (arith, a, b)

-- ---- Clocks pass

pub idled-under : ((h : Header) (trace : List TraceLine) (n now later : ℕ) (run : Run) (ahead : Following) → IsUnderway h trace n now run ahead → now ≤ later → IsUnderway h trace n later run ahead)
    → (h : Header) (p : ReplayState) (idled : Coupled) (clocks : ℕ) (start left before written : Option (List ℕ)) → p.ahead ≡ NextLine (Idle clocks)
    → ((offers : List Asked) (idle : ℕ) (steps : List Step) → StandsFor p.coupled h offers idle steps → StandsFor idled h offers (idle + clocks) steps)
    → pending_of idled ≡ pending_of p.coupled → from_of idled ≡ from_of p.coupled → until_of idled ≡ from_of p.coupled + clocks → finished_of idled ≡ finished_of p.coupled
    → IsAtRest h p start left before written → IsUnder h (record p { coupled = idled; ahead = Passes clocks }) start left before written
idled-under later h p idled clocks start left before written e stands pending from until finished a =
    let u = a.under in
    let k = u.holds in
    let f = k.follows in
    let was : IsAhead p u.trace u.run h f.now (NextLine (Idle clocks)) = subst (λ v. IsAhead p u.trace u.run h f.now v) e f.ahead in
    let none : passing p.ahead ≡ 0 = ap passing e in
    let total : p.tally.clocks + passing p.ahead + clocks ≡ p.tally.clocks + clocks = omega (arith, none) in
    record {
      trace = u.trace;
      run = u.run;
      holds = record {
        follows = record {
          accepted = f.accepted;
          geometry = f.geometry;
          traced = f.traced;
          tally = f.tally;
          kept = f.kept;
          done = f.done;
          now = from_of p.coupled;
          underway = later h u.trace f.done f.now (from_of p.coupled) u.run (NextLine (Idle clocks)) (subst (λ v. IsUnderway h u.trace f.done f.now u.run (following v)) e f.underway) f.past;
          past = omega (arith, from);
          ahead = (finished ∙ was.0, was.1, a.rests.none_waits, until);
        };
        both = record {
          steps = k.both.steps;
          are_of = k.both.are_of;
          stands = subst (λ n. StandsFor idled h (offered u.trace) n k.both.steps) total (stands (offered u.trace) (p.tally.clocks + passing p.ahead) k.both.steps k.both.stands);
        };
        none_pending = pending ∙ k.none_pending;
        last = k.last;
        commands = k.commands;
        counts = k.counts;
      };
      read = subst (λ v. IsRead (shape_of h) u.trace v start left) e u.read;
      wrote = u.wrote;
    }

pub left-idled : (p q : ReplayState) (clocks : ℕ) → p.ahead ≡ NextLine (Idle clocks) → q.ahead ≡ Passes clocks → q.tally ≡ p.tally → q.commands ≡ p.commands → finished_of q.coupled ≡ finished_of p.coupled → finished_of p.coupled ≡ false → left_of q < left_of p
unfolding left_of
left-idled p q clocks e is tally commands finished was =
    let a : rest_of (finished_of q.coupled) q.ahead ≡ 1 = ap (rest_of (finished_of q.coupled)) is ∙ ap (λ b. rest_of b (Passes clocks)) (finished ∙ was) in
    let b : rest_of (finished_of p.coupled) p.ahead ≡ 2 = ap (rest_of (finished_of p.coupled)) e ∙ ap (λ b. rest_of b (NextLine (Idle clocks))) was in
    let lines : q.tally.lines ≡ p.tally.lines = ap (λ (t : Tally). t.lines) tally in
    omega (arith, a, b, lines, commands)

-- ---- An I line is done

abbrev pub Waited : Type 0
Waited = (h : Header) (trace : List TraceLine) (n now later : ℕ) (run : Run) (clocks : ℕ) → IsUnderway h trace n now run (NextLine (Idle clocks)) → waiting h (offered trace) (controller_steps trace run) ≡ [] → now + clocks ≤ later
    → IsUnderway h (trace ++ Idle clocks ∷ []) (1 + length trace) later run UnknownLine

pub record IdleLaws : Type 0 where
  pub waited : Waited
  pub offers : (trace : List TraceLine) (clocks : ℕ) → offered (trace ++ Idle clocks ∷ []) ≡ offered trace
  pub idle : (trace : List TraceLine) (clocks : ℕ) → idle_clocks (trace ++ Idle clocks ∷ []) ≡ idle_clocks trace ++ clocks ∷ []
  pub inside : InsideMore
  pub steps : StepsLonger
  pub device : Laws-longer
  pub report_is : ReportLonger
  pub parts : Parts

sum-append : (xs ys : List ℕ) → sum (xs ++ ys) ≡ sum xs + sum ys
sum-append xs ys = sum_by-append (λ x. x) xs ys

sum-last : (xs : List ℕ) (n : ℕ) → sum (xs ++ n ∷ []) ≡ sum xs + n
sum-last xs n = sum-append xs (n ∷ []) ∙ ap (λ m. sum xs + m) (zero-add n)

-- a line that asks for nothing leaves what is kept
pub kept-same : Laws-longer → Parts → (h : Header) (trace : List TraceLine) (t : TraceLine) (run : Run) → Sound h trace run → request_of (1 + length trace) t ≡ [] → kept_of h trace run (length (ready (requests trace) run)) (held (requests trace) run)
    ≡ kept_of h (trace ++ t ∷ []) run (length (ready (requests (trace ++ t ∷ [])) run)) (held (requests (trace ++ t ∷ [])) run)
kept-same device parts h trace t run sound none =
    let same : requests trace ≡ requests (trace ++ t ∷ []) = sym (requests-more_of 1 trace t (1 + length trace) refl ∙ ap (λ l. requests trace ++ l) none ∙ append-nil (requests trace)) in
    let olds : map (kept_as h trace run) (held (requests trace) run) ≡ map (kept_as h (trace ++ t ∷ []) run) (held (requests trace) run)
    = sym (kept-longer device h trace (t ∷ []) run (ready (requests trace) run) (held (requests trace) run) sound (sym (parts (requests trace) run))) in
    ap (λ l. record { first = length (ready (requests trace) run) + 1; items = l }) olds
    ∙ ap (λ rs. kept_of h (trace ++ t ∷ []) run (length (ready rs run)) (held rs run)) same

pub passed-under : IdleLaws → (h : Header) (p : ReplayState) (clocks : ℕ) (start left before written : Option (List ℕ)) → p.ahead ≡ Passes clocks → IsAtRest h p start left before written → IsUnder h (taken p clocks) start left before written
passed-under laws h p clocks start left before written e a =
    let u = a.under in
    let k = u.holds in
    let f = k.follows in
    let was : IsAhead p u.trace u.run h f.now (Passes clocks) = subst (λ v. IsAhead p u.trace u.run h f.now v) e f.ahead in
    let under : IsUnderway h u.trace f.done f.now u.run (NextLine (Idle clocks)) = subst (λ v. IsUnderway h u.trace f.done f.now u.run (following v)) e f.underway in
    let reached : f.now + clocks ≤ from_of p.coupled = omega (arith, was.3, a.rests.reached) in
    let sums : sum (idle_clocks (u.trace ++ Idle clocks ∷ [])) ≡ sum (idle_clocks u.trace) + clocks = ap sum (laws.idle u.trace clocks) ∙ sum-last (idle_clocks u.trace) clocks in
    let total : p.tally.clocks + passing p.ahead ≡ p.tally.clocks + clocks + 0 = let z : passing p.ahead ≡ clocks = ap passing e in omega (arith, z) in
    record {
      trace = u.trace ++ Idle clocks ∷ [];
      run = u.run;
      holds = record {
        follows = record {
          accepted = f.accepted;
          geometry = f.geometry;
          traced = record {
            inside = laws.inside (shape_of h) u.trace (Idle clocks) f.traced.inside tt;
            few = omega (arith, length-append u.trace (Idle clocks ∷ []), f.tally.lines, was.1.few);
            idle = omega (arith, sums, f.tally.clocks, was.1.idle);
          };
          tally = record { lines = omega (arith, length-append u.trace (Idle clocks ∷ []), f.tally.lines); clocks = omega (arith, sums, f.tally.clocks) };
          kept = f.kept ∙ kept-same laws.device laws.parts h u.trace (Idle clocks) u.run f.underway.sound refl;
          done = 1 + length u.trace;
          now = from_of p.coupled;
          underway = laws.waited h u.trace f.done f.now (from_of p.coupled) u.run clocks under was.2 reached;
          past = omega arith;
          ahead = was.0;
        };
        both = record {
          steps = k.both.steps;
          are_of = record {
            controller = k.both.are_of.controller ∙ sym (laws.steps h u.trace (Idle clocks ∷ []) u.run f.underway.sound);
            device = k.both.are_of.device ∙ sym (laws.device h u.trace (Idle clocks ∷ []) u.run f.underway.sound);
          };
          stands = subst (λ n. StandsFor p.coupled h (offered (u.trace ++ Idle clocks ∷ [])) n k.both.steps) total
              (subst (λ offers. StandsFor p.coupled h offers (p.tally.clocks + passing p.ahead) k.both.steps) (sym (laws.offers u.trace clocks)) k.both.stands);
        };
        none_pending = k.none_pending;
        last = k.last;
        commands = k.commands;
        counts = k.counts;
      };
      read = subst (λ v. IsRead (shape_of h) u.trace v start left) e u.read;
      wrote = subst (λ l. Appends before written (flat_map spelled l)) (sym (laws.report_is h u.trace (Idle clocks ∷ []) u.run f.underway.sound)) u.wrote;
    }

-- a line was taken: less is left
pub left-taken : (p q : ReplayState) → q.tally.lines ≡ p.tally.lines + 1 → q.commands ≡ p.commands → p.tally.lines < MOST → left_of q < left_of p
unfolding left_of
left-taken p q lines commands few = let a = most (finished_of q.coupled) q.ahead in omega (arith, a, lines, commands, few)
  where
    most : (b : Bool) (v : Ahead) → rest_of b v ≤ 2
    most true v = omega arith
    most false Unknown = omega arith
    most false (NextLine line) = omega arith
    most false (Passes clocks) = omega arith
    most false End = omega arith
    most false (Refused reason) = omega arith

-- ---- An F line is done

ready-flips : (rs : List Request) (n : ℕ) (run : Run) → ready rs (Flips n ∷ run) ≡ ready rs run
ready-flips [] n run = refl
ready-flips (r ∷ rs) n run = ap (λ l. cond (is_served r.number run) (r ∷ l) []) (ready-flips rs n run)

held-flips : (rs : List Request) (n : ℕ) (run : Run) → held rs (Flips n ∷ run) ≡ held rs run
held-flips [] n run = refl
held-flips (r ∷ rs) n run = ap (λ l. cond (is_served r.number run) l (r ∷ rs)) (held-flips rs n run)

pub record FlipLaws : Type 0 where
  pub kept : (h : Header) (trace : List TraceLine) (n now : ℕ) (run : Run) (line device bit : ℕ) → IsUnderway h trace n now run (NextLine (Flip line device bit)) → waiting h (offered trace) (controller_steps trace run) ≡ []
      → IsUnderway h (trace ++ Flip line device bit ∷ []) (1 + length trace) now (Flips (1 + length trace) ∷ run) UnknownLine
  pub offers : (trace : List TraceLine) (line device bit : ℕ) → offered (trace ++ Flip line device bit ∷ []) ≡ offered trace
  pub lines : (h : Header) (trace : List TraceLine) (run : Run) (line device bit : ℕ) → latest h (trace ++ Flip line device bit ∷ []) run (Flips (1 + length trace)) ≡ FlipLine (last_clock (log_of run)) line device bit ∷ []
  pub idle : (trace : List TraceLine) (line device bit : ℕ) → idle_clocks (trace ++ Flip line device bit ∷ []) ≡ idle_clocks trace
  pub inside : InsideMore
  pub steps : StepsLonger
  pub device : Laws-longer
  pub report_is : ReportLonger
  pub parts : Parts
  pub none_held : NoneHeld
  pub turns : (h : Header) (trace : List TraceLine) (run : Run) (number line device bit : ℕ) → slice_get trace (number - 1) ≡ Some (Flip line device bit) → device_steps h trace (Flips number ∷ run) ≡ Turned (place_of line (shape_of h)) device bit ∷ device_steps h trace run

pub flip-traced : FlipLaws → (h : Header) (p : ReplayState) (trace : List TraceLine) (run : Run) (line device bit : ℕ) → Follows h p trace run → IsMore (shape_of h) p.tally (Flip line device bit) → IsTrace (shape_of h) (trace ++ Flip line device bit ∷ [])
flip-traced laws h p trace run line device bit f m = record {
  inside = laws.inside (shape_of h) trace (Flip line device bit) f.traced.inside m.inside;
  few = omega (arith, length-append trace (Flip line device bit ∷ []), f.tally.lines, m.few);
  idle = let s = ap sum (laws.idle trace line device bit) in omega (arith, s, f.traced.idle);
}

pub flip-more : (h : Header) (p : ReplayState) (trace : List TraceLine) (run : Run) (line device bit : ℕ) → p.ahead ≡ NextLine (Flip line device bit) → Follows h p trace run → IsMore (shape_of h) p.tally (Flip line device bit)
flip-more h p trace run line device bit e f =
    let was : IsAhead p trace run h f.now (NextLine (Flip line device bit)) = subst (λ v. IsAhead p trace run h f.now v) e f.ahead in
    subst (λ g. IsMore g p.tally (Flip line device bit)) f.geometry was.1

-- its bit is one of the header that both ends hold
pub flip-bit : (h : Header) (p : ReplayState) (trace : List TraceLine) (run : Run) (own : Header) (place : Place) (line device bit : ℕ) → own ≡ h → p.ahead ≡ NextLine (Flip line device bit) → IsInside place p.g → Follows h p trace run
    → IsBit own place device bit
flip-bit h p trace run own place line device bit same e inside f =
    let more = flip-more h p trace run line device bit e f in
    subst (λ (x : Header). IsBit x place device bit) (sym same)
    (record { inside = subst (λ g. IsInside place g) f.geometry inside; of_four = more.inside.1; in_word = more.inside.2 })

pub flip-holds : FlipLaws → (h : Header) (p : ReplayState) (turned : Coupled) (place : Place) (trace : List TraceLine) (run : Run) (line device bit : ℕ) → p.ahead ≡ NextLine (Flip line device bit) → place ≡ place_of line p.g
    → ((offers : List Asked) (idle : ℕ) (steps : List Step) → StandsFor p.coupled h offers idle steps → StandsFor turned h offers idle (Turns place device bit ∷ steps))
    → pending_of turned ≡ pending_of p.coupled → from_of turned ≡ from_of p.coupled → finished_of turned ≡ finished_of p.coupled → IsResting h p trace run
    → LoopInvariant h (taken (record p { coupled = turned }) 0) (trace ++ Flip line device bit ∷ []) (Flips (1 + length trace) ∷ run)
flip-holds laws h p turned place trace run line device bit e at stands pending from finished a =
    let k = a.holds in
    let f = k.follows in
    let was : IsAhead p trace run h f.now (NextLine (Flip line device bit)) = subst (λ v. IsAhead p trace run h f.now v) e f.ahead in
    let more = flip-more h p trace run line device bit e f in
    let traced = flip-traced laws h p trace run line device bit f more in
    let under : IsUnderway h trace f.done f.now run (NextLine (Flip line device bit)) = subst (λ v. IsUnderway h trace f.done f.now run (following v)) e f.underway in
    let here : slice_get (trace ++ Flip line device bit ∷ []) (1 + length trace - 1) ≡ Some (Flip line device bit) = get-last trace (Flip line device bit) (1 + length trace - 1) (omega arith) in
    let placed : place ≡ place_of line (shape_of h) = at ∙ ap (place_of line) f.geometry in
    let total : p.tally.clocks + passing p.ahead ≡ p.tally.clocks + 0 + 0 = let z : passing p.ahead ≡ 0 = ap passing e in omega (arith, z) in
    let none : held (requests trace) run ≡ [] = laws.none_held h trace run f.underway.sound a.none_waits in
    let all : requests (trace ++ Flip line device bit ∷ []) ≡ requests trace = requests-more_of 1 trace (Flip line device bit) (1 + length trace) refl ∙ append-nil (requests trace) in
    let firsts : length (ready (requests trace) run) ≡ length (ready (requests (trace ++ Flip line device bit ∷ [])) (Flips (1 + length trace) ∷ run))
    = sym (ap (λ rs. length (ready rs (Flips (1 + length trace) ∷ run))) all ∙ ap length (ready-flips (requests trace) (1 + length trace) run)) in
    let nones : [] ≡ held (requests (trace ++ Flip line device bit ∷ [])) (Flips (1 + length trace) ∷ run) = sym (ap (λ rs. held rs (Flips (1 + length trace) ∷ run)) all ∙ held-flips (requests trace) (1 + length trace) run ∙ none) in
    record {
      follows = record {
        accepted = f.accepted;
        geometry = f.geometry;
        traced = traced;
        tally = record { lines = omega (arith, length-append trace (Flip line device bit ∷ []), f.tally.lines); clocks = let s = ap sum (laws.idle trace line device bit) in omega (arith, s, f.tally.clocks) };
        kept = f.kept ∙ ap (λ rs. kept_of h trace run (length (ready (requests trace) run)) rs) none
            ∙ ap (λ n. kept_of h (trace ++ Flip line device bit ∷ []) (Flips (1 + length trace) ∷ run) n []) firsts
            ∙ ap (λ rs. kept_of h (trace ++ Flip line device bit ∷ []) (Flips (1 + length trace) ∷ run) (length (ready (requests (trace ++ Flip line device bit ∷ [])) (Flips (1 + length trace) ∷ run))) rs) nones;
        done = 1 + length trace;
        now = f.now;
        underway = laws.kept h trace f.done f.now run line device bit under a.none_waits;
        past = omega (arith, f.past, from);
        ahead = finished ∙ was.0;
      };
      both = record {
        steps = Turns place device bit ∷ k.both.steps;
        are_of = record {
          controller = k.both.are_of.controller ∙ sym (laws.steps h trace (Flip line device bit ∷ []) run f.underway.sound);
          device = ap (λ l. Turned place device bit ∷ l) (k.both.are_of.device ∙ sym (laws.device h trace (Flip line device bit ∷ []) run f.underway.sound))
              ∙ ap (λ v. Turned v device bit ∷ device_steps h (trace ++ Flip line device bit ∷ []) run) placed
              ∙ sym (laws.turns h (trace ++ Flip line device bit ∷ []) run (1 + length trace) line device bit here);
        };
        stands = subst (λ n. StandsFor turned h (offered (trace ++ Flip line device bit ∷ [])) n (Turns place device bit ∷ k.both.steps)) total
            (subst (λ offers. StandsFor turned h offers (p.tally.clocks + passing p.ahead) (Turns place device bit ∷ k.both.steps)) (sym (laws.offers trace line device bit))
            (stands (offered trace) (p.tally.clocks + passing p.ahead) k.both.steps k.both.stands));
      };
      none_pending = pending ∙ k.none_pending;
      last = k.last;
      commands = k.commands;
      counts = k.counts;
    }

-- the F line behind the report so far
pub flip-report : FlipLaws → (h : Header) (p : ReplayState) (trace : List TraceLine) (run : Run) (line device bit : ℕ) → LoopInvariant h p trace run
    → flat_map spelled (report h (trace ++ Flip line device bit ∷ []) (Flips (1 + length trace) ∷ run)) ≡ flat_map spelled (report h trace run) ++ spelled (FlipLine p.last line device bit)
flip-report laws h p trace run line device bit k =
    ap (λ l. flat_map spelled (l ++ latest h (trace ++ Flip line device bit ∷ []) run (Flips (1 + length trace)))) (laws.report_is h trace (Flip line device bit ∷ []) run k.follows.underway.sound)
    ∙ ap (λ l. flat_map spelled (report h trace run ++ l)) (laws.lines h trace run line device bit)
    ∙ flat_map-append spelled (report h trace run) (FlipLine (last_clock (log_of run)) line device bit ∷ [])
    ∙ ap (λ l. flat_map spelled (report h trace run) ++ l) (append-nil (spelled (FlipLine (last_clock (log_of run)) line device bit)) ∙ ap (λ n. spelled (FlipLine n line device bit)) (sym k.last))

-- the F line is done, and its report line was written
pub flip-under : FlipLaws → (h : Header) (p : ReplayState) (turned : Coupled) (place : Place) (line device bit : ℕ) (start left before written after : Option (List ℕ)) → p.ahead ≡ NextLine (Flip line device bit) → place ≡ place_of line p.g
    → ((offers : List Asked) (idle : ℕ) (steps : List Step) → StandsFor p.coupled h offers idle steps → StandsFor turned h offers idle (Turns place device bit ∷ steps))
    → pending_of turned ≡ pending_of p.coupled → from_of turned ≡ from_of p.coupled → finished_of turned ≡ finished_of p.coupled
    → Appends written after (spelled (FlipLine p.last line device bit)) → IsAtRest h p start left before written → IsUnder h (taken (record p { coupled = turned }) 0) start left before after
flip-under laws h p turned place line device bit start left before written after e at stands pending from finished wrote a =
    let u = a.under in
    record {
      trace = u.trace ++ Flip line device bit ∷ [];
      run = Flips (1 + length u.trace) ∷ u.run;
      holds = flip-holds laws h p turned place u.trace u.run line device bit e at stands pending from finished a.rests;
      read = subst (λ v. IsRead (shape_of h) u.trace v start left) e u.read;
      wrote = subst (Appends before after) (sym (flip-report laws h p u.trace u.run line device bit u.holds))
          (Appends-trans before written after (flat_map spelled (report h u.trace u.run)) (spelled (FlipLine p.last line device bit)) u.wrote wrote);
    }

-- the F line is done, and of its report line a part was written
pub flip-begun : FlipLaws → (h : Header) (p : ReplayState) (line device bit : ℕ) (start left before written after : Option (List ℕ)) → p.ahead ≡ NextLine (Flip line device bit)
    → AppendsPrefix written after (spelled (FlipLine p.last line device bit)) → IsAtRest h p start left before written → IsBegun h start before after
flip-begun laws h p line device bit start left before written after e wrote a =
    let u = a.under in
    let f = u.holds.follows in
    let under : IsUnderway h u.trace f.done f.now u.run (NextLine (Flip line device bit)) = subst (λ v. IsUnderway h u.trace f.done f.now u.run (following v)) e f.underway in
    let next = laws.kept h u.trace f.done f.now u.run line device bit under a.rests.none_waits in
    record {
      trace = u.trace ++ Flip line device bit ∷ [];
      run = Flips (1 + length u.trace) ∷ u.run;
      traced = flip-traced laws h p u.trace u.run line device bit f (flip-more h p u.trace u.run line device bit e f);
      sound = next.sound;
      read = front-with (shape_of h) u.trace (Flip line device bit) start left (subst (λ v. IsRead (shape_of h) u.trace v start left) e u.read);
      wrote = subst (AppendsPrefix before after) (sym (flip-report laws h p u.trace u.run line device bit u.holds))
          (prefix-behind before written after (flat_map spelled (report h u.trace u.run)) (spelled (FlipLine p.last line device bit)) u.wrote wrote);
    }
