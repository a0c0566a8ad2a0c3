-- I lines: the idle target, and the waits up to it.
use Rattle.std.proofs.Common.{◌≡◌, ◌∙◌, ℕ, ◌+◌, ◌<◌, ◌≤◌, ◌^◌, max, refl, sym, ap, subst, arith, List, [], ◌∷◌, ◌++◌, length, sum, Option, Some, append-nil, if◌then◌else◌}
use Rattle.ddr_text.specs.declared.lines.TraceLine.{TraceLine}
use Rattle.ddr_text.specs.declared.lines.TraceLine.TheVariants.{Idle}
use Rattle.pair_deadlines.specs.Keeping.{Keeps, Resting}
use Rattle.rank_bus.specs.Buses.{is_same, part}
use Rattle.rank_bus.specs.Held.{Held as Bus}
use Rattle.rank_bus.specs.Standing.{StandsFor as BusFor, now_of}
use Rattle.rank_bus.specs.declared.rank.Rank.{Rank}
use Rattle.rank_bus.specs.declared.rank.Rank.TheVariants.{Zero, One}
use Rattle.refresh_plan.specs.Debts.{IsNothingDue}
use Rattle.reports.proofs.Found.{requests-append}
use Rattle.reports.proofs.Through.{through-idle}
use Rattle.reports.specs.Barriers.{idle_clocks}
use Rattle.reports.specs.Requests.{request_of, requests}
use Rattle.reports.specs.Runs.{IsThrough}
use Rattle.speed_bin.specs.Header.{shape_of}
use Rattle.speed_bin.specs.declared.header.Header.{Header}
use Rattle.pair_reports.proofs.Grown.{sound_longer}
use Rattle.pair_reports.specs.Lines.{deed_of, deeds, line_for, lines_of, only}
use Rattle.pair_reports.specs.Runs.{PairRun, bus_of, run_of, servings_of}
use Rattle.pair_reports.specs.declared.rank_line.RankLine.{RankLine}
use Rattle.rank_pair.specs.Accessing.{IsThere}
use Rattle.rank_pair.specs.DeadlineLaws.{DeadlineLaws}
use Rattle.rank_pair.specs.Idling.{IsDueAt}
use Rattle.rank_pair.specs.Job.{IsPairTrace}
use Rattle.rank_pair.specs.Pairs.{StandsFor}
use Rattle.rank_pair.specs.Under.{BothRest, IsDone, IsLogged, IsPaced, IsUnder, Mark, TimePasses, WorksForBoth, asked_in, idle_in}
use Rattle.rank_pair.specs.declared.pair.Pair.{Pair}
use Rattle.rank_pair.proofs.Apart.{paced_later, paced_more}
use Rattle.rank_pair.proofs.Columns.{before_it, there_for}
use Rattle.rank_pair.proofs.OneCommand.{with_bus}
use Rattle.rank_pair.proofs.Opens.{wrote_longer}
use Rattle.rank_pair.proofs.Placed.{stands_more}
use Rattle.rank_pair.proofs.Steps.{logged_later}
use Rattle.rank_pair.proofs.Traces.{asked_few, deeds_more, idle_sum, length_more, length_only, lines_more, only_more}

-- ---- The line

-- it is an I line for both ranks
idle_for : (r : Rank) (it : RankLine) (clocks : ℕ) → it.line ≡ Idle clocks → (k : ℕ) × (line_for r it ≡ Idle k)
idle_for r it clocks is = go r it.rank
  where
    go : (a b : Rank) → (k : ℕ) × ((if is_same a b then it.line else Idle 0) ≡ Idle k)
    go Zero Zero = (clocks, is)
    go Zero One = (0, refl)
    go One Zero = (0, refl)
    go One One = (clocks, is)

none_asked : (r : Rank) (front : List RankLine) (it : RankLine) (clocks : ℕ) → it.line ≡ Idle clocks → length (requests (only r (front ++ it ∷ []))) ≡ length (requests (only r front))
none_asked r front it clocks is =
    let k = idle_for r it clocks is in
    ap (λ (l : List TraceLine). length (requests l)) (only_more r front it)
    ∙ ap length (requests-append 1 (only r front) (line_for r it ∷ []) (1 + length front) (ap (λ (n : ℕ). 1 + n) (sym (length_only r front))))
    ∙ ap (λ (line : TraceLine). length (requests (only r front) ++ (request_of (1 + length front) line ++ []))) k.1
    ∙ ap length (append-nil (requests (only r front)))

none_more : (front : List RankLine) (it : RankLine) (clocks : ℕ) → it.line ≡ Idle clocks → asked_in (front ++ it ∷ []) ≡ asked_in front
none_more front it clocks is =
    ap (λ (l : List TraceLine). length (requests l)) (lines_more front it)
    ∙ ap length (requests-append 1 (lines_of front) (it.line ∷ []) (1 + length (lines_of front)) refl)
    ∙ ap (λ (line : TraceLine). length (requests (lines_of front) ++ (request_of (1 + length (lines_of front)) line ++ []))) is
    ∙ ap length (append-nil (requests (lines_of front)))

more_idle : (front : List RankLine) (it : RankLine) (clocks : ℕ) → it.line ≡ Idle clocks → idle_in (front ++ it ∷ []) ≡ idle_in front + clocks
more_idle front it clocks is =
    idle_sum front it ∙ ap (λ (line : TraceLine). idle_in front + sum (idle_clocks (line ∷ []))) is ∙ one (idle_in front) clocks
  where
    one : (a k : ℕ) → a + sum (k ∷ []) ≡ a + k
    one a k = omega arith

logged_same : (p : Pair) (front : List RankLine) (it : RankLine) (clocks : ℕ) (run : PairRun) → it.line ≡ Idle clocks → (r : Rank) → IsLogged (part r (bus_of run)) (only r front) (now_of p.bus) → IsLogged (part r (bus_of run)) (only r (front ++ it ∷ [])) (now_of p.bus)
logged_same p front it clocks run is r k = record { written = k.written; acts = k.acts ∙ sym (none_asked r front it clocks is); no_nop = k.no_nop; before = k.before; few = k.few }

-- ---- The target

pub done_later : (h : Header) (front : List RankLine) (run : PairRun) (since later : ℕ) → since ≤ later → IsDone h front run since → IsDone h front run later
done_later h front run since later le d = record { sound = d.sound; shares = d.shares; in_order = d.in_order; through = d.through; paced = paced_later (lines_of front) (servings_of run) since later le d.paced }

-- the target is set, and the lines before are done by now
pub aimed : DeadlineLaws → (p : Pair) (h : Header) (front : List RankLine) (it : RankLine) (clocks : ℕ) (before after : Option (List ℕ)) → IsThere p h front Resting before after → it.line ≡ Idle clocks → IsPairTrace (shape_of h) (front ++ it ∷ [])
    → IsUnder p h (front ++ it ∷ []) (record { front = front; since = now_of p.bus }) (now_of p.bus + clocks) Resting before after
aimed l p h front it clocks before after t is traced =
    let u = t.under.under in
    let b = u.on_bus in
    let run = t.under.run in
    let trace = front ++ it ∷ [] in
    record {
      run = run;
      under = record {
        on_bus = record {
          accepted = b.accepted;
          time = b.time;
          traced = traced;
          stands = stands_more p h front it run u.all_done.sound b.stands;
          keeps =
              subst (λ (n : ℕ). Keeps h (bus_of run) (now_of p.bus) (now_of p.bus + clocks) (idle_in trace) n Resting) (sym (none_more front it clocks is))
              (subst (λ (i : ℕ). Keeps h (bus_of run) (now_of p.bus) (now_of p.bus + clocks) i (asked_in front) Resting) (sym (more_idle front it clocks is))
              (l.idles h (bus_of run) (now_of p.bus) t.until (idle_in front) (asked_in front) clocks b.keeps));
          logged = λ r. logged_same p front it clocks run is r (b.logged r);
        };
        all_done = done_later h front run t.since (now_of p.bus) u.past u.all_done;
        past = omega arith;
        front = (it ∷ [], refl);
        shut = u.shut;
      };
      wrote = wrote_longer h front it run t.since before after u.all_done t.under.wrote;
    }

-- ---- Waits

stands_waited : (p : Pair) (bus : Bus) (h : Header) (trace : List RankLine) (run : PairRun) → StandsFor p h trace run → BusFor bus h (bus_of run) → StandsFor (with_bus p bus) h trace run
stands_waited p bus h trace run s on_bus = record { bus = on_bus; zero = s.zero; one = s.one; geometry = s.geometry }

-- `now` has moved on to a clock within the target, before which nothing is due
pub waited : DeadlineLaws → (p : Pair) (bus : Bus) (h : Header) (trace : List RankLine) (mark : Mark) (until clock : ℕ) (before after : Option (List ℕ)) (u : IsUnder p h trace mark until Resting before after) → clock ≤ until
    → ((earlier : ℕ) → earlier < clock → IsNothingDue h earlier (part Zero (bus_of u.run)) × IsNothingDue h earlier (part One (bus_of u.run)))
    → BusFor bus h (bus_of u.run) → now_of bus ≡ max (now_of p.bus) clock → IsUnder (with_bus p bus) h trace mark until Resting before after
waited l p bus h trace mark until clock before after u within early on_bus now =
    let b = u.under.on_bus in
    record {
      run = u.run;
      under = record {
        on_bus = record {
          accepted = b.accepted;
          time = b.time;
          traced = b.traced;
          stands = stands_waited p bus h trace u.run b.stands on_bus;
          keeps = subst (λ (n : ℕ). Keeps h (bus_of u.run) n until (idle_in trace) (asked_in trace) Resting) (sym now)
              (l.waits h (bus_of u.run) (now_of p.bus) until (idle_in trace) (asked_in trace) clock b.accepted b.time b.keeps within early);
          logged = λ r. logged_later (part r (bus_of u.run)) (only r trace) (now_of p.bus) (now_of bus) (omega (arith, now)) (b.logged r);
        };
        all_done = u.under.all_done;
        past = (let a = u.under.past in omega (arith, a, now));
        front = u.under.front;
        shut = u.under.shut;
      };
      wrote = u.wrote;
    }

-- where a refresh was due, time has passed
pub due_passes : (p : Pair) (bus new : Bus) (h : Header) (run : PairRun) (due : ℕ) → IsDueAt p.bus due → BusFor p.bus h (bus_of run) → BusFor bus h (bus_of run) → now_of bus ≡ max (now_of p.bus) due → WorksForBoth bus new → now_of p.bus < now_of new
due_passes p bus new h run due dues old on_bus now (BothRest same zero one) =
    let early = (dues h (bus_of run) (now_of bus) old).1 (zero h (bus_of run) on_bus, one h (bus_of run) on_bus) in absurd (omega (arith, early, now))
due_passes p bus new h run due dues old on_bus now (TimePasses later) = omega (arith, later, now)

-- ---- The end of the line

through_idle : (front : List RankLine) (it : RankLine) (clocks : ℕ) (run : PairRun) (r : Rank) → it.line ≡ Idle clocks → IsThrough (only r front) (length front) (run_of r run) → IsThrough (only r (front ++ it ∷ [])) (length (front ++ it ∷ [])) (run_of r run)
through_idle front it clocks run r is through =
    let k = idle_for r it clocks is in
    subst (λ (n : ℕ). IsThrough (only r (front ++ it ∷ [])) n (run_of r run)) (sym (length_more front it))
    (through-idle (only r (front ++ it ∷ [])) (length front) (length front + 1) (run_of r run) (Idle k.0) (before_it front it r (run_of r run) through)
    (there_for front it r ∙ ap Some k.1) refl refl refl)

-- its clocks have passed
pub idled : (p : Pair) (h : Header) (front : List RankLine) (it : RankLine) (clocks since until : ℕ) (before after : Option (List ℕ)) → it.line ≡ Idle clocks
    → IsUnder p h (front ++ it ∷ []) (record { front = front; since = since }) until Resting before after → since + clocks ≤ now_of p.bus → IsThere p h (front ++ it ∷ []) Resting before after
idled p h front it clocks since until before after is u le =
    let d = u.under.all_done in
    let trace = front ++ it ∷ [] in
    record {
      since = now_of p.bus;
      until = until;
      under = record {
        run = u.run;
        under = record {
          on_bus = u.under.on_bus;
          all_done = record {
            sound = λ r. sound_longer h front (it ∷ []) r (run_of r u.run) (d.sound r);
            shares = d.shares;
            in_order = d.in_order ∙ sym (append-nil (deeds (lines_of front))) ∙ ap (λ (line : TraceLine). deeds (lines_of front) ++ deed_of (1 + length (lines_of front)) line) (sym is) ∙ sym (deeds_more 1 (lines_of front) it.line) ∙ ap deeds (sym (lines_more front it));
            through = λ r. through_idle front it clocks u.run r is (d.through r);
            paced =
                subst (λ (t : List TraceLine). IsPaced t (servings_of u.run) (now_of p.bus)) (sym (lines_more front it))
                (paced_more (lines_of front) it.line (servings_of u.run) since (now_of p.bus) (subst (λ (line : TraceLine). since + sum (idle_clocks (line ∷ [])) ≤ now_of p.bus) (sym is) (one since clocks (now_of p.bus) le)) d.paced);
          };
          past = omega arith;
          front = ([], sym (append-nil trace));
          shut = u.under.shut;
        };
        wrote = u.wrote;
      };
    }
  where
    one : (a k n : ℕ) → a + k ≤ n → a + sum (k ∷ []) ≤ n
    one a k n le = omega (arith, le)

-- the target is below 2^40
pub target_low : DeadlineLaws → (p : Pair) (h : Header) (trace : List RankLine) (mark : Mark) (until : ℕ) (before after : Option (List ℕ)) → IsUnder p h trace mark until Resting before after → until < 2 ^ 40
target_low l p h trace mark until before after u =
    let b = u.under.on_bus in
    l.small_target h (bus_of u.run) (now_of p.bus) until (idle_in trace) (asked_in trace) Resting b.accepted b.time b.keeps
    (let a = asked_few trace in let m = b.traced.few in omega (arith, a, m)) b.traced.idle
