-- F lines: a stored bit of a rank is turned.
use Rattle.std.proofs.Common.{◌≡◌, ◌∙◌, ℕ, ◌+◌, ◌-◌, ◌<◌, ◌≤◌, ◌&&◌, Bool, true, false, refl, sym, ap, subst, arith, List, [], ◌∷◌, ◌++◌, length, take, slice_get, Option, Some, nat_lt, lt-ltb, append-nil, if◌then◌else◌}
use Rattle.std.specs.Prelude.{IsTrue}
use Rattle.std.specs.List.{flat_map, list_all}
use Rattle.std.specs.Io.KnownBytes.{Appends}
use Rattle.std.proofs.lemmas.List.{length-reverse, reverse-append, take_all}
use Rattle.command_words.specs.Geometry.{Shape, lines_of as line_count}
use Rattle.command_words.specs.Place.{place_of}
use Rattle.command_words.specs.declared.geometry.Place.{Place}
use Rattle.ddr_io.specs.Sink.{AppendsPrefix}
use Rattle.ddr_text.specs.declared.lines.ReportLine.TheVariants.{Flip as FlipLine}
use Rattle.ddr_text.specs.declared.lines.TraceLine.{TraceLine}
use Rattle.ddr_text.specs.declared.lines.TraceLine.TheVariants.{Flip, Idle}
use Rattle.pair_deadlines.specs.Keeping.{Keeps, Resting}
use Rattle.rank_bus.specs.Buses.{is_same, part}
use Rattle.rank_bus.specs.Held.{Held as Bus}
use Rattle.rank_bus.specs.Standing.{StandsFor as BusFor, now_of}
use Rattle.rank_bus.specs.declared.rank.Rank.{Rank}
use Rattle.rank_bus.specs.declared.rank.Rank.TheVariants.{Zero, One}
use Rattle.reports.proofs.Found.{Between, flips-append, requests-append}
use Rattle.reports.proofs.Ready.{held-past, ready-all}
use Rattle.reports.proofs.Through.{through-bound, through-flip}
use Rattle.reports.specs.Delivered.{AreInside, IsInside}
use Rattle.reports.specs.Report.{flip_lines}
use Rattle.reports.specs.Requests.{Request, flips, request_of, requests}
use Rattle.reports.specs.Runs.{Flips, IsThrough, Run, Serves, flipped, held, log_of, served}
use Rattle.reports.specs.Sound.{IsSoundFlip, Sound}
use Rattle.speed_bin.specs.Header.{shape_of}
use Rattle.speed_bin.specs.Log.{last_clock}
use Rattle.speed_bin.specs.declared.header.Header.{Header}
use Rattle.pair_reports.proofs.Grown.{sound_longer}
use Rattle.pair_reports.specs.Lines.{deeds, line_for, lines_of, only}
use Rattle.pair_reports.specs.Report.{latest_of, of_rank, spelled_for}
use Rattle.pair_reports.specs.Runs.{PairRun, RankStep, bus_of, done, run_of, servings_of}
use Rattle.pair_reports.specs.declared.rank_line.RankLine.{RankLine}
use Rattle.rank_pair.specs.Accessing.{IsThere}
use Rattle.rank_pair.specs.Job.{IsPairTrace}
use Rattle.rank_pair.specs.Pairs.{KeepsRest, StandsFor, end_in, spelled_by}
use Rattle.rank_pair.specs.RankEnds.{EndStandsFor, MayTurn}
use Rattle.rank_pair.specs.Under.{IsCut, IsDone, IsLogged, IsPaced, asked_in, idle_in}
use Rattle.rank_pair.specs.declared.pair.Pair.{Pair}
use Rattle.rank_pair.specs.declared.rank_end.RankEnd.{RankEnd}
use Rattle.rank_pair.proofs.Apart.{paced_more}
use Rattle.rank_pair.proofs.Carried.{last_inside}
use Rattle.rank_pair.proofs.Columns.{before_it, there_for, through_rest}
use Rattle.rank_pair.proofs.Opens.{wrote_longer}
use Rattle.rank_pair.proofs.Placed.{stands_more}
use Rattle.rank_pair.proofs.Steps.{begun_of, cut_more, wrote_more}
use Rattle.rank_pair.proofs.Traces.{deeds_more, idle_more, length_lines, length_more, length_only, lines_more, only_more, own_line}

-- the line, and the step that carries it out
abbrev pub flip_line : Rank → ℕ → ℕ → ℕ → RankLine
flip_line rank line device bit = record { rank = rank; line = Flip line device bit }

abbrev pub turns : Rank → ℕ → RankStep
turns rank number = record { rank = rank; step = Flips number }

-- ---- Before it

lines_inside : (g : Shape) (r : Rank) (trace : List RankLine) → AreInside g (lines_of trace) → AreInside g (only r trace)
lines_inside g r [] inside = tt
lines_inside g r (it ∷ trace) inside = (go r it.rank, lines_inside g r trace inside.1)
  where
    go : (a b : Rank) → IsInside g (if is_same a b then it.line else Idle 0)
    go Zero Zero = inside.0
    go Zero One = tt
    go One Zero = tt
    go One One = inside.0

pub flip_inside : (h : Header) (front : List RankLine) (rank : Rank) (line device bit : ℕ) → IsPairTrace (shape_of h) (front ++ flip_line rank line device bit ∷ []) → line < line_count (shape_of h)
flip_inside h front rank line device bit traced = (last_inside (shape_of h) front (flip_line rank line device bit) traced.inside).0

flip_there : (front : List RankLine) (rank : Rank) (line device bit : ℕ) → slice_get (only rank (front ++ flip_line rank line device bit ∷ [])) (length front) ≡ Some (Flip line device bit)
flip_there front rank line device bit = there_for front (flip_line rank line device bit) rank ∙ ap Some (own_line rank (flip_line rank line device bit) refl)

end_of_rank : (rank : Rank) (p : Pair) (h : Header) (trace : List RankLine) (run : PairRun) → StandsFor p h trace run → EndStandsFor (end_in rank p) h (only rank trace) (run_of rank run)
end_of_rank Zero p h trace run s = s.zero
end_of_rank One p h trace run s = s.one

pub may_turn : (p : Pair) (h : Header) (front : List RankLine) (rank : Rank) (line device bit : ℕ) (place : Place) (before after : Option (List ℕ)) (t : IsThere p h front Resting before after) → IsPairTrace (shape_of h) (front ++ flip_line rank line device bit ∷ [])
    → place ≡ place_of line p.geometry → MayTurn (end_in rank p) h (only rank (front ++ flip_line rank line device bit ∷ [])) (run_of rank t.under.run) (length front + 1) line device bit place
may_turn p h front rank line device bit place before after t traced is =
    let u = t.under.under in
    let it = flip_line rank line device bit in
    record {
      accepted = u.on_bus.accepted;
      stands = end_of_rank rank p h (front ++ it ∷ []) t.under.run (stands_more p h front it t.under.run u.all_done.sound u.on_bus.stands);
      inside = lines_inside (shape_of h) rank (front ++ it ∷ []) traced.inside;
      line_is = ap (slice_get (only rank (front ++ it ∷ []))) (less_one (length front)) ∙ flip_there front rank line device bit;
      place_is = is ∙ ap (place_of line) u.on_bus.stands.geometry;
    }
  where
    less_one : (n : ℕ) → n + 1 - 1 ≡ n
    less_one n = omega arith

-- ---- It is the next F line

last_number : (xs : List ℕ) (k n : ℕ) → n ≡ length xs → slice_get (xs ++ k ∷ []) n ≡ Some k
last_number xs k n is = ap (slice_get (xs ++ k ∷ [])) is ∙ here xs
  where
    here : (ys : List ℕ) → slice_get (ys ++ k ∷ []) (length ys) ≡ Some k
    here [] = refl
    here (y ∷ ys) = here ys

and_both : (a b : Bool) → IsTrue a → IsTrue b → IsTrue (a && b)
and_both true b h k = k
and_both false b h k = cc

none_later : (number : ℕ) (rs : List Request) → Between 1 number rs → IsTrue (list_all (λ r. nat_lt r.number number) rs)
none_later number [] b = refl
none_later number (r ∷ rs) b = and_both (nat_lt r.number number) (list_all (λ r. nat_lt r.number number) rs) (lt-ltb r.number number b.1) (none_later number rs b.2)

flips_last : (trace : List TraceLine) (line device bit number : ℕ) → number ≡ length trace + 1 → flips (trace ++ Flip line device bit ∷ []) ≡ flips trace ++ number ∷ []
flips_last trace line device bit number is =
    flips-append 1 trace (Flip line device bit ∷ []) (1 + length trace) refl ∙ ap (λ (n : ℕ). flips trace ++ n ∷ []) (same number (length trace) is)
  where
    same : (k n : ℕ) → k ≡ n + 1 → 1 + n ≡ k
    same k n e = omega (arith, e)

requests_last : (trace : List TraceLine) (line device bit : ℕ) → requests (trace ++ Flip line device bit ∷ []) ≡ requests trace ++ []
requests_last trace line device bit = requests-append 1 trace (Flip line device bit ∷ []) (1 + length trace) refl

sound_flip : (trace : List TraceLine) (n number : ℕ) (run : Run) (line device bit : ℕ) → n ≡ length trace → number ≡ n + 1 → IsThrough trace n run → IsSoundFlip (trace ++ Flip line device bit ∷ []) run number
sound_flip trace n number run line device bit long is through =
    let whole : take n trace ≡ trace = take_all n trace (omega (arith, long)) in
    let count : length (flipped run) ≡ length (flips trace) = sym (length-reverse (flipped run)) ∙ ap length (through.flips ∙ ap flips whole) in
    let serves = subst (λ (t : List TraceLine). Serves (requests t) run []) whole through.serves in
    let none : held (requests (trace ++ Flip line device bit ∷ [])) run ≡ [] = ap (λ (rs : List Request). held rs run) (requests_last trace line device bit) ∙ held-past (requests trace) [] run (ready-all (requests trace) run serves) in
    record {
      is_next = ap (λ (xs : List ℕ). slice_get xs (length (flipped run))) (flips_last trace line device bit number (is ∙ ap (λ (k : ℕ). k + 1) long)) ∙ last_number (flips trace) number (length (flipped run)) count;
      none_later = none_later number (served run) (subst (λ (k : ℕ). Between 1 k (served run)) (sym is) (through-bound trace n run through (omega (arith, long))));
      all_earlier = ap (λ (rs : List Request). list_all (λ r. nat_lt number r.number) rs) none;
    }

-- ---- Behind it

flip_sound : (h : Header) (front : List RankLine) (run : PairRun) (rank : Rank) (line device bit since : ℕ) → IsDone h front run since → (r : Rank) → Sound h (only r (front ++ flip_line rank line device bit ∷ [])) (run_of r (turns rank (length front + 1) ∷ run))
flip_sound h front run rank line device bit since d = go rank (λ r. sound_longer h front (flip_line rank line device bit ∷ []) r (run_of r run) (d.sound r))
    (subst (λ (t : List TraceLine). IsSoundFlip t (run_of rank run) (length front + 1)) (sym (only_more rank front (flip_line rank line device bit) ∙ ap (λ (l : TraceLine). only rank front ++ l ∷ []) (own_line rank (flip_line rank line device bit) refl)))
    (sound_flip (only rank front) (length front) (length front + 1) (run_of rank run) line device bit (sym (length_only rank front)) refl (d.through rank)))
  where
    go : (a : Rank) → ((r : Rank) → Sound h (only r (front ++ flip_line rank line device bit ∷ [])) (run_of r run)) → IsSoundFlip (only a (front ++ flip_line rank line device bit ∷ [])) (run_of a run) (length front + 1)
        → (r : Rank) → Sound h (only r (front ++ flip_line rank line device bit ∷ [])) (run_of r (turns a (length front + 1) ∷ run))
    go Zero sound own Zero = (own, sound Zero)
    go Zero sound own One = sound One
    go One sound own Zero = sound Zero
    go One sound own One = (own, sound One)

flip_through_own : (front : List RankLine) (rank : Rank) (line device bit : ℕ) (run : Run) → IsThrough (only rank front) (length front) run
    → IsThrough (only rank (front ++ flip_line rank line device bit ∷ [])) (length (front ++ flip_line rank line device bit ∷ [])) (Flips (length front + 1) ∷ run)
flip_through_own front rank line device bit run through =
    let it = flip_line rank line device bit in
    subst (λ (n : ℕ). IsThrough (only rank (front ++ it ∷ [])) n (Flips (length front + 1) ∷ run)) (sym (length_more front it))
    (through-flip (only rank (front ++ it ∷ [])) (length front) (length front + 1) run (Flip line device bit) (before_it front it rank run through) (flip_there front rank line device bit) refl refl refl)

flip_through : (front : List RankLine) (rank : Rank) (line device bit : ℕ) (run : PairRun) → ((r : Rank) → IsThrough (only r front) (length front) (run_of r run))
    → (r : Rank) → IsThrough (only r (front ++ flip_line rank line device bit ∷ [])) (length (front ++ flip_line rank line device bit ∷ [])) (run_of r (turns rank (length front + 1) ∷ run))
flip_through front Zero line device bit run through Zero = flip_through_own front Zero line device bit (run_of Zero run) (through Zero)
flip_through front Zero line device bit run through One = through_rest front (flip_line Zero line device bit) Zero (run_of One run) (through One) refl
flip_through front One line device bit run through Zero = through_rest front (flip_line One line device bit) One (run_of Zero run) (through Zero) refl
flip_through front One line device bit run through One = flip_through_own front One line device bit (run_of One run) (through One)

pub flip_done : (h : Header) (front : List RankLine) (run : PairRun) (rank : Rank) (line device bit since : ℕ) → IsDone h front run since → IsDone h (front ++ flip_line rank line device bit ∷ []) (turns rank (length front + 1) ∷ run) since
flip_done h front run rank line device bit since d =
    let it = flip_line rank line device bit in
    record {
      sound = flip_sound h front run rank line device bit since d;
      shares = d.shares;
      in_order =
          reverse-append ((length front + 1) ∷ []) (done run)
          ∙ ap (λ (xs : List ℕ). xs ++ (length front + 1) ∷ []) d.in_order
          ∙ ap (λ (n : ℕ). deeds (lines_of front) ++ n ∷ []) (same (length front) (length (lines_of front)) (length_lines front))
          ∙ sym (deeds_more 1 (lines_of front) (Flip line device bit)) ∙ ap deeds (sym (lines_more front it));
      through = flip_through front rank line device bit run d.through;
      paced = subst (λ (t : List TraceLine). IsPaced t (servings_of run) since) (sym (lines_more front it)) (paced_more (lines_of front) (Flip line device bit) (servings_of run) since since (omega arith) d.paced);
    }
  where
    same : (n m : ℕ) → m ≡ n → n + 1 ≡ 1 + m
    same n m e = omega (arith, e)

-- the requests of a rank are as they were
flip_asked : (r rank : Rank) (front : List RankLine) (line device bit : ℕ) → length (requests (only r (front ++ flip_line rank line device bit ∷ []))) ≡ length (requests (only r front))
flip_asked r rank front line device bit =
    let it = flip_line rank line device bit in
    ap (λ (l : List TraceLine). length (requests l)) (only_more r front it)
    ∙ ap length (requests-append 1 (only r front) (line_for r it ∷ []) (1 + length (only r front)) refl)
    ∙ ap (λ (rs : List Request). length (requests (only r front) ++ (rs ++ []))) (none r rank (1 + length (only r front)))
    ∙ ap length (append-nil (requests (only r front)))
  where
    none : (a b : Rank) (n : ℕ) → request_of n (if is_same a b then Flip line device bit else Idle 0) ≡ []
    none Zero Zero n = refl
    none Zero One n = refl
    none One Zero n = refl
    none One One n = refl

flip_number : (rank : Rank) (front : List RankLine) (line device bit : ℕ) → asked_in (front ++ flip_line rank line device bit ∷ []) ≡ asked_in front
flip_number rank front line device bit =
    ap (λ (l : List TraceLine). length (requests l)) (lines_more front (flip_line rank line device bit))
    ∙ ap length (requests-append 1 (lines_of front) (Flip line device bit ∷ []) (1 + length (lines_of front)) refl)
    ∙ ap length (append-nil (requests (lines_of front)))

-- it stands for the longer run
flip_stands : (p q : Pair) (h : Header) (trace : List RankLine) (run : PairRun) (rank : Rank) (number : ℕ) → StandsFor p h trace run → KeepsRest rank p q → EndStandsFor (end_in rank q) h (only rank trace) (Flips number ∷ run_of rank run)
    → StandsFor q h trace (turns rank number ∷ run)
flip_stands p q h trace run Zero number s rest own = record {
  bus = subst (λ (b : Bus). BusFor b h (bus_of run)) (sym rest.bus) s.bus;
  zero = own;
  one = subst (λ (e : RankEnd). EndStandsFor e h (only One trace) (run_of One run)) (sym rest.rest) s.one;
  geometry = rest.geometry ∙ s.geometry;
}
flip_stands p q h trace run One number s rest own = record {
  bus = subst (λ (b : Bus). BusFor b h (bus_of run)) (sym rest.bus) s.bus;
  zero = subst (λ (e : RankEnd). EndStandsFor e h (only Zero trace) (run_of Zero run)) (sym rest.rest) s.zero;
  one = own;
  geometry = rest.geometry ∙ s.geometry;
}

-- its line
flip_shows : (h : Header) (front : List RankLine) (rank : Rank) (line device bit : ℕ) (run : PairRun)
    → latest_of h (front ++ flip_line rank line device bit ∷ []) run (turns rank (length front + 1)) ≡ of_rank rank (FlipLine (last_clock (log_of (run_of rank run))) line device bit ∷ [])
flip_shows h front rank line device bit run =
    ap (λ (o : Option TraceLine). of_rank rank (flip_lines (last_clock (log_of (run_of rank run))) o))
    (ap (slice_get (only rank (front ++ flip_line rank line device bit ∷ []))) (less_one (length front)) ∙ flip_there front rank line device bit)
  where
    less_one : (n : ℕ) → n + 1 - 1 ≡ n
    less_one n = omega arith

-- the text of its line
flip_is : (h : Header) (front : List RankLine) (rank : Rank) (line device bit clock : ℕ) (run : PairRun) (end : RankEnd) → EndStandsFor end h (only rank (front ++ flip_line rank line device bit ∷ [])) (Flips (length front + 1) ∷ run_of rank run) → clock ≡ end.last
    → spelled_by rank (FlipLine clock line device bit) ≡ flat_map spelled_for (latest_of h (front ++ flip_line rank line device bit ∷ []) run (turns rank (length front + 1)))
flip_is h front rank line device bit clock run end own is =
    ap (λ (n : ℕ). spelled_by rank (FlipLine n line device bit)) (is ∙ own.last)
    ∙ sym (append-nil (spelled_by rank (FlipLine (last_clock (log_of (run_of rank run))) line device bit)))
    ∙ ap (flat_map spelled_for) (sym (flip_shows h front rank line device bit run))

pub flip_text : (h : Header) (front : List RankLine) (rank : Rank) (line device bit clock : ℕ) (run : PairRun) (end : RankEnd) (before after : Option (List ℕ)) → EndStandsFor end h (only rank (front ++ flip_line rank line device bit ∷ [])) (Flips (length front + 1) ∷ run_of rank run)
    → clock ≡ end.last → Appends before after (spelled_by rank (FlipLine clock line device bit)) → Appends before after (flat_map spelled_for (latest_of h (front ++ flip_line rank line device bit ∷ []) run (turns rank (length front + 1))))
flip_text h front rank line device bit clock run end before after own is wrote = subst (Appends before after) (flip_is h front rank line device bit clock run end own is) wrote

pub flip_text_cut : (h : Header) (front : List RankLine) (rank : Rank) (line device bit clock : ℕ) (run : PairRun) (end : RankEnd) (before after : Option (List ℕ)) → EndStandsFor end h (only rank (front ++ flip_line rank line device bit ∷ [])) (Flips (length front + 1) ∷ run_of rank run)
    → clock ≡ end.last → AppendsPrefix before after (spelled_by rank (FlipLine clock line device bit)) → AppendsPrefix before after (flat_map spelled_for (latest_of h (front ++ flip_line rank line device bit ∷ []) run (turns rank (length front + 1))))
flip_text_cut h front rank line device bit clock run end before after own is wrote = subst (AppendsPrefix before after) (flip_is h front rank line device bit clock run end own is) wrote

-- ---- The whole line

pub flip_written : (p q : Pair) (h : Header) (front : List RankLine) (rank : Rank) (line device bit clock : ℕ) (before middle after : Option (List ℕ)) (t : IsThere p h front Resting before middle)
    → IsPairTrace (shape_of h) (front ++ flip_line rank line device bit ∷ []) → KeepsRest rank p q
    → EndStandsFor (end_in rank q) h (only rank (front ++ flip_line rank line device bit ∷ [])) (Flips (length front + 1) ∷ run_of rank t.under.run) → clock ≡ (end_in rank q).last
    → Appends middle after (spelled_by rank (FlipLine clock line device bit)) → IsThere q h (front ++ flip_line rank line device bit ∷ []) Resting before after
flip_written p q h front rank line device bit clock before middle after t traced rest own is wrote =
    let u = t.under.under in
    let b = u.on_bus in
    let run = t.under.run in
    let it = flip_line rank line device bit in
    let trace = front ++ it ∷ [] in
    let later = turns rank (length front + 1) ∷ run in
    let stands = flip_stands p q h trace run rank (length front + 1) (stands_more p h front it run u.all_done.sound b.stands) rest own in
    record {
      since = t.since;
      until = t.until;
      under = record {
        run = later;
        under = record {
          on_bus = record {
            accepted = b.accepted;
            time = b.time;
            traced = traced;
            stands = stands;
            keeps =
                subst (λ (x : Bus). Keeps h (bus_of run) (now_of x) t.until (idle_in trace) (asked_in trace) Resting) (sym rest.bus)
                (subst (λ (n : ℕ). Keeps h (bus_of run) (now_of p.bus) t.until (idle_in trace) n Resting) (sym (flip_number rank front line device bit))
                (subst (λ (i : ℕ). Keeps h (bus_of run) (now_of p.bus) t.until i (asked_in front) Resting) (sym (idle_more front it refl)) b.keeps));
            logged = λ r. subst (λ (x : Bus). IsLogged (part r (bus_of run)) (only r trace) (now_of x)) (sym rest.bus) (logged_flip r (b.logged r));
          };
          all_done = flip_done h front run rank line device bit t.since u.all_done;
          past = subst (λ (x : Bus). t.since ≤ now_of x) (sym rest.bus) u.past;
          front = ([], sym (append-nil trace));
          shut = u.shut;
        };
        wrote = wrote_more h trace run (turns rank (length front + 1)) before middle after (wrote_longer h front it run t.since before middle u.all_done t.under.wrote)
            (flip_text h front rank line device bit clock run (end_in rank q) middle after own is wrote);
      };
    }
  where
    logged_flip : (r : Rank) → IsLogged (part r (bus_of t.under.run)) (only r front) (now_of p.bus) → IsLogged (part r (bus_of t.under.run)) (only r (front ++ flip_line rank line device bit ∷ [])) (now_of p.bus)
    logged_flip r k = record { written = k.written; acts = k.acts ∙ sym (flip_asked r rank front line device bit); no_nop = k.no_nop; before = k.before; few = k.few }

-- it was cut off
pub flip_cut : (p : Pair) (h : Header) (front : List RankLine) (rank : Rank) (line device bit : ℕ) (before middle after : Option (List ℕ)) (t : IsThere p h front Resting before middle)
    → AppendsPrefix middle after (flat_map spelled_for (latest_of h (front ++ flip_line rank line device bit ∷ []) t.under.run (turns rank (length front + 1)))) → IsCut h (front ++ flip_line rank line device bit ∷ []) before after
flip_cut p h front rank line device bit before middle after t cut =
    let u = t.under.under in
    let it = flip_line rank line device bit in
    let trace = front ++ it ∷ [] in
    cut_more h trace t.under.run (turns rank (length front + 1)) before middle after
    (begun_of h trace trace (turns rank (length front + 1) ∷ t.under.run) t.since (flip_done h front t.under.run rank line device bit t.since u.all_done) ([], sym (append-nil trace)))
    (wrote_longer h front it t.under.run t.since before middle u.all_done t.under.wrote) cut
