-- The RD or WR of a request.
use Rattle.std.proofs.Common.{◌≡◌, ◌∙◌, ℕ, ◌+◌, ◌<◌, ◌≤◌, false, true, refl, sym, ap, subst, arith, List, [], ◌∷◌, ◌++◌, length, reverse, slice_get, Option, Some, None, option_map, append-nil}
use Rattle.std.proofs.lemmas.List.{reverse-append}
use Rattle.command_words.specs.Command.{bank_number}
use Rattle.command_words.specs.Geometry.{Shape, lines_of as lines_in}
use Rattle.command_words.specs.Kinds.{is_act, is_nop}
use Rattle.command_words.specs.Place.{line_of, place_of}
use Rattle.command_words.specs.declared.command.Command.{Command}
use Rattle.command_words.specs.declared.geometry.Place.{Place}
use Rattle.ddr_text.specs.Ranges.{IsBankOf, IsCommandOf}
use Rattle.ddr_text.specs.declared.lines.TraceLine.{TraceLine}
use Rattle.ddr_text.specs.declared.lines.TraceLine.TheVariants.{Read, Write, Flip, Idle}
use Rattle.pair_deadlines.specs.Keeping.{Accessed, Opened}
use Rattle.rank_bus.specs.Buses.{other, part}
use Rattle.rank_bus.specs.Standing.{now_of}
use Rattle.rank_bus.specs.declared.rank.Rank.{Rank}
use Rattle.rank_bus.specs.declared.rank.Rank.TheVariants.{Zero, One}
use Rattle.requests.specs.Owed.{is_column}
use Rattle.requests.specs.declared.request.Kind.TheVariants.{Read as Reads, Write as Writes}
use Rattle.reports.proofs.Grows.{through-longer}
use Rattle.reports.proofs.Through.{through-idle, through-serve}
use Rattle.reports.specs.Accesses.{access_at, access_of}
use Rattle.reports.specs.Requests.{Request, request_of}
use Rattle.reports.specs.Runs.{IsThrough, Issues, Run}
use Rattle.reports.specs.Window.{AreRequests}
use Rattle.speed_bin.specs.Header.{shape_of}
use Rattle.speed_bin.specs.Log.{Log, open_at}
use Rattle.speed_bin.specs.declared.header.Header.{Header}
use Rattle.pair_reports.specs.Lines.{deed_of, deeds, line_for, lines_of, only}
use Rattle.pair_reports.specs.Runs.{PairRun, bus_of, done, run_of, servings_of}
use Rattle.pair_reports.specs.declared.rank_line.RankLine.{RankLine}
use Rattle.rank_pair.specs.Accessing.{Asks, IsAccessed, IsAlone, IsOpen, column_for, place_for}
use Rattle.rank_pair.specs.DeadlineLaws.{DeadlineLaws}
use Rattle.rank_pair.specs.Pairs.{IsAskedBy, IsCutOff, IsIssuable, IsIssued, IsNextClock, issues, request_for, requested}
use Rattle.rank_pair.specs.RankEnds.{served}
use Rattle.rank_pair.specs.Under.{IsCut, IsDone, IsOnBus, IsPaced, asked_in, idle_in}
use Rattle.rank_pair.specs.declared.pair.LineAccess.{LineAccess}
use Rattle.rank_pair.specs.declared.pair.Pair.{Pair}
use Rattle.rank_pair.proofs.Apart.{paced_served}
use Rattle.rank_pair.proofs.Fine.{IsKept, fine, rd_kept, wr_kept}
use Rattle.rank_pair.proofs.Opens.{asked_below, sound_more}
use Rattle.rank_pair.proofs.Placed.{bank_of, column_below}
use Rattle.rank_pair.proofs.Ranks.{own_in_time, part_own, part_rest, shut_in}
use Rattle.rank_pair.proofs.Served.{WillKeep, few_by, will_keep}
use Rattle.rank_pair.proofs.Steps.{begun_of, cut_more, done_sound, issuable, on_bus_more, wrote_more}
use Rattle.rank_pair.proofs.Traces.{deeds_more, last_line, length_lines, length_more, length_only, lines_more, only_more, own_line, rest_line}

-- ---- The command

pub column_is : (place : Place) (bytes : Option (List ℕ)) → is_column (column_for place bytes) ≡ true
column_is place None = refl
column_is place (Some bytes) = refl

no_act : (place : Place) (bytes : Option (List ℕ)) → is_act (column_for place bytes) ≡ false
no_act place None = refl
no_act place (Some bytes) = refl

no_nop : (place : Place) (bytes : Option (List ℕ)) → is_nop (column_for place bytes) ≡ false
no_nop place None = refl
no_nop place (Some bytes) = refl

inside : (h : Header) (line : ℕ) (bytes : Option (List ℕ)) → IsBankOf (shape_of h) (place_of line (shape_of h)).bank → IsCommandOf (shape_of h) (column_for (place_of line (shape_of h)) bytes)
inside h line None bank = (bank, column_below line (shape_of h))
inside h line (Some bytes) bank = (bank, column_below line (shape_of h))

kept : (h : Header) (clock : ℕ) (place : Place) (bytes : Option (List ℕ)) (own : Log) → open_at (bank_number place.bank) own ≡ Some place.row → 8 ≤ length own → IsKept h clock (column_for place bytes) own
kept h clock place None own is more = rd_kept h clock place.bank place.column place.row own is more
kept h clock place (Some bytes) own is more = wr_kept h clock place.bank place.column place.row own is more

-- it reads or writes the line that is asked for
accesses : (h : Header) (number line : ℕ) (bytes : Option (List ℕ)) (own : Log) → open_at (bank_number (place_of line (shape_of h)).bank) own ≡ Some (place_of line (shape_of h)).row → line_of (place_of line (shape_of h)) (shape_of h) ≡ line
    → access_at (shape_of h) (column_for (place_of line (shape_of h)) bytes) own ≡ option_map access_of (requested (Some (record { number = number; line = line; bytes = bytes })))
accesses h number line None own is back = rw is (ap (λ (x : ℕ). Some (record { line = x; kind = Reads })) back)
accesses h number line (Some bytes) own is back = rw is (ap (λ (x : ℕ). Some (record { line = x; kind = Writes })) back)

-- ---- Before it

-- the run is through the lines before this one
pub before_it : (front : List RankLine) (it : RankLine) (r : Rank) (run : Run) → IsThrough (only r front) (length front) run → IsThrough (only r (front ++ it ∷ [])) (length front) run
before_it front it r run through =
    subst (λ (t : List TraceLine). IsThrough t (length front) run) (sym (only_more r front it))
    (through-longer (only r front) (line_for r it ∷ []) (length front) run through (let e = length_only r front in omega (arith, e)))

pub there_for : (front : List RankLine) (it : RankLine) (r : Rank) → slice_get (only r (front ++ it ∷ [])) (length front) ≡ Some (line_for r it)
there_for front it r = ap (λ (t : List TraceLine). slice_get t (length front)) (only_more r front it) ∙ last_line (only r front) (line_for r it) (length front) (sym (length_only r front))

asked_by : (h : Header) (front : List RankLine) (it : RankLine) (rank : Rank) (access : LineAccess) (run : PairRun) (since : ℕ) → IsDone h front run since → Asks h front it rank access → IsAskedBy (only rank (front ++ it ∷ [])) (run_of rank run) access
asked_by h front it rank access run since d asks = record {
  before = length front;
  line = it.line;
  through = before_it front it rank (run_of rank run) (d.through rank);
  there = there_for front it rank ∙ ap Some (own_line rank it asks.of_rank);
  numbered = asks.numbered;
  asks = asks.asks;
  brings = asks.brings;
}

column_will : DeadlineLaws → (p : Pair) (h : Header) (trace : List RankLine) (run : PairRun) (until : ℕ) (rank : Rank) (place : Place) (bytes : Option (List ℕ)) → IsOnBus p h trace run until (Opened rank)
    → WillKeep p h run until (idle_in trace) (asked_in trace) (Accessed rank) rank (column_for place bytes)
column_will l p h trace run until rank place bytes b =
    will_keep l p h trace run until (idle_in trace) (asked_in trace) (Opened rank) (Accessed rank) rank (column_for place bytes) b
    (λ clock at. l.accesses h (bus_of run) (now_of p.bus) until (idle_in trace) (asked_in trace) rank clock (column_for place bytes) b.accepted b.time b.keeps (column_is place bytes) at)

pub column_issuable : DeadlineLaws → (p : Pair) (h : Header) (front : List RankLine) (it : RankLine) (rank : Rank) (access : LineAccess) (before after : Option (List ℕ)) (o : IsOpen p h front it rank access before after)
    → Asks h front it rank access → line_of (place_for h access) (shape_of h) ≡ access.line → IsIssuable p h (front ++ it ∷ []) o.run rank (column_for (place_for h access) access.bytes) (Some access)
column_issuable l p h front it rank access before after o asks back =
    let place = place_for h access in
    let b = o.on_bus in
    let own = part rank (bus_of o.run) in
    let will = column_will l p h (front ++ it ∷ []) o.run o.until rank place access.bytes b in
    issuable p h (front ++ it ∷ []) o.run rank (column_for place access.bytes) (Some access) b.accepted b.stands (sound_more h front it o.run o.since o.all_done)
    (few_by (length own) (now_of p.bus) ((b.logged rank).few) will.low)
    (inside h access.line access.bytes (bank_of h access.line b.accepted (asked_below h front it rank access asks))) will.soon
    (λ clock at. fine h clock (column_for place access.bytes) own (kept h clock place access.bytes own o.alone.is_open (b.logged rank).written) at.may.follows
    (own_in_time h rank clock (column_for place access.bytes) (bus_of o.run) (will.in_time clock at)))
    (accesses h access.number access.line access.bytes own o.alone.is_open back)
    (asked_by h front it rank access o.run o.since o.all_done asks)

-- ---- Behind it

request_line : (n : ℕ) (line : TraceLine) (r : Request) → request_of n line ≡ r ∷ [] → AreRequests (line ∷ [])
request_line n (Read line) r asks = tt
request_line n (Write line bytes) r asks = tt
request_line n (Flip line device bit) r asks = absurd cc
request_line n (Idle clocks) r asks = absurd cc

request_deed : (n m : ℕ) (line : TraceLine) (r : Request) → request_of n line ≡ r ∷ [] → m ≡ n → deed_of m line ≡ n ∷ []
request_deed n m (Read line) r asks same = ap (λ (k : ℕ). k ∷ []) same
request_deed n m (Write line bytes) r asks same = ap (λ (k : ℕ). k ∷ []) same
request_deed n m (Flip line device bit) r asks same = absurd cc
request_deed n m (Idle clocks) r asks same = absurd cc

-- both ranks are through one line more
through_own : (front : List RankLine) (it : RankLine) (rank : Rank) (access : LineAccess) (clock : ℕ) (command : Command) (run : Run) (h : Header) → IsThrough (only rank front) (length front) run → Asks h front it rank access
    → IsThrough (only rank (front ++ it ∷ [])) (length (front ++ it ∷ [])) (Issues (served clock command (Some (request_for access))) ∷ run)
through_own front it rank access clock command run h through asks =
    subst (λ (n : ℕ). IsThrough (only rank (front ++ it ∷ [])) n (Issues (served clock command (Some (request_for access))) ∷ run)) (asks.numbered ∙ sym (length_more front it))
    (through-serve (only rank (front ++ it ∷ [])) (length front) access.number run (served clock command (Some (request_for access))) it.line (request_for access) (before_it front it rank run through)
    (there_for front it rank ∙ ap Some (own_line rank it asks.of_rank)) asks.numbered asks.asks refl)

pub through_rest : (front : List RankLine) (it : RankLine) (rank : Rank) (run : Run) → IsThrough (only (other rank) front) (length front) run → it.rank ≡ rank → IsThrough (only (other rank) (front ++ it ∷ [])) (length (front ++ it ∷ [])) run
through_rest front it rank run through own =
    subst (λ (n : ℕ). IsThrough (only (other rank) (front ++ it ∷ [])) n run) (sym (length_more front it))
    (through-idle (only (other rank) (front ++ it ∷ [])) (length front) (length front + 1) run (Idle 0) (before_it front it (other rank) run through)
    (there_for front it (other rank) ∙ ap Some (rest_line rank it own)) refl refl refl)

through_both : (front : List RankLine) (it : RankLine) (rank : Rank) (access : LineAccess) (clock : ℕ) (command : Command) (run : PairRun) (h : Header) → ((r : Rank) → IsThrough (only r front) (length front) (run_of r run)) → Asks h front it rank access
    → (r : Rank) → IsThrough (only r (front ++ it ∷ [])) (length (front ++ it ∷ [])) (run_of r (issues rank clock command (Some access) ∷ run))
through_both front it Zero access clock command run h through asks Zero = through_own front it Zero access clock command (run_of Zero run) h (through Zero) asks
through_both front it Zero access clock command run h through asks One = through_rest front it Zero (run_of One run) (through One) asks.of_rank
through_both front it One access clock command run h through asks Zero = through_rest front it One (run_of Zero run) (through Zero) asks.of_rank
through_both front it One access clock command run h through asks One = through_own front it One access clock command (run_of One run) h (through One) asks

done_in_order : (h : Header) (front : List RankLine) (it : RankLine) (rank : Rank) (access : LineAccess) (run : PairRun) → reverse (done run) ≡ deeds (lines_of front) → Asks h front it rank access
    → reverse (access.number ∷ done run) ≡ deeds (lines_of (front ++ it ∷ []))
done_in_order h front it rank access run so_far asks =
    reverse-append (access.number ∷ []) (done run)
    ∙ ap (λ (xs : List ℕ). xs ++ access.number ∷ []) so_far
    ∙ ap (λ (ys : List ℕ). deeds (lines_of front) ++ ys) (sym (request_deed access.number (1 + length (lines_of front)) it.line (request_for access) asks.asks (same access.number (length front) (length (lines_of front)) asks.numbered (length_lines front))))
    ∙ sym (deeds_more 1 (lines_of front) it.line)
    ∙ ap deeds (sym (lines_more front it))
  where
    same : (number n m : ℕ) → number ≡ n + 1 → m ≡ n → 1 + m ≡ number
    same number n m e f = omega (arith, e, f)

pub column_done : (p : Pair) (h : Header) (front : List RankLine) (it : RankLine) (rank : Rank) (access : LineAccess) (run : PairRun) (since clock : ℕ) (command : Command) → IsDone h front run since → Asks h front it rank access → since ≤ now_of p.bus
    → IsIssuable p h (front ++ it ∷ []) run rank command (Some access) → IsNextClock p h run rank command clock → IsDone h (front ++ it ∷ []) (issues rank clock command (Some access) ∷ run) (clock + 1)
column_done p h front it rank access run since clock command d asks past k at = record {
  sound = done_sound h (front ++ it ∷ []) run rank clock command (Some access) k.sound (k.right clock at);
  shares = (d.shares, at.may.shares);
  in_order = done_in_order h front it rank access run d.in_order asks;
  through = through_both front it rank access clock command run h d.through asks;
  paced =
      subst (λ (t : List TraceLine). IsPaced t (record { number = access.number; clock = clock } ∷ servings_of run) (clock + 1)) (sym (lines_more front it))
      (paced_served (lines_of front) it.line (servings_of run) since clock access.number (request_line access.number it.line (request_for access) asks.asks)
      (let a = at.not_before in omega (arith, a, past)) (let e = asks.numbered in let f = length_lines front in omega (arith, e, f)) d.paced);
}

column_keeps : (place : Place) (bytes : Option (List ℕ)) (clock b : ℕ) (log : Log) → open_at b (record { clock = clock; command = column_for place bytes } ∷ log) ≡ open_at b log
column_keeps place None clock b log = refl
column_keeps place (Some bytes) clock b log = refl

-- what is open stays so
still_alone : (run : PairRun) (rank : Rank) (clock : ℕ) (place : Place) (access : LineAccess) (bank row : ℕ) → IsAlone run rank bank row → IsAlone (issues rank clock (column_for place access.bytes) (Some access) ∷ run) rank bank row
still_alone run rank clock place access bank row a =
    let c = column_for place access.bytes in
    let own = part_own rank clock c (bus_of run) in
    record {
      is_open = ap (λ (log : Log). open_at bank log) own ∙ column_keeps place access.bytes clock bank (part rank (bus_of run)) ∙ a.is_open;
      others = λ b low apart. ap (λ (log : Log). open_at b log) own ∙ column_keeps place access.bytes clock b (part rank (bus_of run)) ∙ a.others b low apart;
      rest = shut_in (part (other rank) (bus_of run)) _ (sym (part_rest rank clock c (bus_of run))) a.rest;
    }

pub column_issued : DeadlineLaws → (p q : Pair) (h : Header) (front : List RankLine) (it : RankLine) (rank : Rank) (access : LineAccess) (before middle after : Option (List ℕ)) (o : IsOpen p h front it rank access before middle)
    → Asks h front it rank access → line_of (place_for h access) (shape_of h) ≡ access.line
    → IsIssued p q h (front ++ it ∷ []) o.run rank (column_for (place_for h access) access.bytes) (Some access) middle after → IsAccessed q h (front ++ it ∷ []) rank access before after
column_issued l p q h front it rank access before middle after o asks back i =
    let place = place_for h access in
    let trace = front ++ it ∷ [] in
    let c = column_for place access.bytes in
    let will = column_will l p h trace o.run o.until rank place access.bytes o.on_bus in
    let k = column_issuable l p h front it rank access before middle o asks back in
    record {
      run = issues rank i.clock c (Some access) ∷ o.run;
      until = o.until;
      since = i.clock + 1;
      on_bus = on_bus_more p q h trace o.run o.until (Opened rank) (Accessed rank) rank i.clock c (Some access) o.on_bus (no_act place access.bytes) (no_nop place access.bytes) i.earliest.not_before i.now i.stands (will.keeps i.clock i.earliest);
      all_done = column_done p h front it rank access o.run o.since i.clock c o.all_done asks o.past k i.earliest;
      past = (let e = i.now in omega (arith, e));
      inside = asked_below h front it rank access asks;
      alone = still_alone o.run rank i.clock place access (bank_number place.bank) place.row o.alone;
      wrote = wrote_more h trace o.run (issues rank i.clock c (Some access)) before middle after o.wrote i.wrote;
    }

pub column_cut : DeadlineLaws → (p : Pair) (h : Header) (front : List RankLine) (it : RankLine) (rank : Rank) (access : LineAccess) (before middle after : Option (List ℕ)) (o : IsOpen p h front it rank access before middle)
    → Asks h front it rank access → line_of (place_for h access) (shape_of h) ≡ access.line
    → IsCutOff p h (front ++ it ∷ []) o.run rank (column_for (place_for h access) access.bytes) (Some access) middle after → IsCut h (front ++ it ∷ []) before after
column_cut l p h front it rank access before middle after o asks back i =
    let trace = front ++ it ∷ [] in
    let c = column_for (place_for h access) access.bytes in
    let k = column_issuable l p h front it rank access before middle o asks back in
    cut_more h trace o.run (issues rank i.clock c (Some access)) before middle after
    (begun_of h trace trace (issues rank i.clock c (Some access) ∷ o.run) (i.clock + 1) (column_done p h front it rank access o.run o.since i.clock c o.all_done asks o.past k i.earliest) ([], sym (append-nil trace)))
    o.wrote i.wrote

-- ---- The command as it is made

pub column_here : (p : Pair) (h : Header) (front : List RankLine) (it : RankLine) (rank : Rank) (access : LineAccess) (before after : Option (List ℕ)) → IsOpen p h front it rank access before after → Asks h front it rank access → access.line < lines_in p.geometry
column_here p h front it rank access before after o asks = subst (λ (g : Shape). access.line < lines_in g) (sym o.on_bus.stands.geometry) (asked_below h front it rank access asks)

-- what is known of the command that is made for a geometry
pub record IsMade (g : Shape) (access : LineAccess) (c : Command) : Type 0 where
  pub column : c ≡ column_for (place_of access.line g) access.bytes
  pub back : line_of (place_of access.line g) g ≡ access.line

made_here : (p : Pair) (h : Header) (front : List RankLine) (it : RankLine) (rank : Rank) (access : LineAccess) (before after : Option (List ℕ)) (c : Command) → IsOpen p h front it rank access before after → IsMade p.geometry access c → IsMade (shape_of h) access c
made_here p h front it rank access before after c o m = subst (λ (g : Shape). IsMade g access c) o.on_bus.stands.geometry m

pub column_made : DeadlineLaws → (p : Pair) (h : Header) (front : List RankLine) (it : RankLine) (rank : Rank) (access : LineAccess) (before after : Option (List ℕ)) (o : IsOpen p h front it rank access before after) → Asks h front it rank access
    → (c : Command) → IsMade p.geometry access c → IsIssuable p h (front ++ it ∷ []) o.run rank c (Some access)
column_made l p h front it rank access before after o asks c m =
    let n = made_here p h front it rank access before after c o m in
    subst (λ (x : Command). IsIssuable p h (front ++ it ∷ []) o.run rank x (Some access)) (sym n.column) (column_issuable l p h front it rank access before after o asks n.back)

pub column_made_issued : DeadlineLaws → (p q : Pair) (h : Header) (front : List RankLine) (it : RankLine) (rank : Rank) (access : LineAccess) (before middle after : Option (List ℕ)) (o : IsOpen p h front it rank access before middle) → Asks h front it rank access
    → (c : Command) → IsMade p.geometry access c → IsIssued p q h (front ++ it ∷ []) o.run rank c (Some access) middle after → IsAccessed q h (front ++ it ∷ []) rank access before after
column_made_issued l p q h front it rank access before middle after o asks c m i =
    let n = made_here p h front it rank access before middle c o m in
    column_issued l p q h front it rank access before middle after o asks n.back (subst (λ (x : Command). IsIssued p q h (front ++ it ∷ []) o.run rank x (Some access) middle after) n.column i)

pub column_made_cut : DeadlineLaws → (p : Pair) (h : Header) (front : List RankLine) (it : RankLine) (rank : Rank) (access : LineAccess) (before middle after : Option (List ℕ)) (o : IsOpen p h front it rank access before middle) → Asks h front it rank access
    → (c : Command) → IsMade p.geometry access c → IsCutOff p h (front ++ it ∷ []) o.run rank c (Some access) middle after → IsCut h (front ++ it ∷ []) before after
column_made_cut l p h front it rank access before middle after o asks c m i =
    let n = made_here p h front it rank access before middle c o m in
    column_cut l p h front it rank access before middle after o asks n.back (subst (λ (x : Command). IsCutOff p h (front ++ it ∷ []) o.run rank x (Some access) middle after) n.column i)
