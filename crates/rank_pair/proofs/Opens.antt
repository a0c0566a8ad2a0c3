-- The ACT of a request.
use Rattle.std.proofs.Common.{◌≡◌, ◌≢◌, ◌∙◌, ℕ, suc, ◌+◌, ◌<◌, ◌≤◌, ◌==◌, true, false, refl, sym, ap, subst, arith, List, [], ◌∷◌, ◌++◌, length, Option, Some, None, eq-eqb, ne_eqb, append-nil}
use Rattle.std.specs.List.{flat_map}
use Rattle.std.specs.Io.KnownBytes.{Appends}
use Rattle.command_words.specs.Command.{bank_number}
use Rattle.command_words.specs.Geometry.{Shape, lines_of}
use Rattle.command_words.specs.Kinds.{is_act, is_nop}
use Rattle.command_words.specs.Place.{place_of}
use Rattle.command_words.specs.declared.command.Command.{Command}
use Rattle.command_words.specs.declared.command.Command.TheVariants.{Act}
use Rattle.command_words.specs.declared.place.Bank.{Bank}
use Rattle.ddr_text.specs.declared.lines.TraceLine.{TraceLine}
use Rattle.ddr_text.specs.declared.lines.TraceLine.TheVariants.{Read, Write, Flip, Idle}
use Rattle.log_counts.proofs.Counting.{commands-more}
use Rattle.pair_deadlines.specs.Keeping.{Keeps, Opened, Resting}
use Rattle.rank_bus.specs.Buses.{other, part}
use Rattle.rank_bus.specs.Standing.{now_of}
use Rattle.rank_bus.specs.declared.rank.Rank.{Rank}
use Rattle.reports.specs.Barriers.{idle_clocks}
use Rattle.reports.specs.Requests.{Request, request_of, requests}
use Rattle.reports.specs.Sound.{Sound}
use Rattle.speed_bin.specs.Header.{shape_of}
use Rattle.speed_bin.specs.Log.{Log, open_at}
use Rattle.speed_bin.specs.declared.header.Header.{Header}
use Rattle.pair_reports.proofs.Grown.{begun_report_longer, sound_longer}
use Rattle.pair_reports.specs.Lines.{only}
use Rattle.pair_reports.specs.Report.{spelled_for}
use Rattle.pair_reports.specs.Runs.{PairRun, bus_of, run_of}
use Rattle.pair_reports.specs.declared.rank_line.RankLine.{RankLine}
use Rattle.pair_reports.specs.declared.rank_line.RankReportLine.{RankReportLine}
use Rattle.rank_pair.specs.Accessing.{Asks, IsAlone, IsOpen, IsThere, place_for}
use Rattle.rank_pair.specs.DeadlineLaws.{DeadlineLaws}
use Rattle.rank_pair.specs.Pairs.{IsCutOff, IsIssuable, IsIssued, request_for, issues}
use Rattle.rank_pair.specs.Under.{AllShut, IsCut, IsDone, IsLogged, IsOnBus, Mark, Under, Wrote, asked_in, idle_in}
use Rattle.rank_pair.specs.declared.pair.LineAccess.{LineAccess}
use Rattle.rank_pair.specs.declared.pair.Pair.{Pair}
use Rattle.rank_pair.proofs.Fine.{act_kept, fine}
use Rattle.rank_pair.proofs.Placed.{bank_of, line_below, low_bank, place_inside, stands_more}
use Rattle.rank_pair.proofs.Ranks.{for_each, own_in_time, part_own, part_rest, shut_in}
use Rattle.rank_pair.proofs.Served.{WillKeep, few_by, will_keep}
use Rattle.rank_pair.proofs.Steps.{before_later, begun_of, cut_more, issuable, logged_later, one_more_of, still_done, wrote_more}
use Rattle.rank_pair.proofs.Traces.{asked_more, idle_more, own_asked, rest_asked}

-- ---- The line

-- a request lets no clock pass
no_idle : (n : ℕ) (line : TraceLine) (r : Request) → request_of n line ≡ r ∷ [] → idle_clocks (line ∷ []) ≡ []
no_idle n (Read line) r asks = refl
no_idle n (Write line bytes) r asks = refl
no_idle n (Flip line device bit) r asks = refl
no_idle n (Idle clocks) r asks = absurd cc

-- its number, as the lines before it count it
numbered : (h : Header) (front : List RankLine) (it : RankLine) (rank : Rank) (access : LineAccess) → Asks h front it rank access → request_of (1 + length front) it.line ≡ request_for access ∷ []
numbered h front it rank access asks =
    let e = asks.numbered in
    subst (λ (n : ℕ). request_of n it.line ≡ request_for access ∷ []) (same access.number (length front) e) asks.asks
  where
    same : (number before : ℕ) → number ≡ before + 1 → number ≡ 1 + before
    same number before e = omega (arith, e)

pub asked_below : (h : Header) (front : List RankLine) (it : RankLine) (rank : Rank) (access : LineAccess) → Asks h front it rank access → access.line < lines_of (shape_of h)
asked_below h front it rank access asks = line_below (shape_of h) access.number it.line access asks.asks asks.inside

-- the report of the lines in front is one of the longer trace
pub wrote_longer : (h : Header) (front : List RankLine) (it : RankLine) (run : PairRun) (since : ℕ) (before after : Option (List ℕ)) → IsDone h front run since → Wrote h front run before after → Wrote h (front ++ it ∷ []) run before after
wrote_longer h front it run since before after d wrote =
    subst (λ (lines : List RankReportLine). Appends before after (flat_map spelled_for lines))
    (sym (begun_report_longer h front (it ∷ []) run (begun_of h front front run since d ([], sym (append-nil front))))) wrote

-- ---- Before the ACT

-- the runs of the lines in front are sound ones of the longer trace
pub sound_more : (h : Header) (front : List RankLine) (it : RankLine) (run : PairRun) (since : ℕ) → IsDone h front run since → (r : Rank) → Sound h (only r (front ++ it ∷ [])) (run_of r run)
sound_more h front it run since d r = sound_longer h front (it ∷ []) r (run_of r run) (d.sound r)

act_will : DeadlineLaws → (p : Pair) (h : Header) (front : List RankLine) (it : RankLine) (run : PairRun) (until : ℕ) (rank : Rank) (access : LineAccess) (bank : Bank) (row : ℕ) → IsOnBus p h front run until Resting
    → Asks h front it rank access → WillKeep p h run until (idle_in (front ++ it ∷ [])) (asked_in (front ++ it ∷ [])) (Opened rank) rank (Act bank row)
act_will l p h front it run until rank access bank row b asks =
    let c : Command = Act bank row in
    will_keep l p h front run until (idle_in (front ++ it ∷ [])) (asked_in (front ++ it ∷ [])) Resting (Opened rank) rank c b
    (λ clock at.
    subst (λ (n : ℕ). Keeps h (record { rank = rank; clock = clock; command = c } ∷ bus_of run) (clock + 1) until (idle_in (front ++ it ∷ [])) n (Opened rank))
    (sym (asked_more front it (request_for access) (numbered h front it rank access asks)))
    (subst (λ (i : ℕ). Keeps h (record { rank = rank; clock = clock; command = c } ∷ bus_of run) (clock + 1) until i (suc (asked_in front)) (Opened rank))
    (sym (idle_more front it (no_idle access.number it.line (request_for access) asks.asks)))
    (l.activates h (bus_of run) (now_of p.bus) until (idle_in front) (asked_in front) rank clock c b.accepted b.time b.keeps refl at)))

pub act_issuable : DeadlineLaws → (p : Pair) (h : Header) (front : List RankLine) (it : RankLine) (mark : Mark) (run : PairRun) (until : ℕ) (rank : Rank) (access : LineAccess) → mark.front ≡ front
    → Under p h front mark run until Resting → Asks h front it rank access → IsIssuable p h (front ++ it ∷ []) run rank (Act (place_for h access).bank (place_for h access).row) None
act_issuable l p h front it mark run until rank access same u asks =
    let place = place_for h access in
    let b = u.on_bus in
    let own = part rank (bus_of run) in
    let below = line_below (shape_of h) access.number it.line access asks.asks asks.inside in
    let low = low_bank h access.line b.accepted below in
    let d : IsDone h front run mark.since = subst (λ (t : List RankLine). IsDone h t run mark.since) same u.all_done in
    let will = act_will l p h front it run until rank access place.bank place.row b asks in
    issuable p h (front ++ it ∷ []) run rank (Act place.bank place.row) None b.accepted (stands_more p h front it run d.sound b.stands) (sound_more h front it run mark.since d)
    (few_by (length own) (now_of p.bus) ((b.logged rank).few) will.low)
    (bank_of h access.line b.accepted below, (place_inside h access.line b.accepted below).row) will.soon
    (λ clock at. fine h clock (Act place.bank place.row) own
    (act_kept h clock place.bank place.row own b.accepted (u.shut rank (bank_number place.bank) low)
    (l.low h (bus_of run) (now_of p.bus) until (idle_in front) (asked_in front) rank (bank_number place.bank) b.accepted b.time b.keeps low)
    (l.calm h (bus_of run) (now_of p.bus) until (idle_in front) (asked_in front) rank b.keeps) (b.logged rank).written)
    at.may.follows (own_in_time h rank clock (Act place.bank place.row) (bus_of run) (will.in_time clock at)))
    refl tt

-- ---- Behind it

logged_act : (log : Log) (trace longer : List TraceLine) (now clock : ℕ) (bank : Bank) (row : ℕ) → length (requests longer) ≡ suc (length (requests trace)) → now ≤ clock → IsLogged log trace now
    → IsLogged (record { clock = clock; command = Act bank row } ∷ log) longer (clock + 1)
logged_act log trace longer now clock bank row one le k = record {
  written = (let x = k.written in omega (arith, x));
  acts = (let x = commands-more is_act (record { clock = clock; command = Act bank row }) log in let y = k.acts in omega (arith, x, y, one));
  no_nop = one_more_of is_nop clock (Act bank row) log 0 refl k.no_nop;
  before = (omega arith, before_later log now (clock + 1) (omega (arith, le)) k.before);
  few = (let x = k.few in omega (arith, x, le));
}

logged_rest : (log : Log) (trace longer : List TraceLine) (now later : ℕ) → length (requests longer) ≡ length (requests trace) → now ≤ later → IsLogged log trace now → IsLogged log longer later
logged_rest log trace longer now later same le k =
    let m = logged_later log trace now later le k in
    record { written = m.written; acts = m.acts ∙ sym same; no_nop = m.no_nop; before = m.before; few = m.few }

opens : (clock : ℕ) (bank : Bank) (row : ℕ) (log : Log) → open_at (bank_number bank) (record { clock = clock; command = Act bank row } ∷ log) ≡ Some row
opens clock bank row log = let k : (bank_number bank == bank_number bank) ≡ true = eq-eqb (bank_number bank) (bank_number bank) refl in rw k refl

leaves : (clock : ℕ) (bank : Bank) (row b : ℕ) (log : Log) → b ≢ bank_number bank → open_at b log ≡ None → open_at b (record { clock = clock; command = Act bank row } ∷ log) ≡ None
leaves clock bank row b log apart none = let k : (bank_number bank == b) ≡ false = ne_eqb (bank_number bank) b (λ e. apart (sym e)) in rw k none

-- what the bank of an ACT and the others are behind it
pub record IsOpened (bank row : ℕ) (log : Log) : Type 0 where
  pub is_open : open_at bank log ≡ Some row
  pub others : (b : ℕ) → b < 32 → b ≢ bank → open_at b log ≡ None

alone_by : (run : PairRun) (rank : Rank) (clock : ℕ) (bank : Bank) (row : ℕ) → ((r : Rank) → AllShut (part r (bus_of run))) → IsAlone (issues rank clock (Act bank row) None ∷ run) rank (bank_number bank) row
alone_by run rank clock bank row shut =
    let own : IsOpened (bank_number bank) row (part rank (bus_of (issues rank clock (Act bank row) None ∷ run)))
    = subst (λ (log : Log). IsOpened (bank_number bank) row log) (sym (part_own rank clock (Act bank row) (bus_of run)))
    (record { is_open = opens clock bank row (part rank (bus_of run)); others = λ b low apart. leaves clock bank row b (part rank (bus_of run)) apart (shut rank b low) }) in
    record { is_open = own.is_open; others = own.others; rest = shut_in (part (other rank) (bus_of run)) _ (sym (part_rest rank clock (Act bank row) (bus_of run))) (shut (other rank)) }

pub act_issued : DeadlineLaws → (p q : Pair) (h : Header) (front : List RankLine) (it : RankLine) (rank : Rank) (access : LineAccess) (before middle after : Option (List ℕ)) (t : IsThere p h front Resting before middle)
    → Asks h front it rank access → IsIssued p q h (front ++ it ∷ []) t.under.run rank (Act (place_for h access).bank (place_for h access).row) None middle after → IsOpen q h front it rank access before after
act_issued l p q h front it rank access before middle after t asks i =
    let u = t.under.under in
    let b = u.on_bus in
    let place = place_for h access in
    let c : Command = Act place.bank place.row in
    let run = t.under.run in
    let le = i.earliest.not_before in
    let will = act_will l p h front it run t.until rank access place.bank place.row b asks in
    let k = act_issuable l p h front it (record { front = front; since = t.since }) run t.until rank access refl u asks in
    let own = numbered h front it rank access asks in
    record {
      run = issues rank i.clock c None ∷ run;
      until = t.until;
      since = t.since;
      on_bus = record {
        accepted = b.accepted;
        time = b.time;
        traced = asks.traced;
        stands = i.stands;
        keeps = subst (λ (n : ℕ). Keeps h (record { rank = rank; clock = i.clock; command = c } ∷ bus_of run) n t.until (idle_in (front ++ it ∷ [])) (asked_in (front ++ it ∷ [])) (Opened rank)) (sym i.now) (will.keeps i.clock i.earliest);
        logged = λ r. subst (λ (n : ℕ). IsLogged (part r (record { rank = rank; clock = i.clock; command = c } ∷ bus_of run)) (only r (front ++ it ∷ [])) n) (sym i.now)
            (for_each (λ x log. IsLogged log (only x (front ++ it ∷ [])) (i.clock + 1)) rank i.clock c (bus_of run)
            (logged_act (part rank (bus_of run)) (only rank front) (only rank (front ++ it ∷ [])) (now_of p.bus) i.clock place.bank place.row (own_asked rank front it (request_for access) asks.of_rank own) le (b.logged rank))
            (logged_rest (part (other rank) (bus_of run)) (only (other rank) front) (only (other rank) (front ++ it ∷ [])) (now_of p.bus) (i.clock + 1) (rest_asked rank front it asks.of_rank) (omega (arith, le)) (b.logged (other rank))) r);
      };
      all_done = still_done p h (front ++ it ∷ []) front run rank i.clock t.since c u.all_done k i.earliest;
      past = (let a = u.past in let e = i.now in omega (arith, a, le, e));
      alone = alone_by run rank i.clock place.bank place.row u.shut;
      wrote = wrote_more h (front ++ it ∷ []) run (issues rank i.clock c None) before middle after (wrote_longer h front it run t.since before middle u.all_done t.under.wrote) i.wrote;
    }

pub act_cut : DeadlineLaws → (p : Pair) (h : Header) (front : List RankLine) (it : RankLine) (rank : Rank) (access : LineAccess) (before middle after : Option (List ℕ)) (t : IsThere p h front Resting before middle)
    → Asks h front it rank access → IsCutOff p h (front ++ it ∷ []) t.under.run rank (Act (place_for h access).bank (place_for h access).row) None middle after → IsCut h (front ++ it ∷ []) before after
act_cut l p h front it rank access before middle after t asks i =
    let u = t.under.under in
    let c : Command = Act (place_for h access).bank (place_for h access).row in
    let run = t.under.run in
    let k = act_issuable l p h front it (record { front = front; since = t.since }) run t.until rank access refl u asks in
    cut_more h (front ++ it ∷ []) run (issues rank i.clock c None) before middle after
    (begun_of h front (front ++ it ∷ []) (issues rank i.clock c None ∷ run) t.since (still_done p h (front ++ it ∷ []) front run rank i.clock t.since c u.all_done k i.earliest) (it ∷ [], refl))
    (wrote_longer h front it run t.since before middle u.all_done t.under.wrote) i.wrote

-- ---- The command as it is made

-- the line that is asked for is one of the pair's subchannel
pub asked_here : (p : Pair) (h : Header) (front : List RankLine) (it : RankLine) (rank : Rank) (access : LineAccess) (before after : Option (List ℕ)) → IsThere p h front Resting before after → Asks h front it rank access → access.line < lines_of p.geometry
asked_here p h front it rank access before after t asks =
    subst (λ (g : Shape). access.line < lines_of g) (sym t.under.under.on_bus.stands.geometry) (asked_below h front it rank access asks)

-- it is the ACT of the place
pub act_at : (p : Pair) (h : Header) (front : List RankLine) (access : LineAccess) (before after : Option (List ℕ)) → IsThere p h front Resting before after → (c : Command)
    → c ≡ Act (place_of access.line p.geometry).bank (place_of access.line p.geometry).row → c ≡ Act (place_for h access).bank (place_for h access).row
act_at p h front access before after t c is = is ∙ ap (λ (g : Shape). Act (place_of access.line g).bank (place_of access.line g).row) t.under.under.on_bus.stands.geometry

-- whichever command is that ACT
pub made_issuable : DeadlineLaws → (p : Pair) (h : Header) (front : List RankLine) (it : RankLine) (rank : Rank) (access : LineAccess) (before after : Option (List ℕ)) (t : IsThere p h front Resting before after) → Asks h front it rank access
    → (c : Command) → c ≡ Act (place_for h access).bank (place_for h access).row → IsIssuable p h (front ++ it ∷ []) t.under.run rank c None
made_issuable l p h front it rank access before after t asks c is =
    subst (λ (x : Command). IsIssuable p h (front ++ it ∷ []) t.under.run rank x None) (sym is)
    (act_issuable l p h front it (record { front = front; since = t.since }) t.under.run t.until rank access refl t.under.under asks)

pub made_issued : DeadlineLaws → (p q : Pair) (h : Header) (front : List RankLine) (it : RankLine) (rank : Rank) (access : LineAccess) (before middle after : Option (List ℕ)) (t : IsThere p h front Resting before middle) → Asks h front it rank access
    → (c : Command) → c ≡ Act (place_for h access).bank (place_for h access).row → IsIssued p q h (front ++ it ∷ []) t.under.run rank c None middle after → IsOpen q h front it rank access before after
made_issued l p q h front it rank access before middle after t asks c is i =
    act_issued l p q h front it rank access before middle after t asks (subst (λ (x : Command). IsIssued p q h (front ++ it ∷ []) t.under.run rank x None middle after) is i)

pub made_cut : DeadlineLaws → (p : Pair) (h : Header) (front : List RankLine) (it : RankLine) (rank : Rank) (access : LineAccess) (before middle after : Option (List ℕ)) (t : IsThere p h front Resting before middle) → Asks h front it rank access
    → (c : Command) → c ≡ Act (place_for h access).bank (place_for h access).row → IsCutOff p h (front ++ it ∷ []) t.under.run rank c None middle after → IsCut h (front ++ it ∷ []) before after
made_cut l p h front it rank access before middle after t asks c is i =
    act_cut l p h front it rank access before middle after t asks (subst (λ (x : Command). IsCutOff p h (front ++ it ∷ []) t.under.run rank x None middle after) is i)
