-- The PREpb of a request.
use Rattle.std.proofs.Common.{◌≡◌, ◌≢◌, ◌∙◌, ℕ, ◌<◌, ◌==◌, ◌⊎◌, inl, inr, false, true, refl, sym, ap, subst, arith, List, [], ◌∷◌, length, Option, None, eq-eqb, ne_eqb, append-nil}
use Rattle.command_words.specs.Command.{bank_number}
use Rattle.command_words.specs.Geometry.{Shape, lines_of}
use Rattle.command_words.specs.Place.{place_of}
use Rattle.command_words.specs.declared.command.Command.{Command}
use Rattle.command_words.specs.declared.command.Command.TheVariants.{PrePb}
use Rattle.command_words.specs.declared.place.Bank.{Bank}
use Rattle.pair_deadlines.specs.Keeping.{Accessed, Closed}
use Rattle.rank_bus.specs.Buses.{part}
use Rattle.rank_bus.specs.Standing.{now_of}
use Rattle.rank_bus.specs.declared.rank.Rank.{Rank}
use Rattle.speed_bin.specs.Log.{Log, open_at}
use Rattle.speed_bin.specs.declared.header.Header.{Header}
use Rattle.pair_reports.specs.Runs.{PairRun, bus_of}
use Rattle.pair_reports.specs.declared.rank_line.RankLine.{RankLine}
use Rattle.rank_pair.specs.Accessing.{IsAccessed, IsAlone, IsThere, place_for}
use Rattle.rank_pair.specs.DeadlineLaws.{DeadlineLaws}
use Rattle.rank_pair.specs.Pairs.{IsCutOff, IsIssuable, IsIssued, issues}
use Rattle.rank_pair.specs.Under.{AllShut, IsCut, IsOnBus, asked_in, idle_in}
use Rattle.rank_pair.specs.declared.pair.LineAccess.{LineAccess}
use Rattle.rank_pair.specs.declared.pair.Pair.{Pair}
use Rattle.rank_pair.proofs.Fine.{close_kept, fine}
use Rattle.rank_pair.proofs.Placed.{bank_of}
use Rattle.rank_pair.proofs.Ranks.{for_each, own_in_time}
use Rattle.rank_pair.proofs.Served.{WillKeep, few_by, will_keep}
use Rattle.rank_pair.proofs.Steps.{begun_of, cut_more, issuable, on_bus_more, still_done, wrote_more}

close_will : DeadlineLaws → (p : Pair) (h : Header) (trace : List RankLine) (run : PairRun) (until : ℕ) (rank : Rank) (bank : Bank) → IsOnBus p h trace run until (Accessed rank)
    → WillKeep p h run until (idle_in trace) (asked_in trace) (Closed rank) rank (PrePb bank)
close_will l p h trace run until rank bank b =
    will_keep l p h trace run until (idle_in trace) (asked_in trace) (Accessed rank) (Closed rank) rank (PrePb bank) b
    (λ clock at. l.closes h (bus_of run) (now_of p.bus) until (idle_in trace) (asked_in trace) rank clock (PrePb bank) b.accepted b.time b.keeps refl at)

pub close_issuable : DeadlineLaws → (p : Pair) (h : Header) (trace : List RankLine) (rank : Rank) (access : LineAccess) (before after : Option (List ℕ)) (a : IsAccessed p h trace rank access before after)
    → IsIssuable p h trace a.run rank (PrePb (place_for h access).bank) None
close_issuable l p h trace rank access before after a =
    let bank = (place_for h access).bank in
    let b = a.on_bus in
    let own = part rank (bus_of a.run) in
    let will = close_will l p h trace a.run a.until rank bank b in
    issuable p h trace a.run rank (PrePb bank) None b.accepted b.stands a.all_done.sound (few_by (length own) (now_of p.bus) ((b.logged rank).few) will.low)
    (bank_of h access.line b.accepted a.inside) will.soon
    (λ clock at. fine h clock (PrePb bank) own (close_kept h clock bank own (b.logged rank).written) at.may.follows (own_in_time h rank clock (PrePb bank) (bus_of a.run) (will.in_time clock at)))
    refl tt

shuts : (clock : ℕ) (bank : Bank) (log : Log) → ((b : ℕ) → b < 32 → b ≢ bank_number bank → open_at b log ≡ None) → AllShut (record { clock = clock; command = PrePb bank } ∷ log)
shuts clock bank log others b low = go (same b (bank_number bank))
  where
    same : (m n : ℕ) → (m ≡ n) ⊎ (m ≢ n)
    same m n = grind arith

    go : (b ≡ bank_number bank) ⊎ (b ≢ bank_number bank) → open_at b (record { clock = clock; command = PrePb bank } ∷ log) ≡ None
    go (inl e) = let k : (bank_number bank == b) ≡ true = eq-eqb (bank_number bank) b (sym e) in rw k refl
    go (inr apart) = let k : (bank_number bank == b) ≡ false = ne_eqb (bank_number bank) b (λ e. apart (sym e)) in rw k (others b low apart)

all_shut : (run : PairRun) (rank : Rank) (clock : ℕ) (bank : Bank) (row : ℕ) → IsAlone run rank (bank_number bank) row → (r : Rank) → AllShut (part r (bus_of (issues rank clock (PrePb bank) None ∷ run)))
all_shut run rank clock bank row a = for_each (λ r log. AllShut log) rank clock (PrePb bank) (bus_of run) (shuts clock bank (part rank (bus_of run)) a.others) a.rest

pub close_issued : DeadlineLaws → (p q : Pair) (h : Header) (trace : List RankLine) (rank : Rank) (access : LineAccess) (before middle after : Option (List ℕ)) (a : IsAccessed p h trace rank access before middle)
    → IsIssued p q h trace a.run rank (PrePb (place_for h access).bank) None middle after → IsThere q h trace (Closed rank) before after
close_issued l p q h trace rank access before middle after a i =
    let bank = (place_for h access).bank in
    let will = close_will l p h trace a.run a.until rank bank a.on_bus in
    let k = close_issuable l p h trace rank access before middle a in
    record {
      since = a.since;
      until = a.until;
      under = record {
        run = issues rank i.clock (PrePb bank) None ∷ a.run;
        under = record {
          on_bus = on_bus_more p q h trace a.run a.until (Accessed rank) (Closed rank) rank i.clock (PrePb bank) None a.on_bus refl refl i.earliest.not_before i.now i.stands (will.keeps i.clock i.earliest);
          all_done = still_done p h trace trace a.run rank i.clock a.since (PrePb bank) a.all_done k i.earliest;
          past = (let x = a.past in let y = i.earliest.not_before in let e = i.now in omega (arith, x, y, e));
          front = ([], sym (append-nil trace));
          shut = all_shut a.run rank i.clock bank (place_for h access).row a.alone;
        };
        wrote = wrote_more h trace a.run (issues rank i.clock (PrePb bank) None) before middle after a.wrote i.wrote;
      };
    }

pub close_cut : DeadlineLaws → (p : Pair) (h : Header) (trace : List RankLine) (rank : Rank) (access : LineAccess) (before middle after : Option (List ℕ)) (a : IsAccessed p h trace rank access before middle)
    → IsCutOff p h trace a.run rank (PrePb (place_for h access).bank) None middle after → IsCut h trace before after
close_cut l p h trace rank access before middle after a i =
    let bank = (place_for h access).bank in
    let k = close_issuable l p h trace rank access before middle a in
    cut_more h trace a.run (issues rank i.clock (PrePb bank) None) before middle after
    (begun_of h trace trace (issues rank i.clock (PrePb bank) None ∷ a.run) a.since (still_done p h trace trace a.run rank i.clock a.since (PrePb bank) a.all_done k i.earliest) ([], sym (append-nil trace)))
    a.wrote i.wrote

-- ---- The command as it is made

pub close_here : (p : Pair) (h : Header) (trace : List RankLine) (rank : Rank) (access : LineAccess) (before after : Option (List ℕ)) → IsAccessed p h trace rank access before after → access.line < lines_of p.geometry
close_here p h trace rank access before after a = subst (λ (g : Shape). access.line < lines_of g) (sym a.on_bus.stands.geometry) a.inside

close_at : (p : Pair) (h : Header) (trace : List RankLine) (rank : Rank) (access : LineAccess) (before after : Option (List ℕ)) → IsAccessed p h trace rank access before after → (c : Command) → c ≡ PrePb (place_of access.line p.geometry).bank → c ≡ PrePb (place_for h access).bank
close_at p h trace rank access before after a c is = is ∙ ap (λ (g : Shape). PrePb (place_of access.line g).bank) a.on_bus.stands.geometry

pub close_made : DeadlineLaws → (p : Pair) (h : Header) (trace : List RankLine) (rank : Rank) (access : LineAccess) (before after : Option (List ℕ)) (a : IsAccessed p h trace rank access before after)
    → (c : Command) → c ≡ PrePb (place_of access.line p.geometry).bank → IsIssuable p h trace a.run rank c None
close_made l p h trace rank access before after a c is =
    subst (λ (x : Command). IsIssuable p h trace a.run rank x None) (sym (close_at p h trace rank access before after a c is)) (close_issuable l p h trace rank access before after a)

pub close_made_issued : DeadlineLaws → (p q : Pair) (h : Header) (trace : List RankLine) (rank : Rank) (access : LineAccess) (before middle after : Option (List ℕ)) (a : IsAccessed p h trace rank access before middle)
    → (c : Command) → c ≡ PrePb (place_of access.line p.geometry).bank → IsIssued p q h trace a.run rank c None middle after → IsThere q h trace (Closed rank) before after
close_made_issued l p q h trace rank access before middle after a c is i =
    close_issued l p q h trace rank access before middle after a (subst (λ (x : Command). IsIssued p q h trace a.run rank x None middle after) (close_at p h trace rank access before middle a c is) i)

pub close_made_cut : DeadlineLaws → (p : Pair) (h : Header) (trace : List RankLine) (rank : Rank) (access : LineAccess) (before middle after : Option (List ℕ)) (a : IsAccessed p h trace rank access before middle)
    → (c : Command) → c ≡ PrePb (place_of access.line p.geometry).bank → IsCutOff p h trace a.run rank c None middle after → IsCut h trace before after
close_made_cut l p h trace rank access before middle after a c is i =
    close_cut l p h trace rank access before middle after a (subst (λ (x : Command). IsCutOff p h trace a.run rank x None middle after) (close_at p h trace rank access before middle a c is) i)
