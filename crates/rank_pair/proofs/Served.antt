-- Commands of the service: those that answer an alert, and those that the bus names.
use Rattle.std.proofs.Common.{◌≡◌, ◌∙◌, ℕ, ◌+◌, ◌<◌, ◌≤◌, ◌^◌, true, false, refl, sym, ap, subst, arith, List, ◌∷◌, inl, inr, length, Option, Some, None, is_some}
use Rattle.command_words.specs.Kinds.{is_act, is_nop}
use Rattle.command_words.specs.declared.command.Command.{Command}
use Rattle.command_words.specs.declared.command.Command.TheVariants.{Act, Rd, Wr, PrePb, PreSb, PreAb, RefAb, RefSb, RfmAb, RfmSb, Mrw, Ecs, Nop}
use Rattle.command_words.specs.Command.{IsInRange}
use Rattle.command_words.specs.Geometry.{Shape}
use Rattle.ddr_text.specs.Ranges.{IsCommandOf}
use Rattle.deadlines.specs.Standing.{AllInTime}
use Rattle.log_counts.specs.Counts.{counts_of}
use Rattle.log_counts.specs.declared.counts.Counts.{Counts}
use Rattle.pair_deadlines.specs.Keeping.{Closed, Keeps, Phase, Resting, Serving}
use Rattle.rank_bus.specs.Buses.{part}
use Rattle.rank_bus.specs.Held.{Held as Bus}
use Rattle.rank_bus.specs.Service.{IsServedBy}
use Rattle.rank_bus.specs.Standing.{now_of}
use Rattle.rank_bus.specs.declared.rank.Rank.{Rank}
use Rattle.rank_bus.specs.declared.rank.Rank.TheVariants.{Zero, One}
use Rattle.reports.specs.Accesses.{access_at}
use Rattle.reports.specs.Runs.{log_of}
use Rattle.reports.specs.Sound.{Sound}
use Rattle.speed_bin.specs.Alert.{alert}
use Rattle.speed_bin.specs.Header.{shape_of}
use Rattle.speed_bin.specs.Log.{Log}
use Rattle.speed_bin.specs.declared.header.Header.{Header}
use Rattle.pair_reports.proofs.Grown.{sound_longer}
use Rattle.pair_reports.proofs.Parts.{part_is_log}
use Rattle.pair_reports.specs.Lines.{only}
use Rattle.pair_reports.specs.Runs.{PairRun, bus_of, run_of}
use Rattle.pair_reports.specs.declared.rank_line.RankLine.{RankLine}
use Rattle.rank_pair.specs.Pairs.{IsCutOff, IsIssuable, IsIssued, IsNextClock, StandsFor, end_in, issues}
use Rattle.rank_pair.specs.DeadlineLaws.{DeadlineLaws}
use Rattle.rank_pair.specs.Under.{BothRest, IsCut, IsIdle, IsOnBus, IsServed, IsUnder, Mark, Moved, Passes, Rests, TimePasses, Under, Works, WorksForBoth, asked_in, idle_in}
use Rattle.rank_pair.specs.declared.pair.Pair.{Pair}
use Rattle.rank_pair.proofs.Fine.{IsKept, fine, named_kept, rfm_kept}
use Rattle.rank_pair.proofs.Ranks.{own_in_time}
use Rattle.rank_pair.proofs.Traces.{asked_few}
use Rattle.rank_pair.proofs.Steps.{begun_of, cut_more, issuable, on_bus_more, still_done, still_shut, wrote_more}

-- ---- Of each kind

-- what the service names is no column, no ACT and no NOP
pub record IsServing (g : Shape) (c : Command) (log : Log) : Type 0 where
  pub no_act : is_act c ≡ false
  pub no_nop : is_nop c ≡ false
  pub inside : IsCommandOf g c
  pub accesses : access_at g c log ≡ None

pub named_serving : (g : Shape) (h : Header) (now : ℕ) (c : Command) (log : Log) → IsInRange c → IsServedBy h log now (Some c) → IsServing g c log
named_serving g h now Ecs log r k = record { no_act = refl; no_nop = refl; inside = tt; accesses = refl }
named_serving g h now RefAb log r k = record { no_act = refl; no_nop = refl; inside = tt; accesses = refl }
named_serving g h now (RefSb a) log r k = record { no_act = refl; no_nop = refl; inside = r; accesses = refl }
named_serving g h now (RfmSb a) log r k = record { no_act = refl; no_nop = refl; inside = r; accesses = refl }
named_serving g h now (Act b x) log r k = absurd k
named_serving g h now (Rd b x) log r k = absurd k
named_serving g h now (Wr b x) log r k = absurd k
named_serving g h now (PrePb b) log r k = absurd k
named_serving g h now (PreSb a) log r k = absurd k
named_serving g h now PreAb log r k = absurd k
named_serving g h now RfmAb log r k = absurd k
named_serving g h now (Mrw w) log r k = absurd k
named_serving g h now Nop log r k = absurd k

pub rfm_serving : (g : Shape) (log : Log) → IsServing g RfmAb log
rfm_serving g log = record { no_act = refl; no_nop = refl; inside = tt; accesses = refl }

-- ---- Before it is issued

-- the run of the lines in front is a sound one of the whole trace
pub all_sound : (p : Pair) (h : Header) (trace : List RankLine) (mark : Mark) (run : PairRun) (until : ℕ) (phase : Phase) → Under p h trace mark run until phase → (r : Rank) → Sound h (only r trace) (run_of r run)
all_sound p h trace mark run until phase u r =
    subst (λ (t : List RankLine). Sound h (only r t) (run_of r run)) (sym u.front.1) (sound_longer h mark.front u.front.0 r (run_of r run) (u.all_done.sound r))

-- a log of fewer than 2^40 clocks is short
pub few_by : (length_is now : ℕ) → length_is ≤ now → now < 2 ^ 40 → length_is < 2 ^ 48
few_by length_is now a b = omega (arith, a, b)

-- what is known of a command of the service before it is issued: whichever clock is its earliest, the deadlines are kept then
pub record WillKeep (p : Pair) (h : Header) (run : PairRun) (until idle n : ℕ) (next : Phase) (rank : Rank) (c : Command) : Type 0 where
  pub keeps : (clock : ℕ) → IsNextClock p h run rank c clock → Keeps h (record { rank = rank; clock = clock; command = c } ∷ bus_of run) (clock + 1) until idle n next
  pub in_time : (clock : ℕ) → IsNextClock p h run rank c clock → AllInTime h (part rank (record { rank = rank; clock = clock; command = c } ∷ bus_of run))
  pub soon : (clock : ℕ) → IsNextClock p h run rank c clock → clock < 2 ^ 47
  pub low : now_of p.bus < 2 ^ 40

-- it may be issued
pub service_issuable : (p : Pair) (h : Header) (trace : List RankLine) (mark : Mark) (run : PairRun) (until idle n : ℕ) (phase next : Phase) (rank : Rank) (c : Command)
    → Under p h trace mark run until phase → WillKeep p h run until idle n next rank c → IsServing (shape_of h) c (part rank (bus_of run))
    → ((clock : ℕ) → IsKept h clock c (part rank (bus_of run))) → IsIssuable p h trace run rank c None
service_issuable p h trace mark run until idle n phase next rank c u will kind kept =
    issuable p h trace run rank c None u.on_bus.accepted u.on_bus.stands (all_sound p h trace mark run until phase u)
    (few_by (length (part rank (bus_of run))) (now_of p.bus) ((u.on_bus.logged rank).few) will.low) kind.inside will.soon
    (λ clock at. fine h clock c (part rank (bus_of run)) (kept clock) at.may.follows (own_in_time h rank clock c (bus_of run) (will.in_time clock at)))
    kind.accesses tt

-- ---- Behind it

-- it was issued: the next phase, with all else as it was
pub service_issued : (p q : Pair) (h : Header) (trace : List RankLine) (mark : Mark) (until : ℕ) (phase next : Phase) (rank : Rank) (c : Command) (before middle after : Option (List ℕ))
    (u : IsUnder p h trace mark until phase before middle) (will : WillKeep p h u.run until (idle_in trace) (asked_in trace) next rank c)
    → IsServing (shape_of h) c (part rank (bus_of u.run)) → IsIssuable p h trace u.run rank c None → IsIssued p q h trace u.run rank c None middle after
    → IsUnder q h trace mark until next before after
service_issued p q h trace mark until phase next rank c before middle after u will kind k i = record {
  run = issues rank i.clock c None ∷ u.run;
  under = record {
    on_bus = on_bus_more p q h trace u.run until phase next rank i.clock c None u.under.on_bus kind.no_act kind.no_nop i.earliest.not_before i.now i.stands (will.keeps i.clock i.earliest);
    all_done = still_done p h trace mark.front u.run rank i.clock mark.since c u.under.all_done k i.earliest;
    past = (let a = u.under.past in let b = i.earliest.not_before in let e = i.now in omega (arith, a, b, e));
    front = u.under.front;
    shut = still_shut u.run rank i.clock c None kind.no_act u.under.shut;
  };
  wrote = wrote_more h trace u.run (issues rank i.clock c None) before middle after u.wrote i.wrote;
}

-- it was cut off
pub service_cut : (p : Pair) (h : Header) (trace : List RankLine) (mark : Mark) (until : ℕ) (phase : Phase) (rank : Rank) (c : Command) (before middle after : Option (List ℕ))
    (u : IsUnder p h trace mark until phase before middle) → IsIssuable p h trace u.run rank c None → IsCutOff p h trace u.run rank c None middle after → IsCut h trace before after
service_cut p h trace mark until phase rank c before middle after u k i =
    cut_more h trace u.run (issues rank i.clock c None) before middle after
    (begun_of h mark.front trace (issues rank i.clock c None ∷ u.run) mark.since (still_done p h trace mark.front u.run rank i.clock mark.since c u.under.all_done k i.earliest) u.under.front)
    u.wrote i.wrote

-- another phase on the same bus
pub other_phase : (p : Pair) (h : Header) (trace : List RankLine) (mark : Mark) (until : ℕ) (phase next : Phase) (before after : Option (List ℕ)) (u : IsUnder p h trace mark until phase before after)
    → Keeps h (bus_of u.run) (now_of p.bus) until (idle_in trace) (asked_in trace) next → IsUnder p h trace mark until next before after
other_phase p h trace mark until phase next before after u keeps = record {
  run = u.run;
  under = record {
    on_bus = record {
      accepted = u.under.on_bus.accepted;
      time = u.under.on_bus.time;
      traced = u.under.on_bus.traced;
      stands = u.under.on_bus.stands;
      keeps = keeps;
      logged = u.under.on_bus.logged;
    };
    all_done = u.under.all_done;
    past = u.under.past;
    front = u.under.front;
    shut = u.under.shut;
  };
  wrote = u.wrote;
}

-- ---- The alert

end_counts : (rank : Rank) (p : Pair) (h : Header) (trace : List RankLine) (run : PairRun) → StandsFor p h trace run → (end_in rank p).counts ≡ counts_of h (log_of (run_of rank run))
end_counts Zero p h trace run stands = stands.zero.counts
end_counts One p h trace run stands = stands.one.counts

-- what is kept of the alert of a rank
pub raised_is : (rank : Rank) (p : Pair) (h : Header) (trace : List RankLine) (run : PairRun) → StandsFor p h trace run → (end_in rank p).counts.is_raised ≡ is_some (alert h (part rank (bus_of run)))
unfolding counts_of
raised_is rank p h trace run stands =
    ap (λ (counts : Counts). counts.is_raised) (end_counts rank p h trace run stands) ∙ ap (λ (log : Log). is_some (alert h log)) (sym (part_is_log rank run))

pub no_alert : (o : Option ℕ) → is_some o ≡ false → o ≡ None
no_alert None e = refl
no_alert (Some a) e = absurd cc

-- ---- With the laws of the deadlines

pub now_low : DeadlineLaws → (p : Pair) (h : Header) (trace : List RankLine) (run : PairRun) (until : ℕ) (phase : Phase) → IsOnBus p h trace run until phase → now_of p.bus < 2 ^ 40
now_low l p h trace run until phase b =
    l.small_now h (bus_of run) (now_of p.bus) until (idle_in trace) (asked_in trace) phase b.accepted b.time b.keeps
    (let a = asked_few trace in let m = b.traced.few in omega (arith, a, m)) b.traced.idle

pub will_keep : DeadlineLaws → (p : Pair) (h : Header) (trace : List RankLine) (run : PairRun) (until idle n : ℕ) (phase next : Phase) (rank : Rank) (c : Command) → IsOnBus p h trace run until phase
    → ((clock : ℕ) → IsNextClock p h run rank c clock → Keeps h (record { rank = rank; clock = clock; command = c } ∷ bus_of run) (clock + 1) until idle n next)
    → WillKeep p h run until idle n next rank c
will_keep l p h trace run until idle n phase next rank c b keeps = record {
  keeps = keeps;
  in_time = λ clock at. l.meets h (record { rank = rank; clock = clock; command = c } ∷ bus_of run) (clock + 1) until idle n next rank (keeps clock at);
  soon = λ clock at.
      let a = l.within h (bus_of run) (now_of p.bus) until (idle_in trace) (asked_in trace) phase rank clock c b.accepted b.time b.keeps at in
      let m = l.small h b.accepted b.time in
      let low = now_low l p h trace run until phase b in
      omega (arith, a, m, low);
  low = now_low l p h trace run until phase b;
}

-- what the service names
named_will : DeadlineLaws → (p : Pair) (h : Header) (trace : List RankLine) (run : PairRun) (until : ℕ) (rank : Rank) (c : Command) → IsOnBus p h trace run until (Serving rank)
    → IsServedBy h (part rank (bus_of run)) (now_of p.bus) (Some c) → WillKeep p h run until (idle_in trace) (asked_in trace) (Serving rank) rank c
named_will l p h trace run until rank c b named =
    will_keep l p h trace run until (idle_in trace) (asked_in trace) (Serving rank) (Serving rank) rank c b
    (λ clock at. l.serves h (bus_of run) (now_of p.bus) until (idle_in trace) (asked_in trace) rank clock c b.accepted b.time b.keeps named at)

pub named_issuable : DeadlineLaws → (p : Pair) (h : Header) (trace : List RankLine) (mark : Mark) (run : PairRun) (until : ℕ) (rank : Rank) (c : Command) → Under p h trace mark run until (Serving rank)
    → IsInRange c → IsServedBy h (part rank (bus_of run)) (now_of p.bus) (Some c) → IsIssuable p h trace run rank c None
named_issuable l p h trace mark run until rank c u r named =
    service_issuable p h trace mark run until (idle_in trace) (asked_in trace) (Serving rank) (Serving rank) rank c u (named_will l p h trace run until rank c u.on_bus named)
    (named_serving (shape_of h) h (now_of p.bus) c (part rank (bus_of run)) r named)
    (λ clock. named_kept h (now_of p.bus) clock c (part rank (bus_of run)) (u.shut rank) named (u.on_bus.logged rank).written)

pub named_issued : DeadlineLaws → (p q : Pair) (h : Header) (trace : List RankLine) (mark : Mark) (until : ℕ) (rank : Rank) (c : Command) (before middle after : Option (List ℕ))
    (u : IsUnder p h trace mark until (Serving rank) before middle) → IsInRange c → IsServedBy h (part rank (bus_of u.run)) (now_of p.bus) (Some c)
    → IsIssued p q h trace u.run rank c None middle after → IsUnder q h trace mark until (Serving rank) before after
named_issued l p q h trace mark until rank c before middle after u r named i =
    service_issued p q h trace mark until (Serving rank) (Serving rank) rank c before middle after u (named_will l p h trace u.run until rank c u.under.on_bus named)
    (named_serving (shape_of h) h (now_of p.bus) c (part rank (bus_of u.run)) r named) (named_issuable l p h trace mark u.run until rank c u.under r named) i

-- the RFMab for an alert
rfm_will : DeadlineLaws → (p : Pair) (h : Header) (trace : List RankLine) (run : PairRun) (until : ℕ) (rank : Rank) → IsOnBus p h trace run until (Closed rank)
    → WillKeep p h run until (idle_in trace) (asked_in trace) (Serving Zero) rank RfmAb
rfm_will l p h trace run until rank b =
    will_keep l p h trace run until (idle_in trace) (asked_in trace) (Closed rank) (Serving Zero) rank RfmAb b
    (λ clock at. l.answers h (bus_of run) (now_of p.bus) until (idle_in trace) (asked_in trace) rank clock RfmAb b.accepted b.time b.keeps refl at)

pub rfm_issuable : DeadlineLaws → (p : Pair) (h : Header) (trace : List RankLine) (mark : Mark) (run : PairRun) (until : ℕ) (rank : Rank) → Under p h trace mark run until (Closed rank)
    → (end_in rank p).counts.is_raised ≡ true → IsIssuable p h trace run rank RfmAb None
rfm_issuable l p h trace mark run until rank u raised =
    service_issuable p h trace mark run until (idle_in trace) (asked_in trace) (Closed rank) (Serving Zero) rank RfmAb u (rfm_will l p h trace run until rank u.on_bus)
    (rfm_serving (shape_of h) (part rank (bus_of run)))
    (λ clock. rfm_kept h clock (part rank (bus_of run)) (u.shut rank) (sym (raised_is rank p h trace run u.on_bus.stands) ∙ raised) (u.on_bus.logged rank).written)

pub rfm_issued : DeadlineLaws → (p q : Pair) (h : Header) (trace : List RankLine) (mark : Mark) (until : ℕ) (rank : Rank) (before middle after : Option (List ℕ))
    (u : IsUnder p h trace mark until (Closed rank) before middle) → (end_in rank p).counts.is_raised ≡ true
    → IsIssued p q h trace u.run rank RfmAb None middle after → IsUnder q h trace mark until (Serving Zero) before after
rfm_issued l p q h trace mark until rank before middle after u raised i =
    service_issued p q h trace mark until (Closed rank) (Serving Zero) rank RfmAb before middle after u (rfm_will l p h trace u.run until rank u.under.on_bus)
    (rfm_serving (shape_of h) (part rank (bus_of u.run))) (rfm_issuable l p h trace mark u.run until rank u.under raised) i

-- without an alert the service begins at once
pub unanswered : DeadlineLaws → (p : Pair) (h : Header) (trace : List RankLine) (mark : Mark) (until : ℕ) (rank : Rank) (before after : Option (List ℕ))
    (u : IsUnder p h trace mark until (Closed rank) before after) → (end_in rank p).counts.is_raised ≡ false → IsUnder p h trace mark until (Serving Zero) before after
unanswered l p h trace mark until rank before after u none =
    other_phase p h trace mark until (Closed rank) (Serving Zero) before after u
    (l.unanswered h (bus_of u.run) (now_of p.bus) until (idle_in trace) (asked_in trace) rank u.under.on_bus.accepted u.under.on_bus.time u.under.on_bus.keeps
    (no_alert (alert h (part rank (bus_of u.run))) (sym (raised_is rank p h trace u.run u.under.on_bus.stands) ∙ none)))

-- ---- From phase to phase

pub begins : DeadlineLaws → (p : Pair) (h : Header) (trace : List RankLine) (mark : Mark) (until : ℕ) (before after : Option (List ℕ))
    → IsUnder p h trace mark until Resting before after → IsUnder p h trace mark until (Serving Zero) before after
begins l p h trace mark until before after u =
    other_phase p h trace mark until Resting (Serving Zero) before after u
    (l.begins h (bus_of u.run) (now_of p.bus) until (idle_in trace) (asked_in trace) u.under.on_bus.accepted u.under.on_bus.time u.under.on_bus.keeps)

pub turns : DeadlineLaws → (p : Pair) (h : Header) (trace : List RankLine) (mark : Mark) (until : ℕ) (before after : Option (List ℕ))
    → IsServed p h trace mark until Zero before after → IsUnder p h trace mark until (Serving One) before after
turns l p h trace mark until before after s =
    let u = s.on_turn in
    other_phase p h trace mark until (Serving Zero) (Serving One) before after u
    (l.turns h (bus_of u.run) (now_of p.bus) until (idle_in trace) (asked_in trace) u.under.on_bus.accepted u.under.on_bus.time u.under.on_bus.keeps s.none)

pub rests : DeadlineLaws → (p : Pair) (h : Header) (trace : List RankLine) (mark : Mark) (until : ℕ) (before after : Option (List ℕ))
    → IsServed p h trace mark until One before after → IsUnder p h trace mark until Resting before after
rests l p h trace mark until before after s =
    let u = s.on_turn in
    other_phase p h trace mark until (Serving One) Resting before after u
    (l.rests h (bus_of u.run) (now_of p.bus) until (idle_in trace) (asked_in trace) u.under.on_bus.accepted u.under.on_bus.time u.under.on_bus.keeps s.none)

-- ---- Time

-- once more
pub moved_more : (old middle new : Bus) → Moved old middle → now_of middle < now_of new → Moved old new
moved_more old middle new (inl same) k = inr (subst (λ (b : Bus). now_of b < now_of new) same k)
moved_more old middle new (inr first) k = inr (omega (arith, first, k))

-- it needs nothing more
pub moved_no_more : (old middle new : Bus) (rank : Rank) → Moved old middle → new ≡ middle → IsIdle middle rank → Works old new rank
moved_no_more old middle new rank (inl same) kept none = Rests (kept ∙ same) (subst (λ (b : Bus). IsIdle b rank) same none)
moved_no_more old middle new rank (inr first) kept none = Passes (subst (λ (b : Bus). now_of old < now_of b) (sym kept) first)

pub works_for_both : (old middle new : Bus) → Works old middle Zero → Works middle new One → WorksForBoth old new
works_for_both old middle new (Rests same idle) (Rests kept rest) = BothRest (ap now_of (kept ∙ same)) idle (subst (λ (b : Bus). IsIdle b One) same rest)
works_for_both old middle new (Rests same idle) (Passes later) = TimePasses (subst (λ (b : Bus). now_of b < now_of new) same later)
works_for_both old middle new (Passes first) (Rests kept rest) = TimePasses (subst (λ (b : Bus). now_of old < now_of b) (sym kept) first)
works_for_both old middle new (Passes first) (Passes later) = TimePasses (omega (arith, first, later))
