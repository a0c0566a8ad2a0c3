-- One command more: what holds of the run, the bus and the report behind it.
use Rattle.std.proofs.Common.{◌≡◌, ◌∙◌, ℕ, ◌+◌, ◌<◌, ◌≤◌, ◌^◌, Bool, false, refl, sym, ap, subst, arith, List, [], ◌∷◌, length, reverse, Option, Some, None, option_map, IfSome, append-nil}
use Rattle.std.specs.List.{flat_map}
use Rattle.std.specs.Io.KnownBytes.{Appends}
use Rattle.std.proofs.KnownBytes.{Appends-trans}
use Rattle.std.proofs.lemmas.Grind.{flat_map-append}
use Rattle.command_words.specs.Kinds.{is_act, is_nop}
use Rattle.command_words.specs.declared.command.Command.{Command}
use Rattle.ddr_io.specs.Sink.{AppendsPrefix}
use Rattle.ddr_text.proofs.Prefixes.{prefix-behind}
use Rattle.ddr_text.specs.Ranges.{IsCommandOf}
use Rattle.ddr_text.specs.declared.lines.TraceLine.{TraceLine}
use Rattle.deadlines.proofs.Phases.{stays_closed}
use Rattle.log_counts.proofs.Counting.{commands-more}
use Rattle.log_counts.specs.Counts.{one_more}
use Rattle.pair_deadlines.specs.Before.{AllBefore}
use Rattle.pair_deadlines.specs.Keeping.{Keeps, Phase}
use Rattle.rank_bus.specs.Buses.{other, part}
use Rattle.rank_bus.specs.Standing.{now_of}
use Rattle.rank_bus.specs.declared.rank.Rank.{Rank}
use Rattle.rank_bus.specs.declared.rank.Rank.TheVariants.{Zero, One}
use Rattle.reports.proofs.Through.{through-next, through-none}
use Rattle.reports.specs.Accesses.{access_at, access_of}
use Rattle.reports.specs.Requests.{requests}
use Rattle.reports.specs.Runs.{IsNext, IsThrough, Run}
use Rattle.reports.specs.Sound.{IsSoundPlace, Sound}
use Rattle.speed_bin.specs.Counts.{commands}
use Rattle.speed_bin.specs.Header.{IsAccepted, shape_of}
use Rattle.speed_bin.specs.Log.{Log}
use Rattle.speed_bin.specs.Rules.{broken}
use Rattle.speed_bin.specs.declared.header.Header.{Header}
use Rattle.pair_reports.proofs.Grown.{begun_longer}
use Rattle.pair_reports.proofs.Parts.{part_is_log}
use Rattle.pair_reports.specs.Lines.{only}
use Rattle.pair_reports.specs.Report.{latest_of, pair_report, spelled_for}
use Rattle.pair_reports.specs.Runs.{PairRun, RankStep, bus_of, done, run_of}
use Rattle.pair_reports.specs.Sound.{IsBegun}
use Rattle.pair_reports.specs.declared.rank_line.RankLine.{RankLine}
use Rattle.rank_pair.specs.Pairs.{IsAsked, IsIssuable, IsNextClock, StandsFor, issues, requested}
use Rattle.rank_pair.specs.RankEnds.{served}
use Rattle.rank_pair.specs.Under.{AllShut, IsCut, IsDone, IsFrontOf, IsLogged, IsOnBus, Wrote, asked_in, idle_in}
use Rattle.rank_pair.specs.declared.pair.LineAccess.{LineAccess}
use Rattle.rank_pair.specs.declared.pair.Pair.{Pair}
use Rattle.rank_pair.proofs.Fine.{IsFine}
use Rattle.rank_pair.proofs.Ranks.{for_each}

-- ---- Before it is issued

asked_next : (trace : List TraceLine) (run : Run) (access : Option LineAccess) → IsAsked trace run access → IfSome (requested access) (λ r. IsNext (requests trace) run r)
asked_next trace run None asked = tt
asked_next trace run (Some it) asked = through-next trace asked.before it.number run asked.line _ asked.through asked.there asked.numbered asked.asks

-- what has to be known, from what is known on the bus
pub issuable : (p : Pair) (h : Header) (trace : List RankLine) (run : PairRun) (rank : Rank) (command : Command) (access : Option LineAccess)
    → IsAccepted h → StandsFor p h trace run → ((r : Rank) → Sound h (only r trace) (run_of r run)) → length (part rank (bus_of run)) < 2 ^ 48 → IsCommandOf (shape_of h) command
    → ((clock : ℕ) → IsNextClock p h run rank command clock → clock < 2 ^ 47)
    → ((clock : ℕ) → IsNextClock p h run rank command clock → IsFine h clock command (part rank (bus_of run)))
    → access_at (shape_of h) command (part rank (bus_of run)) ≡ option_map access_of (requested access)
    → IsAsked (only rank trace) (run_of rank run) access
    → IsIssuable p h trace run rank command access
issuable p h trace run rank command access accepted stands sound few inside small fine is_of asked = record {
  accepted = accepted;
  stands = stands;
  sound = sound;
  few = subst (λ (log : Log). length log < 2 ^ 48) (part_is_log rank run) few;
  ready = record { suits = λ clock at. (fine clock at).suits; small = small };
  right = λ clock at. record {
    in_time = (let below = small clock at in omega (arith, below));
    in_range = inside;
    rules = subst (λ (log : Log). broken h clock command log ≡ None) (part_is_log rank run) ((fine clock at).legal);
    is_of = subst (λ (log : Log). access_at (shape_of h) command log ≡ option_map access_of (requested access)) (part_is_log rank run) is_of;
    is_next = asked_next (only rank trace) (run_of rank run) access asked;
  };
  asked = asked;
}

-- ---- The run

-- without an access a command is right after the same run of another trace
other_trace : (h : Header) (trace more : List TraceLine) (run : Run) (clock : ℕ) (command : Command) → IsSoundPlace h trace run (served clock command None) → IsSoundPlace h more run (served clock command None)
other_trace h trace more run clock command s = record { in_time = s.in_time; in_range = s.in_range; rules = s.rules; is_of = s.is_of; is_next = tt }

pub done_sound : (h : Header) (front : List RankLine) (run : PairRun) (rank : Rank) (clock : ℕ) (command : Command) (access : Option LineAccess) → ((r : Rank) → Sound h (only r front) (run_of r run))
    → IsSoundPlace h (only rank front) (run_of rank run) (served clock command (requested access)) → (r : Rank) → Sound h (only r front) (run_of r (issues rank clock command access ∷ run))
done_sound h front run Zero clock command access sound place Zero = (place, sound Zero)
done_sound h front run Zero clock command access sound place One = sound One
done_sound h front run One clock command access sound place Zero = sound Zero
done_sound h front run One clock command access sound place One = (place, sound One)

still_through : (front : List RankLine) (run : PairRun) (rank : Rank) (clock : ℕ) (command : Command) → ((r : Rank) → IsThrough (only r front) (length front) (run_of r run))
    → (r : Rank) → IsThrough (only r front) (length front) (run_of r (issues rank clock command None ∷ run))
still_through front run Zero clock command through Zero = through-none (only Zero front) (length front) (run_of Zero run) (served clock command None) (through Zero) refl
still_through front run Zero clock command through One = through One
still_through front run One clock command through Zero = through Zero
still_through front run One clock command through One = through-none (only One front) (length front) (run_of One run) (served clock command None) (through One) refl

-- a command without an access leaves the same lines done
pub still_done : (p : Pair) (h : Header) (trace front : List RankLine) (run : PairRun) (rank : Rank) (clock since : ℕ) (command : Command) → IsDone h front run since
    → IsIssuable p h trace run rank command None → IsNextClock p h run rank command clock → IsDone h front (issues rank clock command None ∷ run) since
still_done p h trace front run rank clock since command d k at = record {
  sound = done_sound h front run rank clock command None d.sound (other_trace h (only rank trace) (only rank front) (run_of rank run) clock command (k.right clock at));
  shares = (d.shares, at.may.shares);
  in_order = d.in_order;
  through = still_through front run rank clock command d.through;
  paced = d.paced;
}

-- what is done in front is the beginning of the trace
pub begun_of : (h : Header) (front trace : List RankLine) (run : PairRun) (since : ℕ) → IsDone h front run since → IsFrontOf front trace → IsBegun h trace run
begun_of h front trace run since d f =
    subst (λ (t : List RankLine). IsBegun h t run) (sym f.1)
    (begun_longer h front f.0 run (record { sound = d.sound; shares = d.shares; left = []; in_order = append-nil (reverse (done run)) ∙ d.in_order }))

-- ---- The bus

pub before_later : (log : Log) (now later : ℕ) → now ≤ later → AllBefore now log → AllBefore later log
before_later [] now later le b = tt
before_later (place ∷ log) now later le b = (let x = b.0 in omega (arith, x, le), before_later log now later le b.1)

pub logged_later : (log : Log) (trace : List TraceLine) (now later : ℕ) → now ≤ later → IsLogged log trace now → IsLogged log trace later
logged_later log trace now later le k = record { written = k.written; acts = k.acts; no_nop = k.no_nop; before = before_later log now later le k.before; few = (let x = k.few in omega (arith, x, le)) }

pub one_more_of : (kind : Command → Bool) (clock : ℕ) (command : Command) (log : Log) (n : ℕ) → kind command ≡ false → commands kind log ≡ n → commands kind (record { clock = clock; command = command } ∷ log) ≡ n
one_more_of kind clock command log n nay is = commands-more kind (record { clock = clock; command = command }) log ∙ ap (λ t. one_more t (commands kind log)) nay ∙ is

logged_more : (log : Log) (trace : List TraceLine) (now clock : ℕ) (command : Command) → is_act command ≡ false → is_nop command ≡ false → now ≤ clock → IsLogged log trace now
    → IsLogged (record { clock = clock; command = command } ∷ log) trace (clock + 1)
logged_more log trace now clock command no_act no_nop le k = record {
  written = (let x = k.written in omega (arith, x));
  acts = one_more_of is_act clock command log (length (requests trace)) no_act k.acts;
  no_nop = one_more_of is_nop clock command log 0 no_nop k.no_nop;
  before = (omega arith, before_later log now (clock + 1) (omega (arith, le)) k.before);
  few = (let x = k.few in omega (arith, x, le));
}

-- a command that is neither an ACT nor a NOP
pub on_bus_more : (p q : Pair) (h : Header) (trace : List RankLine) (run : PairRun) (until : ℕ) (phase next : Phase) (rank : Rank) (clock : ℕ) (command : Command) (access : Option LineAccess)
    → IsOnBus p h trace run until phase → is_act command ≡ false → is_nop command ≡ false → now_of p.bus ≤ clock → now_of q.bus ≡ clock + 1
    → StandsFor q h trace (issues rank clock command access ∷ run)
    → Keeps h (record { rank = rank; clock = clock; command = command } ∷ bus_of run) (clock + 1) until (idle_in trace) (asked_in trace) next
    → IsOnBus q h trace (issues rank clock command access ∷ run) until next
on_bus_more p q h trace run until phase next rank clock command access b no_act no_nop le now stands keeps = record {
  accepted = b.accepted;
  time = b.time;
  traced = b.traced;
  stands = stands;
  keeps = subst (λ (n : ℕ). Keeps h (record { rank = rank; clock = clock; command = command } ∷ bus_of run) n until (idle_in trace) (asked_in trace) next) (sym now) keeps;
  logged = λ r. subst (λ (n : ℕ). IsLogged (part r (record { rank = rank; clock = clock; command = command } ∷ bus_of run)) (only r trace) n) (sym now)
      (for_each (λ i log. IsLogged log (only i trace) (clock + 1)) rank clock command (bus_of run)
      (logged_more (part rank (bus_of run)) (only rank trace) (now_of p.bus) clock command no_act no_nop le (b.logged rank))
      (logged_later (part (other rank) (bus_of run)) (only (other rank) trace) (now_of p.bus) (clock + 1) (omega (arith, le)) (b.logged (other rank))) r);
}

-- it leaves closed banks closed
pub still_shut : (run : PairRun) (rank : Rank) (clock : ℕ) (command : Command) (access : Option LineAccess) → is_act command ≡ false → ((r : Rank) → AllShut (part r (bus_of run)))
    → (r : Rank) → AllShut (part r (bus_of (issues rank clock command access ∷ run)))
still_shut run rank clock command access no_act shut = for_each (λ i log. AllShut log) rank clock command (bus_of run)
    (λ b low. stays_closed b (record { clock = clock; command = command }) (part rank (bus_of run)) no_act (shut rank b low)) (shut (other rank))

-- ---- The report

pub wrote_more : (h : Header) (trace : List RankLine) (run : PairRun) (it : RankStep) (before middle after : Option (List ℕ)) → Wrote h trace run before middle
    → Appends middle after (flat_map spelled_for (latest_of h trace run it)) → Wrote h trace (it ∷ run) before after
wrote_more h trace run it before middle after so_far next =
    subst (Appends before after) (sym (flat_map-append spelled_for (pair_report h trace run) (latest_of h trace run it)))
    (Appends-trans before middle after (flat_map spelled_for (pair_report h trace run)) (flat_map spelled_for (latest_of h trace run it)) so_far next)

pub cut_more : (h : Header) (trace : List RankLine) (run : PairRun) (it : RankStep) (before middle after : Option (List ℕ)) → IsBegun h trace (it ∷ run) → Wrote h trace run before middle
    → AppendsPrefix middle after (flat_map spelled_for (latest_of h trace run it)) → IsCut h trace before after
cut_more h trace run it before middle after begun so_far next = record {
  run = it ∷ run;
  begun = begun;
  wrote =
      subst (AppendsPrefix before after) (sym (flat_map-append spelled_for (pair_report h trace run) (latest_of h trace run it)))
      (prefix-behind before middle after (flat_map spelled_for (pair_report h trace run)) (flat_map spelled_for (latest_of h trace run it)) so_far next);
}
