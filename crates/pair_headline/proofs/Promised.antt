-- A finished run of two ranks keeps the headline.
use Rattle.std.proofs.Common.{◌≡◌, ◌∙◌, ℕ, suc, true, sym, ap, subst, None, List, [], ◌∷◌, ◌++◌, length, append-nil}
use Rattle.error_scrub.specs.Tame.{IsTame}
use Rattle.rank_bus.specs.Buses.{ClocksRise}
use Rattle.rank_bus.specs.declared.rank.Rank.{Rank}
use Rattle.rank_bus.specs.declared.rank.Rank.TheVariants.{Zero, One}
use Rattle.reports.proofs.Bounded.{verdict-sound}
use Rattle.reports.proofs.Logged.{logged}
use Rattle.reports.proofs.Order.{Serves-in_order}
use Rattle.reports.proofs.Ready.{is_served-each}
use Rattle.reports.specs.Barriers.{turned_bits}
use Rattle.reports.specs.Delivered.{AreInside, IsInside}
use Rattle.reports.specs.Headline.{IsRight, shown_log}
use Rattle.reports.specs.Readings.{changes_before, reading_of}
use Rattle.reports.specs.Requests.{Request, requests}
use Rattle.reports.specs.Runs.{Run, is_served, log_of}
use Rattle.reports.specs.Sound.{AllBounded, Sound}
use Rattle.speed_bin.specs.Header.{IsAccepted, shape_of}
use Rattle.speed_bin.specs.Log.{Log}
use Rattle.speed_bin.specs.Rules.{broken_at_end, verdict_after, verdict_at_end}
use Rattle.speed_bin.specs.declared.header.Header.{Header}
use Rattle.ddr_text.specs.declared.lines.TraceLine.{TraceLine}
use Rattle.command_words.specs.Geometry.{Shape}
use Rattle.pair_reports.proofs.Told.{tells}
use Rattle.pair_reports.specs.Headline.{PairHeadline}
use Rattle.pair_reports.specs.Lines.{line_for, lines_of, only}
use Rattle.pair_reports.specs.Runs.{PairRun, bus_of, run_of}
use Rattle.pair_reports.specs.Sound.{IsBegun, IsPairRun}
use Rattle.pair_reports.specs.declared.rank_line.RankLine.{RankLine}
use Rattle.pair_headline.proofs.Accessed.{in_order}
use Rattle.pair_headline.proofs.Answered.{answers_all}
use Rattle.pair_headline.proofs.Pairs.{begins_one}
use Rattle.pair_headline.proofs.Shown.{shows_bus}
use Rattle.pair_headline.proofs.Turned.{turns_all}

-- what is taken from laws of the crates below
pub record Laws : Type 0 where
  pub tame : (h : Header) (trace : List TraceLine) (run : Run) (earlier later : List Request) (r : Request) → AreInside (shape_of h) trace → Sound h trace run → requests trace ≡ earlier ++ r ∷ later → is_served r.number run ≡ true
      → IsTame (changes_before h trace run r) r.line → IsRight trace r (reading_of h trace run r)
  pub bounded : (h : Header) (trace : List TraceLine) (run : Run) → IsAccepted h → Sound h trace run → AllBounded h (log_of run)
  pub rises : (h : Header) (trace : List RankLine) (run : PairRun) → IsBegun h trace run → ClocksRise (bus_of run)

-- the lines of one rank are of the subchannel where all are
own_inside : (g : Shape) (rank owner : Rank) (line : TraceLine) → IsInside g line → IsInside g (line_for rank (record { rank = owner; line = line }))
own_inside g Zero Zero line inside = inside
own_inside g Zero One line inside = tt
own_inside g One Zero line inside = tt
own_inside g One One line inside = inside

pub all_inside : (g : Shape) (rank : Rank) (trace : List RankLine) → AreInside g (lines_of trace) → AreInside g (only rank trace)
all_inside g rank [] inside = tt
all_inside g rank (it ∷ trace) inside = (own_inside g rank it.rank it.line inside.0, all_inside g rank trace inside.1)

-- no rule is broken in a rank
fine : (h : Header) (trace : List TraceLine) (run : Run) (clock : ℕ) → Sound h trace run → broken_at_end h clock (log_of run) ≡ None → verdict_at_end h clock (log_of run) ≡ None
fine h trace run clock sound ends =
    ap (λ v. verdict_after v (suc (length (log_of run))) (broken_at_end h clock (log_of run))) (verdict-sound h trace run sound)
    ∙ ap (verdict_after None (suc (length (log_of run)))) ends

pub verdict : (h : Header) (trace : List RankLine) (run : PairRun) (clock : ℕ) (rank : Rank) → IsPairRun h trace run clock → verdict_at_end h clock (shown_log h (only rank trace) (run_of rank run)) ≡ None
verdict h trace run clock rank it =
    subst (λ (log : Log). verdict_at_end h clock log ≡ None) (sym (logged h (only rank trace) (run_of rank run))) (fine h (only rank trace) (run_of rank run) clock (it.sound rank) (it.ends rank))

-- each request of a rank is served
each_served : (h : Header) (trace : List RankLine) (run : PairRun) (clock : ℕ) (rank : Rank) (earlier later : List Request) (r : Request) → IsPairRun h trace run clock → requests (only rank trace) ≡ earlier ++ r ∷ later
    → is_served r.number (run_of rank run) ≡ true
each_served h trace run clock rank earlier later r it is =
    is_served-each (requests (only rank trace)) earlier later r (run_of rank run) is
    (Serves-in_order (requests (only rank trace)) (run_of rank run) [] (begins_one h trace run [] rank it.sound (append-nil _ ∙ it.in_order)))

pub promises : Laws → (h : Header) (trace : List RankLine) (run : PairRun) (clock : ℕ) → IsAccepted h → AreInside (shape_of h) (lines_of trace) → IsPairRun h trace run clock → PairHeadline h trace run clock
promises laws h trace run clock accepted inside it = record {
  shows = shows_bus h trace run;
  rules = λ rank. verdict h trace run clock rank it;
  shares = it.shares;
  rises = laws.rises h trace run (record { sound = it.sound; shares = it.shares; left = []; in_order = append-nil _ ∙ it.in_order });
  serves = in_order h trace run it.sound it.in_order;
  reads = answers_all h trace run it.sound it.in_order;
  turns = λ rank. ap turned_bits (tells h trace run rank) ∙ turns_all h trace run rank it.sound it.in_order;
  memory = λ rank earlier later r is reads tame.
      laws.tame h (only rank trace) (run_of rank run) earlier later r (all_inside (shape_of h) rank trace inside) (it.sound rank) is (each_served h trace run clock rank earlier later r it is) tame;
  bounded = λ rank. subst (λ (log : Log). AllBounded h log) (sym (logged h (only rank trace) (run_of rank run))) (laws.bounded h (only rank trace) (run_of rank run) accepted (it.sound rank));
}
