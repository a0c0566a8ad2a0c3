-- The same over a longer trace.
use Rattle.std.proofs.Common.{◌≡◌, ◌∙◌, ℕ, suc, refl, sym, ap, List, [], ◌∷◌, ◌++◌, map, reverse, append_assoc}
use Rattle.speed_bin.specs.declared.header.Header.{Header}
use Rattle.ddr_text.specs.declared.lines.TraceLine.{TraceLine}
use Rattle.ddr_text.specs.declared.lines.ReportLine.{ReportLine}
use Rattle.rank_bus.specs.declared.rank.Rank.{Rank}
use Rattle.rank_bus.specs.declared.rank.Rank.TheVariants.{Zero, One}
use Rattle.reports.specs.Report.{latest}
use Rattle.reports.specs.Runs.{Step, Run}
use Rattle.reports.specs.Sound.{Sound}
use Rattle.reports.proofs.Grows.{sound-longer}
use Rattle.reports.proofs.Longer.{latest-longer}
use Rattle.pair_reports.specs.Lines.{deed_of, deeds, deeds_from, line_for, lines_of, only}
use Rattle.pair_reports.specs.Report.{latest_of, of_rank, pair_report}
use Rattle.pair_reports.specs.Runs.{PairRun, done, run_of}
use Rattle.pair_reports.specs.Sound.{IsBegun}
use Rattle.pair_reports.specs.declared.rank_line.RankLine.{RankLine}

map-append : {A B : Type 0} (f : A → B) (a b : List A) → map f (a ++ b) ≡ map f a ++ map f b
map-append f [] b = refl
map-append f (x ∷ a) b = ap (λ rest. f x ∷ rest) (map-append f a b)

only-append : (rank : Rank) (trace more : List RankLine) → only rank (trace ++ more) ≡ only rank trace ++ only rank more
only-append rank trace more = map-append (line_for rank) trace more

lines-append : (trace more : List RankLine) → lines_of (trace ++ more) ≡ lines_of trace ++ lines_of more
lines-append trace more = map-append (λ (line : RankLine). line.line) trace more

-- the sound run of a rank is one of a longer trace
pub sound_longer : (h : Header) (trace more : List RankLine) (rank : Rank) (run : Run) → Sound h (only rank trace) run → Sound h (only rank (trace ++ more)) run
sound_longer h trace more rank run sound = rw (only-append rank trace more) (sound-longer h (only rank trace) (only rank more) run sound)

latest_longer : (h : Header) (trace more : List RankLine) (rank : Rank) (run : Run) (step : Step) → Sound h (only rank trace) (step ∷ run)
    → of_rank rank (latest h (only rank (trace ++ more)) run step) ≡ of_rank rank (latest h (only rank trace) run step)
latest_longer h trace more rank run step sound =
    rw (only-append rank trace more) (ap (λ (lines : List ReportLine). of_rank rank lines) (latest-longer h (only rank trace) (only rank more) run step sound))

-- the steps of each rank are sound
abbrev pub AllSound : Header → List RankLine → PairRun → Type 0
AllSound h trace run = (rank : Rank) → Sound h (only rank trace) (run_of rank run)

pub own_step : (h : Header) (trace : List RankLine) (owner : Rank) (step : Step) (run : PairRun)
    → AllSound h trace (record { rank = owner; step = step } ∷ run) → Sound h (only owner trace) (step ∷ run_of owner run)
own_step h trace Zero step run sound = sound Zero
own_step h trace One step run sound = sound One

pub fewer_steps : (h : Header) (trace : List RankLine) (owner : Rank) (step : Step) (run : PairRun)
    → AllSound h trace (record { rank = owner; step = step } ∷ run) → AllSound h trace run
fewer_steps h trace Zero step run sound Zero = (sound Zero).1
fewer_steps h trace Zero step run sound One = sound One
fewer_steps h trace One step run sound Zero = sound Zero
fewer_steps h trace One step run sound One = (sound One).1

report_longer : (h : Header) (trace more : List RankLine) (run : PairRun) → AllSound h trace run → pair_report h (trace ++ more) run ≡ pair_report h trace run
report_longer h trace more [] sound = refl
report_longer h trace more (it ∷ run) sound =
    let ih = report_longer h trace more run (fewer_steps h trace it.rank it.step run sound) in
    ap (λ lines. lines ++ latest_of h (trace ++ more) run it) ih
    ∙ ap (λ lines. pair_report h trace run ++ lines) (latest_longer h trace more it.rank (run_of it.rank run) it.step (own_step h trace it.rank it.step run sound))

pub begun_report_longer : (h : Header) (trace more : List RankLine) (run : PairRun) → IsBegun h trace run → pair_report h (trace ++ more) run ≡ pair_report h trace run
begun_report_longer h trace more run begun = report_longer h trace more run begun.sound

-- ---- What is to be done

abbrev count_on : ℕ → List TraceLine → ℕ
count_on n [] = n
count_on n (line ∷ trace) = count_on (suc n) trace

deeds-append : (n : ℕ) (trace more : List TraceLine) → deeds_from n (trace ++ more) ≡ deeds_from n trace ++ deeds_from (count_on n trace) more
deeds-append n [] more = refl
deeds-append n (line ∷ trace) more =
    ap (λ rest. deed_of n line ++ rest) (deeds-append (suc n) trace more)
    ∙ sym (append_assoc (deed_of n line) (deeds_from (suc n) trace) (deeds_from (count_on (suc n) trace) more))

pub begun_longer : (h : Header) (trace more : List RankLine) (run : PairRun) → IsBegun h trace run → IsBegun h (trace ++ more) run
begun_longer h trace more run begun = record {
  sound = λ rank. sound_longer h trace more rank (run_of rank run) (begun.sound rank);
  shares = begun.shares;
  left = begun.left ++ deeds_from (count_on 1 (lines_of trace)) (lines_of more);
  in_order =
      sym (append_assoc (reverse (done run)) begun.left (deeds_from (count_on 1 (lines_of trace)) (lines_of more)))
      ∙ ap (λ rest. rest ++ deeds_from (count_on 1 (lines_of trace)) (lines_of more)) begun.in_order
      ∙ sym (deeds-append 1 (lines_of trace) (lines_of more))
      ∙ ap deeds (sym (lines-append trace more));
}
