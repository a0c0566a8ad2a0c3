-- The C lines of a report of two ranks are the commands of the bus.
use Rattle.std.proofs.Common.{◌≡◌, ◌∙◌, ℕ, ◌-◌, refl, ap, Option, Some, None, List, [], ◌∷◌, ◌++◌, map, reverse, slice_get, append-nil}
use Rattle.std.proofs.lemmas.List.{reverse-append}
use Rattle.device_core.specs.Stored.{also}
use Rattle.speed_bin.specs.Log.{last_clock}
use Rattle.speed_bin.specs.declared.header.Header.{Header}
use Rattle.ddr_text.specs.declared.lines.TraceLine.{TraceLine}
use Rattle.ddr_text.specs.declared.lines.TraceLine.TheVariants.{Read, Write, Flip, Idle}
use Rattle.rank_bus.specs.Buses.{BusPlace}
use Rattle.rank_bus.specs.declared.rank.Rank.{Rank}
use Rattle.reports.specs.Report.{answer, flip_lines}
use Rattle.reports.specs.Requests.{Request, reads, requests}
use Rattle.reports.specs.Runs.{Issues, Flips, Run, Step, held, log_of, ready}
use Rattle.pair_reports.specs.Lines.{only}
use Rattle.pair_reports.specs.Report.{latest_of, of_rank, pair_report}
use Rattle.pair_reports.specs.Runs.{PairRun, bus_of, place_of, run_of}
use Rattle.pair_reports.specs.Shown.{place_in, shown_places}
use Rattle.pair_reports.specs.declared.rank_line.RankLine.{RankLine}
use Rattle.pair_reports.specs.declared.rank_line.RankReportLine.{RankReportLine}

pub also-append : {A : Type 0} (o : Option A) (a b c : List A) → c ≡ a ++ b → also o c ≡ also o a ++ b
also-append None a b c same = same
also-append (Some x) a b c same = ap (λ l. x ∷ l) same

shown-append : (a b : List RankReportLine) → shown_places (a ++ b) ≡ shown_places a ++ shown_places b
shown-append [] b = refl
shown-append (it ∷ a) b = also-append (place_in it.rank it.line) (shown_places a) (shown_places b) (shown_places (a ++ b)) (shown-append a b)

shown-answers : (rank : Rank) (h : Header) (trace : List TraceLine) (run : Run) (rs : List Request) → shown_places (of_rank rank (map (answer h trace run) rs)) ≡ []
shown-answers rank h trace run [] = refl
shown-answers rank h trace run (r ∷ rs) = shown-answers rank h trace run rs

shown-flip : (rank : Rank) (clock : ℕ) (line : Option TraceLine) → shown_places (of_rank rank (flip_lines clock line)) ≡ []
shown-flip rank clock (Some (Flip line device bit)) = refl
shown-flip rank clock (Some (Read line)) = refl
shown-flip rank clock (Some (Write line bytes)) = refl
shown-flip rank clock (Some (Idle clocks)) = refl
shown-flip rank clock None = refl

shown-latest : (h : Header) (trace : List RankLine) (run : PairRun) (rank : Rank) (step : Step) → shown_places (latest_of h trace run (record { rank = rank; step = step })) ≡ also (place_of rank step) []
shown-latest h trace run rank (Issues s) =
    let own = only rank trace in
    let more = Issues s ∷ run_of rank run in
    ap (λ l. record { rank = rank; clock = s.issued.clock; command = s.issued.command } ∷ l) (shown-answers rank h own more (reads (ready (held (requests own) (run_of rank run)) more)))
shown-latest h trace run rank (Flips number) = shown-flip rank (last_clock (log_of (run_of rank run))) (slice_get (only rank trace) (number - 1))

last-first : (o : Option BusPlace) (a b : List BusPlace) → reverse a ≡ b → reverse (a ++ also o []) ≡ also o b
last-first None a b same = ap reverse (append-nil a) ∙ same
last-first (Some x) a b same = reverse-append a (x ∷ []) ∙ ap (λ l. x ∷ l) same

pub shows_bus : (h : Header) (trace : List RankLine) (run : PairRun) → reverse (shown_places (pair_report h trace run)) ≡ bus_of run
shows_bus h trace [] = refl
shows_bus h trace (it ∷ run) =
    ap reverse (shown-append (pair_report h trace run) (latest_of h trace run it) ∙ ap (λ l. shown_places (pair_report h trace run) ++ l) (shown-latest h trace run it.rank it.step))
    ∙ last-first (place_of it.rank it.step) (shown_places (pair_report h trace run)) (bus_of run) (shows_bus h trace run)
