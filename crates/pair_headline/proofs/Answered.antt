-- The D lines of a report of two ranks answer the R lines of the trace, in their order.
use Rattle.std.proofs.Common.{◌≡◌, ◌∙◌, ℕ, suc, Bool, true, false, cond, refl, sym, ap, subst, ◌==◌, Option, Some, None, List, [], ◌∷◌, ◌++◌, map, reverse, append-nil, append_assoc, if◌then◌else◌}
use Rattle.std.specs.List.{flat_map}
use Rattle.std.proofs.lemmas.Bool.{eq-eqb}
use Rattle.std.proofs.lemmas.Grind.{flat_map-append}
use Rattle.std.proofs.lemmas.List.{append_cancel_left, reverse-append}
use Rattle.std.proofs.lemmas.List.Elements.{filter-append}
use Rattle.device_core.specs.Stored.{also}
use Rattle.speed_bin.specs.declared.header.Header.{Header}
use Rattle.ddr_text.specs.declared.lines.ReportLine.{ReportLine}
use Rattle.ddr_text.specs.declared.lines.TraceLine.{TraceLine}
use Rattle.ddr_text.specs.declared.lines.TraceLine.TheVariants.{Read, Write, Flip, Idle}
use Rattle.rank_bus.specs.Buses.{is_same}
use Rattle.rank_bus.specs.declared.rank.Rank.{Rank}
use Rattle.rank_bus.specs.declared.rank.Rank.TheVariants.{Zero, One}
use Rattle.reports.proofs.Answered.{answer-kept, values-latest}
use Rattle.reports.proofs.Order.{Serves-in_order, next-in_order}
use Rattle.reports.proofs.Ready.{or-left, ready-all, ready-behind, ready-more, still}
use Rattle.reports.proofs.Served.{next-unserved}
use Rattle.reports.specs.Report.{answer, answers, is_value, latest, values}
use Rattle.reports.specs.Requests.{Request, is_reading, request_of, requests}
use Rattle.reports.specs.Runs.{Run, Step, has, held, is_served, ready, served}
use Rattle.reports.specs.Sound.{Sound}
use Rattle.pair_reports.proofs.Grown.{AllSound, fewer_steps, own_step}
use Rattle.pair_reports.specs.Lines.{deeds, lines_of, only}
use Rattle.pair_reports.specs.Report.{latest_of, of_rank, pair_report}
use Rattle.pair_reports.specs.Runs.{PairRun, RankStep, deed, done, run_of}
use Rattle.pair_reports.specs.Shown.{answers_from, pair_answers, pair_values}
use Rattle.pair_reports.specs.declared.rank_line.RankLine.{RankLine}
use Rattle.pair_reports.specs.declared.rank_line.RankReportLine.{RankReportLine}
use Rattle.pair_headline.proofs.Pairs.{RankRequest, begins_all, begins_one, of_one, pair_with, pairs_at, pairs_from, request_in, reverse-also, served_by, served_pairs}

-- ---- One rank: a step serves the request that is next, and makes it ready

ready_first : (h : Header) (trace : List TraceLine) (run : Run) (left : List Request) → Sound h trace run → reverse (served run) ++ left ≡ requests trace → ready (requests trace) run ≡ reverse (served run)
ready_first h trace run left sound order =
    ap (λ rs. ready rs run) (sym order)
    ∙ ready-behind (reverse (served run)) left run (unready left order)
    ∙ ready-all (reverse (served run)) run (Serves-in_order (reverse (served run)) run [] (append-nil (reverse (served run))))
  where
    unready : (left : List Request) → reverse (served run) ++ left ≡ requests trace → ready left run ≡ []
    unready [] order = refl
    unready (r ∷ later) order = ap (λ b. cond b (r ∷ ready later run) []) (next-unserved h trace run r sound (next-in_order (requests trace) run r later (sym order)))

ready_next : (h : Header) (trace : List TraceLine) (run : Run) (step : Step) (left later : List Request) → Sound h trace (step ∷ run) → reverse (served run) ++ left ≡ requests trace → reverse (served (step ∷ run)) ++ later ≡ requests trace
    → ready (held (requests trace) run) (step ∷ run) ≡ also (request_in step) []
ready_next h trace run step left later sound before after =
    append_cancel_left (ready (requests trace) run) (ready (held (requests trace) run) (step ∷ run)) (also (request_in step) [])
    (sym (ready-more (requests trace) step run)
    ∙ ready_first h trace (step ∷ run) later sound after
    ∙ ap reverse (served_by step run)
    ∙ reverse-also (request_in step) (served run)
    ∙ ap (λ l. l ++ also (request_in step) []) (sym (ready_first h trace run left sound.1 before)))

-- ---- Both ranks

values_with : (b : Bool) (rank : Rank) (line : ReportLine) (lines : List ReportLine) (rest : List RankReportLine) → rest ≡ of_rank rank lines
    → cond b (record { rank = rank; line = line } ∷ rest) rest ≡ of_rank rank (cond b (line ∷ lines) lines)
values_with true rank line lines rest same = ap (λ l. record { rank = rank; line = line } ∷ l) same
values_with false rank line lines rest same = same

values_of : (rank : Rank) (lines : List ReportLine) → pair_values (of_rank rank lines) ≡ of_rank rank (values lines)
values_of rank [] = refl
values_of rank (line ∷ lines) = values_with (is_value line) rank line (values lines) (pair_values (of_rank rank lines)) (values_of rank lines)

-- what the run answers to a request of a rank, and to some of them
abbrev answer_to : Header → List RankLine → PairRun → RankRequest → List RankReportLine
answer_to h trace run p = of_rank p.rank (answers h (only p.rank trace) (run_of p.rank run) (p.request ∷ []))

abbrev answers_to : Header → List RankLine → PairRun → List RankRequest → List RankReportLine
answers_to h trace run ps = flat_map (answer_to h trace run) ps

-- ---- What was served keeps its answer

abbrev IsServedIn : PairRun → RankRequest → Type 0
IsServedIn run p = is_served p.request.number (run_of p.rank run) ≡ true

abbrev AllServed : PairRun → List RankRequest → Type 0
AllServed run [] = Unit {0}
AllServed run (p ∷ ps) = IsServedIn run p × AllServed run ps

all-append : (run : PairRun) (a b : List RankRequest) → AllServed run a → AllServed run b → AllServed run (a ++ b)
all-append run [] b f k = k
all-append run (p ∷ a) b f k = (f.0, all-append run a b f.1 k)

all-reverse : (run : PairRun) (ps : List RankRequest) → AllServed run ps → AllServed run (reverse ps)
all-reverse run [] f = tt
all-reverse run (p ∷ ps) f = subst (AllServed run) (sym (reverse-append (p ∷ []) ps)) (all-append run (reverse ps) (p ∷ []) (all-reverse run ps f.1) (f.0, tt))

still_of : (number : ℕ) (rank owner : Rank) (step : Step) (run : Run) → is_served number run ≡ true → is_served number (if is_same rank owner then step ∷ run else run) ≡ true
still_of number Zero Zero step run e = still number step run e
still_of number Zero One step run e = e
still_of number One Zero step run e = e
still_of number One One step run e = still number step run e

all-still : (it : RankStep) (run : PairRun) (ps : List RankRequest) → AllServed run ps → AllServed (it ∷ run) ps
all-still it run [] f = tt
all-still it run (p ∷ ps) f = (still_of p.request.number p.rank it.rank it.step (run_of p.rank run) f.0, all-still it run ps f.1)

own_served : (rank : Rank) (step : Step) (r : Request) (run : PairRun) → request_in step ≡ Some r → IsServedIn (record { rank = rank; step = step } ∷ run) (record { rank = rank; request = r })
own_served Zero step r run is = ap (has r.number) (served_by step (run_of Zero run) ∙ ap (λ o. also o (served (run_of Zero run))) is) ∙ or-left (r.number == r.number) (has r.number (served (run_of Zero run))) (eq-eqb r.number r.number refl)
own_served One step r run is = ap (has r.number) (served_by step (run_of One run) ∙ ap (λ o. also o (served (run_of One run))) is) ∙ or-left (r.number == r.number) (has r.number (served (run_of One run))) (eq-eqb r.number r.number refl)

served_more : (it : RankStep) (run : PairRun) (ps : List RankRequest) (o : Option Request) → request_in it.step ≡ o → AllServed (it ∷ run) ps → AllServed (it ∷ run) (also (pair_with it.rank o) ps)
served_more it run ps None is all = all
served_more it run ps (Some r) is all = (own_served it.rank it.step r run is, all)

all_served : (run : PairRun) → AllServed run (served_pairs run)
all_served [] = tt
all_served (it ∷ run) = served_more it run (served_pairs run) (request_in it.step) refl (all-still it run (served_pairs run) (all_served run))

kept_of : (h : Header) (trace : List TraceLine) (rank owner : Rank) (step : Step) (run : Run) (r : Request) → is_served r.number run ≡ true
    → answer h trace (if is_same rank owner then step ∷ run else run) r ≡ answer h trace run r
kept_of h trace Zero Zero step run r e = answer-kept h trace step run r e
kept_of h trace Zero One step run r e = refl
kept_of h trace One Zero step run r e = refl
kept_of h trace One One step run r e = answer-kept h trace step run r e

one_kept : (h : Header) (trace : List RankLine) (it : RankStep) (run : PairRun) (p : RankRequest) → IsServedIn run p → answer_to h trace (it ∷ run) p ≡ answer_to h trace run p
one_kept h trace it run p e = go (is_reading p.request.kind)
  where
    same : answer h (only p.rank trace) (run_of p.rank (it ∷ run)) p.request ≡ answer h (only p.rank trace) (run_of p.rank run) p.request
    same = kept_of h (only p.rank trace) p.rank it.rank it.step (run_of p.rank run) p.request e

    go : (b : Bool) → of_rank p.rank (map (answer h (only p.rank trace) (run_of p.rank (it ∷ run))) (cond b (p.request ∷ []) [])) ≡ of_rank p.rank (map (answer h (only p.rank trace) (run_of p.rank run)) (cond b (p.request ∷ []) []))
    go true = ap (λ line. of_rank p.rank (line ∷ [])) same
    go false = refl

all_kept : (h : Header) (trace : List RankLine) (it : RankStep) (run : PairRun) (ps : List RankRequest) → AllServed run ps → answers_to h trace (it ∷ run) ps ≡ answers_to h trace run ps
all_kept h trace it run [] f = refl
all_kept h trace it run (p ∷ ps) f =
    ap (λ l. l ++ answers_to h trace (it ∷ run) ps) (one_kept h trace it run p f.0)
    ∙ ap (λ l. answer_to h trace run p ++ l) (all_kept h trace it run ps f.1)

-- ---- The report

one_answered : (h : Header) (trace : List RankLine) (run : PairRun) (rank : Rank) (step : Step) (o : Option Request)
    → of_rank rank (answers h (only rank trace) (step ∷ run_of rank run) (also o [])) ≡ answers_to h trace (record { rank = rank; step = step } ∷ run) (also (pair_with rank o) [])
one_answered h trace run rank step None = refl
one_answered h trace run Zero step (Some r) = sym (append-nil (of_rank Zero (answers h (only Zero trace) (step ∷ run_of Zero run) (r ∷ []))))
one_answered h trace run One step (Some r) = sym (append-nil (of_rank One (answers h (only One trace) (step ∷ run_of One run) (r ∷ []))))

values_latest : (h : Header) (trace : List RankLine) (run : PairRun) (rank : Rank) (step : Step) (left later : List Request) → Sound h (only rank trace) (step ∷ run_of rank run)
    → reverse (served (run_of rank run)) ++ left ≡ requests (only rank trace) → reverse (served (step ∷ run_of rank run)) ++ later ≡ requests (only rank trace)
    → pair_values (latest_of h trace run (record { rank = rank; step = step })) ≡ answers_to h trace (record { rank = rank; step = step } ∷ run) (also (pair_with rank (request_in step)) [])
values_latest h trace run rank step left later sound before after =
    let own = only rank trace in
    let now = run_of rank run in
    values_of rank (latest h own now step)
    ∙ ap (of_rank rank) (values-latest h own now step ∙ ap (answers h own (step ∷ now)) (ready_next h own now step left later sound before after))
    ∙ one_answered h trace run rank step (request_in step)

-- of an order that is kept with one more step, the order before
order_before : (o : Option ℕ) (numbers left whole : List ℕ) → reverse (also o numbers) ++ left ≡ whole → reverse numbers ++ also o left ≡ whole
order_before None numbers left whole e = e
order_before (Some n) numbers left whole e = sym (ap (λ l. l ++ left) (reverse-append (n ∷ []) numbers) ∙ append_assoc (reverse numbers) (n ∷ []) left) ∙ e

own_run : (rank : Rank) (step : Step) (run : PairRun) → run_of rank (record { rank = rank; step = step } ∷ run) ≡ step ∷ run_of rank run
own_run Zero step run = refl
own_run One step run = refl

values_report : (h : Header) (trace : List RankLine) (run : PairRun) (left : List ℕ) → AllSound h trace run → reverse (done run) ++ left ≡ deeds (lines_of trace) → pair_values (pair_report h trace run) ≡ answers_to h trace run (reverse (served_pairs run))
values_report h trace [] left sound order = refl
values_report h trace (it ∷ run) left sound order =
    let fewer = fewer_steps h trace it.rank it.step run sound in
    let earlier = order_before (deed it.step) (done run) left (deeds (lines_of trace)) order in
    let before = begins_one h trace run (also (deed it.step) left) it.rank fewer earlier in
    let after = ap (λ own. reverse (served own) ++ of_one it.rank (pairs_at trace left)) (sym (own_run it.rank it.step run)) ∙ begins_one h trace (it ∷ run) left it.rank sound order in
    let mine = also (pair_with it.rank (request_in it.step)) [] in
    filter-append (λ (line : RankReportLine). is_value line.line) (pair_report h trace run) (latest_of h trace run it)
    ∙ ap (λ l. l ++ pair_values (latest_of h trace run it)) (values_report h trace run (also (deed it.step) left) fewer earlier)
    ∙ ap (λ l. answers_to h trace run (reverse (served_pairs run)) ++ l) (values_latest h trace run it.rank it.step (of_one it.rank (pairs_at trace (also (deed it.step) left))) (of_one it.rank (pairs_at trace left)) (own_step h trace it.rank it.step run sound) before after)
    ∙ ap (λ l. l ++ answers_to h trace (it ∷ run) mine) (sym (all_kept h trace it run (reverse (served_pairs run)) (all-reverse run (served_pairs run) (all_served run))))
    ∙ sym (flat_map-append (answer_to h trace (it ∷ run)) (reverse (served_pairs run)) mine)
    ∙ ap (answers_to h trace (it ∷ run)) (sym (reverse-also (pair_with it.rank (request_in it.step)) (served_pairs run)))

answered_line : (h : Header) (trace : List RankLine) (run : PairRun) (n : ℕ) (rank : Rank) (line : TraceLine) (rest : List RankReportLine) (ps : List RankRequest) → rest ≡ answers_to h trace run ps
    → of_rank rank (answers h (only rank trace) (run_of rank run) (request_of n line)) ++ rest ≡ answers_to h trace run (map (λ r. record { rank = rank; request = r }) (request_of n line) ++ ps)
answered_line h trace run n rank (Read line) rest ps same = ap (λ l. of_rank rank (answers h (only rank trace) (run_of rank run) (request_of n (Read line))) ++ l) same
answered_line h trace run n rank (Write line bytes) rest ps same = ap (λ l. of_rank rank (answers h (only rank trace) (run_of rank run) (request_of n (Write line bytes))) ++ l) same
answered_line h trace run n rank (Flip line device bit) rest ps same = same
answered_line h trace run n rank (Idle clocks) rest ps same = same

answered_lines : (h : Header) (trace : List RankLine) (run : PairRun) (n : ℕ) (rest : List RankLine) → answers_from h trace run n rest ≡ answers_to h trace run (pairs_from n rest)
answered_lines h trace run n [] = refl
answered_lines h trace run n (it ∷ rest) = answered_line h trace run n it.rank it.line (answers_from h trace run (suc n) rest) (pairs_from (suc n) rest) (answered_lines h trace run (suc n) rest)

pub answers_all : (h : Header) (trace : List RankLine) (run : PairRun) → AllSound h trace run → reverse (done run) ≡ deeds (lines_of trace) → pair_values (pair_report h trace run) ≡ pair_answers h trace run
answers_all h trace run sound order =
    let whole = append-nil (reverse (done run)) ∙ order in
    values_report h trace run [] sound whole
    ∙ ap (answers_to h trace run) (sym (append-nil (reverse (served_pairs run))) ∙ begins_all h trace run [] sound whole)
    ∙ sym (answered_lines h trace run 1 trace)
