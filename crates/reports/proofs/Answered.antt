-- The D lines of a report.
use Rattle.std.proofs.Common.{◌≡◌, ℕ, Bool, true, false, cond, Option, Some, None, List, [], ◌∷◌, ◌++◌, map, refl, sym, ap, ◌∙◌, slice_get, ◌-◌}
use Rattle.std.proofs.lemmas.List.{map-append}
use Rattle.std.proofs.lemmas.List.Elements.{filter-append}
use Rattle.speed_bin.specs.declared.header.Header.{Header}
use Rattle.ddr_text.specs.declared.lines.TraceLine.{TraceLine}
use Rattle.ddr_text.specs.declared.lines.TraceLine.TheVariants.{Read, Write, Flip, Idle}
use Rattle.ddr_text.specs.declared.lines.ReportLine.{ReportLine}
use Rattle.ddr_text.specs.declared.lines.ReportLine.TheVariants.{Value as ValueLine}
use Rattle.device_core.specs.Stored.{reading}
use Rattle.reports.specs.Readings.{changes, before, reading_of}
use Rattle.reports.specs.Requests.{Request, requests, reads, is_reading}
use Rattle.reports.specs.Runs.{Step, Issues, Flips, Run, log_of, is_served, ready, held}
use Rattle.reports.specs.Report.{answer, answers, flip_lines, latest, report, is_value, values}
use Rattle.speed_bin.specs.Log.{last_clock}
use Rattle.reports.specs.Sound.{IsRun}
use Rattle.reports.proofs.Ready.{ready-none, ready-more, ready-held, ready-all, ready-of_held}

pub values-append : (a b : List ReportLine) → values (a ++ b) ≡ values a ++ values b
values-append a b = filter-append is_value a b

pub values-map : (h : Header) (trace : List TraceLine) (run : Run) (rs : List Request) → values (map (answer h trace run) rs) ≡ map (answer h trace run) rs
values-map h trace run [] = refl
values-map h trace run (r ∷ rs) = ap (λ l. answer h trace run r ∷ l) (values-map h trace run rs)

values-answers : (h : Header) (trace : List TraceLine) (run : Run) (rs : List Request) → values (answers h trace run rs) ≡ answers h trace run rs
values-answers h trace run rs = values-map h trace run (reads rs)

pub values-flip : (clock : ℕ) (line : Option TraceLine) → values (flip_lines clock line) ≡ []
values-flip clock (Some (Flip line device bit)) = refl
values-flip clock (Some (Read line)) = refl
values-flip clock (Some (Write line bytes)) = refl
values-flip clock (Some (Idle clocks)) = refl
values-flip clock None = refl

pub answers-append : (h : Header) (trace : List TraceLine) (run : Run) (a b : List Request) → answers h trace run (a ++ b) ≡ answers h trace run a ++ answers h trace run b
answers-append h trace run a b = ap (map (answer h trace run)) (filter-append (λ r. is_reading r.kind) a b) ∙ map-append (answer h trace run) (reads a) (reads b)

-- the D line of a request, by the run before the step that serves it
abbrev answer_at : Header → List TraceLine → Run → Request → ReportLine
answer_at h trace at r = ValueLine r.number r.line (reading (changes h trace at) r.line).bytes (reading (changes h trace at) r.line).state

-- a request that was answered keeps its answer
pub answer-kept : (h : Header) (trace : List TraceLine) (step : Step) (run : Run) (r : Request) → is_served r.number run ≡ true → answer h trace (step ∷ run) r ≡ answer h trace run r
answer-kept h trace step run r e = ap (λ b. answer_at h trace (cond b (before r.number run) run) r) e

pub reading-kept : (h : Header) (trace : List TraceLine) (step : Step) (run : Run) (r : Request) → is_served r.number run ≡ true → reading_of h trace (step ∷ run) r ≡ reading_of h trace run r
reading-kept h trace step run r e = ap (λ b. reading (changes h trace (cond b (before r.number run) run)) r.line) e

kept-reads : (h : Header) (trace : List TraceLine) (step : Step) (run : Run) (r : Request) (rs : List Request) (c : Bool) → is_served r.number run ≡ true → map (answer h trace (step ∷ run)) rs ≡ map (answer h trace run) rs → map (answer h trace (step ∷ run)) (cond c (r ∷ rs) rs) ≡ map (answer h trace run) (cond c (r ∷ rs) rs)
kept-reads h trace step run r rs true e ih = ap (λ v. v ∷ map (answer h trace (step ∷ run)) rs) (answer-kept h trace step run r e) ∙ ap (λ l. answer h trace run r ∷ l) ih
kept-reads h trace step run r rs false e ih = ih

kept-step : (h : Header) (trace : List TraceLine) (step : Step) (run : Run) (r : Request) (rs : List Request) (b : Bool) → is_served r.number run ≡ b → answers h trace (step ∷ run) rs ≡ answers h trace run rs → answers h trace (step ∷ run) (cond b (r ∷ rs) []) ≡ answers h trace run (cond b (r ∷ rs) [])
kept-step h trace step run r rs true e ih = kept-reads h trace step run r (reads rs) (is_reading r.kind) e ih
kept-step h trace step run r rs false e ih = refl

answers-kept : (h : Header) (trace : List TraceLine) (step : Step) (run : Run) (rs : List Request) → answers h trace (step ∷ run) (ready rs run) ≡ answers h trace run (ready rs run)
answers-kept h trace step run [] = refl
answers-kept h trace step run (r ∷ rs) = kept-step h trace step run r (ready rs run) (is_served r.number run) refl (answers-kept h trace step run rs)

-- the D lines of a step are those of the requests that become ready with it
pub values-latest : (h : Header) (trace : List TraceLine) (run : Run) (step : Step) → values (latest h trace run step) ≡ answers h trace (step ∷ run) (ready (held (requests trace) run) (step ∷ run))
values-latest h trace run (Issues s) = values-answers h trace (Issues s ∷ run) (ready (held (requests trace) run) (Issues s ∷ run))
values-latest h trace run (Flips k) =
    values-flip (last_clock (log_of run)) (slice_get trace (k - 1))
    ∙ sym (ap (answers h trace (Flips k ∷ run)) (unchanged (requests trace)))
  where
    flips-ready : (rs : List Request) → ready rs (Flips k ∷ run) ≡ ready rs run
    flips-ready [] = refl
    flips-ready (r ∷ rs) = ap (λ l. cond (is_served r.number run) (r ∷ l) []) (flips-ready rs)

    unchanged : (rs : List Request) → ready (held rs run) (Flips k ∷ run) ≡ []
    unchanged rs = flips-ready (held rs run) ∙ ready-of_held rs run

-- the D lines so far are those of the requests before which none is unserved
pub values-report : (h : Header) (trace : List TraceLine) (run : Run) → values (report h trace run) ≡ answers h trace run (ready (requests trace) run)
values-report h trace [] = sym (ap (answers h trace []) (ready-none (requests trace)))
values-report h trace (step ∷ run) =
    values-append (report h trace run) (latest h trace run step)
    ∙ ap (λ l. l ++ values (latest h trace run step)) (values-report h trace run ∙ sym (answers-kept h trace step run (requests trace)))
    ∙ ap (λ l. answers h trace (step ∷ run) (ready (requests trace) run) ++ l) (values-latest h trace run step)
    ∙ sym (answers-append h trace (step ∷ run) (ready (requests trace) run) (ready (held (requests trace) run) (step ∷ run)))
    ∙ ap (answers h trace (step ∷ run)) (sym (ready-more (requests trace) step run))

-- and so they begin those of all requests
pub values-begin : (h : Header) (trace : List TraceLine) (run : Run) → values (report h trace run) ++ answers h trace run (held (requests trace) run) ≡ answers h trace run (requests trace)
values-begin h trace run =
    ap (λ l. l ++ answers h trace run (held (requests trace) run)) (values-report h trace run)
    ∙ sym (answers-append h trace run (ready (requests trace) run) (held (requests trace) run))
    ∙ ap (answers h trace run) (ready-held (requests trace) run)

-- each read of a finished run has its D line
pub each_read_answered : (h : Header) (trace : List TraceLine) (run : Run) (clock : ℕ) → IsRun h trace run clock → values (report h trace run) ≡ answers h trace run (requests trace)
each_read_answered h trace run clock r = values-report h trace run ∙ ap (answers h trace run) (ready-all (requests trace) run r.serves)
