-- How many requests are not served, and how many lines a report has.
use Rattle.std.proofs.Common.{◌≡◌, ℕ, suc, ◌+◌, ◌-◌, ◌*◌, ◌/◌, ◌<◌, ◌≤◌, Bool, true, false, cond, Option, Some, None, List, [], ◌∷◌, ◌++◌, map, reverse, length, sum, slice_get, refl, sym, ap, ◌∙◌, arith, append_assoc, append-nil}
use Rattle.std.specs.Prelude.{not, filter, nat_lt}
use Rattle.std.proofs.Math.Nat.{div-mul-le_self, mul-le-mul_left}
use Rattle.std.proofs.lemmas.Bool.{ltb-true, ltb-false}
use Rattle.std.proofs.lemmas.List.{length-append, reverse-append}
use Rattle.speed_bin.specs.Gap.{n_max, n_close, n_tail}
use Rattle.speed_bin.specs.Header.{IsAccepted}
use Rattle.speed_bin.specs.Log.{Issued, last_clock}
use Rattle.speed_bin.specs.declared.header.Header.{Header}
use Rattle.requests.specs.Queue.{waiting, is_served as is_served_number}
use Rattle.requests.specs.declared.waiting.Waiting.{Waiting}
use Rattle.ddr_text.specs.declared.lines.TraceLine.{TraceLine}
use Rattle.ddr_text.specs.declared.lines.TraceLine.TheVariants.{Read, Write, Flip, Idle}
use Rattle.ddr_text.specs.declared.lines.ReportLine.{ReportLine}
use Rattle.ddr_text.specs.declared.lines.ReportLine.TheVariants.{End as EndLine}
use Rattle.reports.specs.Requests.{Request, requests_from, requests, reads, is_reading}
use Rattle.reports.specs.Runs.{Step, Issues, Flips, Run, log_of, is_served, unserved, ready, held}
use Rattle.reports.specs.Barriers.{bits_of, turned_bits, idle_clocks}
use Rattle.reports.specs.Offered.{rank, offered, controller_steps}
use Rattle.reports.specs.Report.{answer, flip_lines, latest, report, values}
use Rattle.reports.specs.Sound.{Sound, IsRun}
use Rattle.reports.specs.Stats.{stats, stat_lines}
use Rattle.reports.specs.Whole.{whole}
use Rattle.ddr_text.specs.ReportParts.{Refusal, refusal_lines, places_of}
use Rattle.reports.proofs.Answered.{values-append, values-map, each_read_answered}
use Rattle.reports.proofs.Bits.{turned-append, turned-answers, each_flip_turned}
use Rattle.ddr_text.proofs.Places.{places_of-append}
use Rattle.reports.proofs.Logged.{logged, places_of-answers}
use Rattle.reports.proofs.Offered.{wait, numbered-part, served-rank}

-- ---- Requests that are not served

count-step : (b c : Bool) (w : Waiting) (r : Request) (ws : List Waiting) (rs : List Request) → b ≡ c → length ws ≡ length rs → length (cond b (w ∷ ws) ws) ≡ length (cond c (r ∷ rs) rs)
count-step true true w r ws rs e f = ap suc f
count-step false false w r ws rs e f = f
count-step true false w r ws rs e f = cc
count-step false true w r ws rs e f = cc

count-part : (h : Header) (trace : List TraceLine) (run : Run) (before rs : List Request) → Sound h trace run → requests trace ≡ before ++ rs
    → length (filter (λ w. not (is_served_number w.id (controller_steps trace run))) (map (wait h trace) rs)) ≡ length (unserved rs run)
count-part h trace run before [] sound e = refl
count-part h trace run before (r ∷ rs) sound e =
    count-step (not (is_served_number (rank trace r.number) (controller_steps trace run))) (not (is_served r.number run)) (wait h trace r) r
    (filter (λ w. not (is_served_number w.id (controller_steps trace run))) (map (wait h trace) rs)) (unserved rs run)
    (ap not (served-rank h trace run before rs r sound e))
    (count-part h trace run (before ++ r ∷ []) rs sound (e ∙ sym (append_assoc before (r ∷ []) rs)))

pub counts-unserved : (h : Header) (trace : List TraceLine) (run : Run) → Sound h trace run → length (waiting h (offered trace) (controller_steps trace run)) ≡ length (unserved (requests trace) run)
counts-unserved h trace run sound =
    ap (λ l. length (filter (λ w. not (is_served_number w.id (controller_steps trace run))) l)) (numbered-part h trace 1 [] (requests trace) [] refl (sym (append-nil (requests trace))))
    ∙ count-part h trace run [] (requests trace) sound refl

-- ---- Lines of a report

abbrev kinds : List ReportLine → ℕ
kinds lines = length (places_of lines) + length (values lines) + length (turned_bits lines)

kinds-append : (a b : List ReportLine) → kinds (a ++ b) ≡ kinds a + kinds b
kinds-append a b =
    let p : length (places_of (a ++ b)) ≡ length (places_of a) + length (places_of b) = ap length (places_of-append a b) ∙ length-append (places_of a) (places_of b) in
    let v : length (values (a ++ b)) ≡ length (values a) + length (values b) = ap length (values-append a b) ∙ length-append (values a) (values b) in
    let t : length (turned_bits (a ++ b)) ≡ length (turned_bits a) + length (turned_bits b) = ap length (turned-append a b) ∙ length-append (turned_bits a) (turned_bits b) in
    omega (arith, p, v, t)

kinds-answers : (h : Header) (trace : List TraceLine) (run : Run) (rs : List Request) → kinds (map (answer h trace run) rs) ≡ length (map (answer h trace run) rs)
kinds-answers h trace run rs =
    let p : length (places_of (map (answer h trace run) rs)) ≡ 0 = ap length (places_of-answers h trace run rs) in
    let v : length (values (map (answer h trace run) rs)) ≡ length (map (answer h trace run) rs) = ap length (values-map h trace run rs) in
    let t : length (turned_bits (map (answer h trace run) rs)) ≡ 0 = ap length (turned-answers h trace run rs) in
    omega (arith, p, v, t)

kinds-flip : (clock : ℕ) (o : Option TraceLine) → kinds (flip_lines clock o) ≡ length (flip_lines clock o)
kinds-flip clock (Some (Flip line device bit)) = refl
kinds-flip clock (Some (Read line)) = refl
kinds-flip clock (Some (Write line bytes)) = refl
kinds-flip clock (Some (Idle clocks)) = refl
kinds-flip clock None = refl

kinds-latest : (h : Header) (trace : List TraceLine) (run : Run) (step : Step) → kinds (latest h trace run step) ≡ length (latest h trace run step)
kinds-latest h trace run (Issues s) =
    let e = kinds-answers h trace (Issues s ∷ run) (reads (ready (held (requests trace) run) (Issues s ∷ run))) in
    omega (arith, e)
kinds-latest h trace run (Flips k) = kinds-flip (last_clock (log_of run)) (slice_get trace (k - 1))

kinds-report : (h : Header) (trace : List TraceLine) (run : Run) → length (report h trace run) ≡ kinds (report h trace run)
kinds-report h trace [] = refl
kinds-report h trace (step ∷ run) =
    let a = kinds-append (report h trace run) (latest h trace run step) in
    let b = kinds-latest h trace run step in
    let c = length-append (report h trace run) (latest h trace run step) in
    let d = kinds-report h trace run in
    omega (arith, a, b, c, d)

-- ---- At most one line for each trace line

length-rev : (xs : List Issued) → length (reverse xs) ≡ length xs
length-rev [] = refl
length-rev (x ∷ xs) = ap length (reverse-append (x ∷ []) xs) ∙ length-append (reverse xs) (x ∷ []) ∙ omega (arith, length-rev xs)

length-map : (h : Header) (trace : List TraceLine) (run : Run) (rs : List Request) → length (map (answer h trace run) rs) ≡ length rs
length-map h trace run [] = refl
length-map h trace run (r ∷ rs) = ap suc (length-map h trace run rs)

length-cond : (b : Bool) (r : Request) (rs : List Request) (n : ℕ) → length rs ≤ n → length (cond b (r ∷ rs) rs) ≤ suc n
length-cond true r rs n le = omega (arith, le)
length-cond false r rs n le = omega (arith, le)

length-reads : (rs : List Request) → length (reads rs) ≤ length rs
length-reads [] = omega arith
length-reads (r ∷ rs) = length-cond (is_reading r.kind) r (reads rs) (length rs) (length-reads rs)

-- D and F lines stand for R and F lines
both-lines : (n : ℕ) (trace : List TraceLine) → length (requests_from n trace) + length (bits_of trace) ≤ length trace
both-lines n [] = omega arith
both-lines n (Read line ∷ trace) = let k = both-lines (suc n) trace in omega (arith, k)
both-lines n (Write line bytes ∷ trace) = let k = both-lines (suc n) trace in omega (arith, k)
both-lines n (Flip line device bit ∷ trace) = let k = both-lines (suc n) trace in omega (arith, k)
both-lines n (Idle clocks ∷ trace) = let k = both-lines (suc n) trace in omega (arith, k)

pub report-lines : (h : Header) (trace : List TraceLine) (run : Run) (clock : ℕ) → IsRun h trace run clock → length (report h trace run) ≤ length (log_of run) + length trace
report-lines h trace run clock r =
    let k = kinds-report h trace run in
    let p : length (places_of (report h trace run)) ≡ length (log_of run) = sym (length-rev (places_of (report h trace run))) ∙ ap length (logged h trace run) in
    let v : length (values (report h trace run)) ≡ length (reads (requests trace)) = ap length (each_read_answered h trace run clock r) ∙ length-map h trace run (reads (requests trace)) in
    let t : length (turned_bits (report h trace run)) ≡ length (bits_of trace) = ap length (each_flip_turned h trace run clock r) in
    omega (arith, k, p, v, t, length-reads (requests trace), both-lines 1 trace)

stat-count : (h : Header) (trace : List TraceLine) (run : Run) → length (stats h trace run) ≡ 14
unfolding stat_lines
stat-count h trace run = refl

whole-lines : (h : Header) (trace : List TraceLine) (run : Run) (clock : ℕ) (refusal : Option Refusal) → length (whole h trace run clock refusal) ≤ length (report h trace run) + 16
whole-lines h trace run clock None =
    let k = length-append (report h trace run ++ stats h trace run) (EndLine clock ∷ []) in
    let l = length-append (report h trace run) (stats h trace run) in
    omega (arith, k, l, stat-count h trace run)
whole-lines h trace run clock (Some x) =
    let k = length-append (report h trace run ++ stats h trace run) (EndLine clock ∷ refusal_lines (Some x)) in
    let l = length-append (report h trace run) (stats h trace run) in
    omega (arith, k, l, stat-count h trace run)

-- ---- Fewer lines than the limit

times : (a b c : ℕ) → b ≤ c → a * b ≤ a * c
times a b c le = mul-le-mul_left a le

-- intervals that passed by the end of the largest job: nrefi is above 6.5 * n_max + 52
few-intervals : (q r m n idle clock : ℕ) → q * r ≤ clock → 104 + 13 * m ≤ 2 * r → clock ≤ 2 * (idle + 8 * m * (n + 3)) → n ≤ 1048576 → idle ≤ 4294967296 → q < 165191050
few-intervals q r m n idle clock ticks slow end small short = go (nat_lt q 165191050) refl
  where
    go : (b : Bool) → nat_lt q 165191050 ≡ b → q < 165191050
    go true e = ltb-true q 165191050 e
    go false e =
        let many : 165191050 ≤ q = ltb-false q 165191050 e in
        let wide : q * (104 + 13 * m) ≤ q * (2 * r) = times q (104 + 13 * m) (2 * r) slow in
        let low : m * 165191050 ≤ m * q = times m 165191050 q many in
        let high : m * (n + 3) ≤ m * 1048579 = times m (n + 3) 1048579 (omega (arith, small)) in
        absurd (omega (arith, ticks, wide, low, high, end, many, short))

slow-refresh : (h : Header) → IsAccepted h → 104 + 13 * n_max h.timing ≤ 2 * h.timing.nrefi
unfolding n_tail n_close
slow-refresh h a = let k = a.checks.closing_within_two in omega (arith, k)

pub below-limit : (h : Header) (trace : List TraceLine) (run : Run) (clock : ℕ) (refusal : Option Refusal) → IsAccepted h → IsRun h trace run clock → length trace ≤ 1048576 → sum (idle_clocks trace) ≤ 4294967296
    → length (whole h trace run clock refusal) < 4294967295
below-limit h trace run clock refusal a r lines idle =
    let few : length (requests trace) ≤ length trace = let k = both-lines 1 trace in omega (arith, k) in
    let q : clock / h.timing.nrefi < 165191050 = few-intervals (clock / h.timing.nrefi) h.timing.nrefi (n_max h.timing) (length (requests trace)) (sum (idle_clocks trace)) clock (div-mul-le_self clock h.timing.nrefi) (slow-refresh h a) r.short.end (omega (arith, few, lines)) idle in
    let all = whole-lines h trace run clock refusal in
    let made = report-lines h trace run clock r in
    let commands = r.short.commands in
    omega (arith, few, q, all, made, commands, lines)
