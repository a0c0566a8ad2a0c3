-- The report of a sound run has at most one line for each command and for each line of its trace.
use Rattle.std.proofs.Common.{◌≡◌, ◌∙◌, ℕ, zero, suc, ◌+◌, ◌-◌, ◌<◌, ◌≤◌, Bool, true, false, cond, refl, sym, ap, arith, Option, Some, None, List, [], ◌∷◌, ◌++◌, map, length, slice_get}
use Rattle.std.proofs.lemmas.List.{length-append}
use Rattle.speed_bin.specs.Log.{last_clock}
use Rattle.speed_bin.specs.declared.header.Header.{Header}
use Rattle.ddr_text.specs.declared.lines.ReportLine.TheVariants.{End as EndLine}
use Rattle.ddr_text.specs.declared.lines.TraceLine.{TraceLine}
use Rattle.ddr_text.specs.declared.lines.TraceLine.TheVariants.{Read, Write, Flip, Idle}
use Rattle.reports.proofs.Ready.{ready-held, ready-more}
use Rattle.reports.specs.Report.{answer, flip_lines, latest, report}
use Rattle.reports.specs.Requests.{Request, flips, flips_from, is_reading, reads, requests, requests_from}
use Rattle.reports.specs.Runs.{Issues, Flips, Run, flipped, held, log_of, ready}
use Rattle.reports.specs.Sound.{Sound}
use Rattle.reports.specs.Stats.{stat_lines, stats}
use Rattle.reports.specs.Whole.{whole}

-- ---- One step

length-map : (h : Header) (trace : List TraceLine) (run : Run) (rs : List Request) → length (map (answer h trace run) rs) ≡ length rs
length-map h trace run [] = refl
length-map h trace run (r ∷ rs) = ap suc (length-map h trace run rs)

length-cond : (b : Bool) (r : Request) (rs : List Request) (n : ℕ) → length rs ≤ n → length (cond b (r ∷ rs) rs) ≤ suc n
length-cond true r rs n le = omega (arith, le)
length-cond false r rs n le = omega (arith, le)

length-reads : (rs : List Request) → length (reads rs) ≤ length rs
length-reads [] = omega arith
length-reads (r ∷ rs) = length-cond (is_reading r.kind) r (reads rs) (length rs) (length-reads rs)

one-flip : (clock : ℕ) (o : Option TraceLine) → length (flip_lines clock o) ≤ 1
one-flip clock (Some (Flip line device bit)) = omega arith
one-flip clock (Some (Read line)) = omega arith
one-flip clock (Some (Write line bytes)) = omega arith
one-flip clock (Some (Idle clocks)) = omega arith
one-flip clock None = omega arith

-- ---- A run

lines-made : (h : Header) (trace : List TraceLine) (run : Run) → length (report h trace run) ≤ length (log_of run) + length (flipped run) + length (ready (requests trace) run)
lines-made h trace [] = omega arith
lines-made h trace (Issues s ∷ run) =
    let new = ready (held (requests trace) run) (Issues s ∷ run) in
    let ih = lines-made h trace run in
    let all = length-append (report h trace run) (latest h trace run (Issues s)) in
    let mapped = length-map h trace (Issues s ∷ run) (reads new) in
    let few = length-reads new in
    let more : length (ready (requests trace) (Issues s ∷ run)) ≡ length (ready (requests trace) run) + length new = ap length (ready-more (requests trace) (Issues s) run) ∙ length-append (ready (requests trace) run) new in
    omega (arith, ih, all, mapped, few, more)
lines-made h trace (Flips number ∷ run) =
    let new = ready (held (requests trace) run) (Flips number ∷ run) in
    let ih = lines-made h trace run in
    let all = length-append (report h trace run) (latest h trace run (Flips number)) in
    let one = one-flip (last_clock (log_of run)) (slice_get trace (number - 1)) in
    let more : length (ready (requests trace) (Flips number ∷ run)) ≡ length (ready (requests trace) run) + length new = ap length (ready-more (requests trace) (Flips number) run) ∙ length-append (ready (requests trace) run) new in
    omega (arith, ih, all, one, more)

within : (xs : List ℕ) (i x : ℕ) → slice_get xs i ≡ Some x → i < length xs
within [] i x e = absurd cc
within (y ∷ xs) zero x e = omega arith
within (y ∷ xs) (suc i) x e = let k = within xs i x e in omega (arith, k)

flips-few : (h : Header) (trace : List TraceLine) (run : Run) → Sound h trace run → length (flipped run) ≤ length (flips trace)
flips-few h trace [] sound = omega arith
flips-few h trace (Issues s ∷ run) sound = flips-few h trace run sound.1
flips-few h trace (Flips number ∷ run) sound = let k = within (flips trace) (length (flipped run)) number sound.0.is_next in omega (arith, k)

ready-few : (rs : List Request) (run : Run) → length (ready rs run) ≤ length rs
ready-few rs run = let k = sym (length-append (ready rs run) (held rs run)) ∙ ap length (ready-held rs run) in omega (arith, k)

both-few : (n : ℕ) (trace : List TraceLine) → length (requests_from n trace) + length (flips_from n trace) ≤ length trace
both-few n [] = omega arith
both-few n (Read line ∷ trace) = let k = both-few (suc n) trace in omega (arith, k)
both-few n (Write line bytes ∷ trace) = let k = both-few (suc n) trace in omega (arith, k)
both-few n (Flip line device bit ∷ trace) = let k = both-few (suc n) trace in omega (arith, k)
both-few n (Idle clocks ∷ trace) = let k = both-few (suc n) trace in omega (arith, k)

pub asked-few : (trace : List TraceLine) → length (requests trace) ≤ length trace
asked-few trace = let k = both-few 1 trace in omega (arith, k)

stat-count : (h : Header) (trace : List TraceLine) (run : Run) → length (stats h trace run) ≡ 14
unfolding stat_lines
stat-count h trace run = refl

pub whole-few : (h : Header) (trace : List TraceLine) (run : Run) (clock : ℕ) → Sound h trace run → length (whole h trace run clock None) ≤ length (log_of run) + length trace + 15
whole-few h trace run clock sound =
    let made = lines-made h trace run in
    let turned = flips-few h trace run sound in
    let answered = ready-few (requests trace) run in
    let both = both-few 1 trace in
    let all = length-append (report h trace run ++ stats h trace run) (EndLine clock ∷ []) in
    let front = length-append (report h trace run) (stats h trace run) in
    let counts = stat-count h trace run in
    omega (arith, made, turned, answered, both, all, front, counts)
