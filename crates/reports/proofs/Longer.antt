-- The report of a run is the same over a longer trace.
use Rattle.std.proofs.Common.{◌≡◌, ℕ, zero, suc, ◌+◌, ◌-◌, ◌<◌, ◌≤◌, Bool, true, false, cond, Option, Some, None, List, [], ◌∷◌, ◌++◌, map, length, slice_get, refl, ap, ◌∙◌, arith}
use Rattle.std.specs.Prelude.{IfSome}
use Rattle.std.proofs.lemmas.List.{take-append-le}
use Rattle.device_core.specs.Steps.{Issues as Gives}
use Rattle.device_core.specs.Stored.{changes_of, reading, also}
use Rattle.speed_bin.specs.Header.{shape_of}
use Rattle.reports.specs.Delivered.{bytes_in, bytes_for, with_flip, device_steps}
use Rattle.reports.specs.Readings.{before, changes_before}
use Rattle.speed_bin.specs.declared.header.Header.{Header}
use Rattle.ddr_text.specs.declared.lines.TraceLine.{TraceLine}
use Rattle.ddr_text.specs.declared.lines.TraceLine.TheVariants.{Read, Write, Flip, Idle}
use Rattle.ddr_text.specs.declared.lines.ReportLine.TheVariants.{Value as ValueLine}
use Rattle.reports.specs.Requests.{Request, requests_from, requests, reads, flips_from}
use Rattle.reports.specs.Runs.{Step, Issues, Flips, Run, log_of, served, is_served, IsNext, ready, held}
use Rattle.reports.specs.Memory.{zeros, last_write, memory}
use Rattle.reports.specs.Report.{answer, answers, issued_line, flip_lines, latest, report}
use Rattle.speed_bin.specs.Log.{last_clock}
use Rattle.reports.specs.Sound.{Sound}
use Rattle.reports.proofs.Ready.{ready-held_behind}
use Rattle.reports.proofs.Found.{requests-append, Between, Between-asked, Between-inside, Between-has}

-- ---- No request behind a number is served

not-true : (b : Bool) → (b ≡ true → ⊥) → b ≡ false
not-true true h = absurd (h refl)
not-true false h = refl

-- where each served number is below another, no request from that one on is ready
pub ready-behind_bound : (n : ℕ) (rs : List Request) (run : Run) (high : ℕ) → Between 1 n (served run) → Between n high rs → ready rs run ≡ []
ready-behind_bound n [] run high b h = refl
ready-behind_bound n (r ∷ rs) run high b h =
    let none : is_served r.number run ≡ false = not-true (is_served r.number run) (λ e. let k = Between-has 1 n r.number (served run) b e in omega (arith, k.1, h.0)) in
    ap (λ t. cond t (r ∷ ready rs run) []) none

Between-place : (trace : List TraceLine) (run : Run) (high : ℕ) (o : Option Request) → high ≡ 1 + length trace → IfSome o (λ r. IsNext (requests trace) run r) → Between 1 high (served run) → Between 1 high (also o (served run))
Between-place trace run high None e n h = h
Between-place trace run high (Some r) e n h =
    let k = Between-inside 1 high n.earlier n.later r (requests trace) (Between-asked 1 trace high e) n.is_offered in
    (k.0, k.1, h)

pub Between-served : (h : Header) (trace : List TraceLine) (run : Run) (high : ℕ) → high ≡ 1 + length trace → Sound h trace run → Between 1 high (served run)
Between-served h trace [] high e sound = tt
Between-served h trace (Issues s ∷ run) high e sound = Between-place trace run high s.request e sound.0.is_next (Between-served h trace run high e sound.1)
Between-served h trace (Flips k ∷ run) high e sound = Between-served h trace run high e sound.1

pub none-past : (h : Header) (trace more : List TraceLine) (run : Run) → Sound h trace run → ready (requests_from (1 + length trace) more) run ≡ []
none-past h trace more run sound =
    ready-behind_bound (1 + length trace) (requests_from (1 + length trace) more) run (1 + length trace + length more)
    (Between-served h trace run (1 + length trace) refl sound)
    (Between-asked (1 + length trace) more (1 + length trace + length more) refl)

-- ---- Plain memory

pub memory-longer : (trace more : List TraceLine) (k x : ℕ) → k < 1 + length trace + 1 → memory (trace ++ more) k x ≡ memory trace k x
memory-longer trace more k x h = ap (last_write x zeros) (take-append-le (k - 1) trace more (omega arith))

-- ---- The same F lines

pub slice_get-append : (xs ys : List TraceLine) (k : ℕ) → k < length xs → slice_get (xs ++ ys) k ≡ slice_get xs k
slice_get-append [] ys k h = absurd (omega arith)
slice_get-append (x ∷ xs) ys zero h = refl
slice_get-append (x ∷ xs) ys (suc k) h = slice_get-append xs ys k (omega arith)

pub flip-within : (n : ℕ) (trace : List TraceLine) (i k : ℕ) → slice_get (flips_from n trace) i ≡ Some k → (n ≤ k) × (k < n + length trace)
flip-within n [] i k e = cc
flip-within n (Read line ∷ trace) i k e = let h = flip-within (suc n) trace i k e in (omega (arith, h.0), omega (arith, h.1))
flip-within n (Write line bytes ∷ trace) i k e = let h = flip-within (suc n) trace i k e in (omega (arith, h.0), omega (arith, h.1))
flip-within n (Idle clocks ∷ trace) i k e = let h = flip-within (suc n) trace i k e in (omega (arith, h.0), omega (arith, h.1))
flip-within n (Flip line device bit ∷ trace) zero k e = let f : n ≡ k = cc in (omega (arith, f), omega (arith, f))
flip-within n (Flip line device bit ∷ trace) (suc i) k e = let h = flip-within (suc n) trace i k e in (omega (arith, h.0), omega (arith, h.1))

-- ---- The same steps of a device

bytes-longer : (trace more : List TraceLine) (run : Run) (o : Option Request) → IfSome o (λ r. IsNext (requests trace) run r) → bytes_for (trace ++ more) o ≡ bytes_for trace o
bytes-longer trace more run None n = refl
bytes-longer trace more run (Some r) n =
    let k = Between-inside 1 (1 + length trace) n.earlier n.later r (requests trace) (Between-asked 1 trace (1 + length trace) refl) n.is_offered in
    ap bytes_in (slice_get-append trace more (r.number - 1) (omega (arith, k.0, k.1)))

pub device_steps-longer : (h : Header) (trace more : List TraceLine) (run : Run) → Sound h trace run → device_steps h (trace ++ more) run ≡ device_steps h trace run
device_steps-longer h trace more [] sound = refl
device_steps-longer h trace more (Issues s ∷ run) sound =
    ap (λ bytes. Gives (record { issued = s.issued; bytes = bytes }) ∷ device_steps h (trace ++ more) run) (bytes-longer trace more run s.request sound.0.is_next)
    ∙ ap (λ l. Gives (record { issued = s.issued; bytes = bytes_for trace s.request }) ∷ l) (device_steps-longer h trace more run sound.1)
device_steps-longer h trace more (Flips k ∷ run) sound =
    let w = flip-within 1 trace _ k sound.0.is_next in
    ap (λ o. with_flip (shape_of h) o (device_steps h (trace ++ more) run)) (slice_get-append trace more (k - 1) (omega (arith, w.0, w.1)))
    ∙ ap (with_flip (shape_of h) (slice_get trace (k - 1))) (device_steps-longer h trace more run sound.1)

-- ---- The run before a step is as sound

sound-cond : (h : Header) (trace : List TraceLine) (b : Bool) (earlier run : Run) → Sound h trace earlier → Sound h trace run → Sound h trace (cond b earlier run)
sound-cond h trace true earlier run s t = s
sound-cond h trace false earlier run s t = t

pub sound-before : (h : Header) (trace : List TraceLine) (n : ℕ) (run : Run) → Sound h trace run → Sound h trace (before n run)
sound-before h trace n [] sound = sound
sound-before h trace n (step ∷ run) sound = sound-cond h trace (is_served n run) (before n run) run (sound-before h trace n run sound.1) sound.1

-- ---- The same answers

pub changes-longer : (h : Header) (trace more : List TraceLine) (run : Run) (r : Request) → Sound h trace run → changes_before h (trace ++ more) run r ≡ changes_before h trace run r
changes-longer h trace more run r sound = ap (changes_of h) (device_steps-longer h trace more (before r.number run) (sound-before h trace r.number run sound))

answer-longer : (h : Header) (trace more : List TraceLine) (run : Run) (r : Request) → Sound h trace run → answer h (trace ++ more) run r ≡ answer h trace run r
answer-longer h trace more run r sound = ap (λ c. ValueLine r.number r.line (reading c r.line).bytes (reading c r.line).state) (changes-longer h trace more run r sound)

map-longer : (h : Header) (trace more : List TraceLine) (run : Run) (rs : List Request) → Sound h trace run → map (answer h (trace ++ more) run) rs ≡ map (answer h trace run) rs
map-longer h trace more run [] sound = refl
map-longer h trace more run (r ∷ rs) sound = ap (λ v. v ∷ map (answer h (trace ++ more) run) rs) (answer-longer h trace more run r sound) ∙ ap (λ l. answer h trace run r ∷ l) (map-longer h trace more run rs sound)

pub answers-longer : (h : Header) (trace more : List TraceLine) (run : Run) (rs : List Request) → Sound h trace run → answers h (trace ++ more) run rs ≡ answers h trace run rs
answers-longer h trace more run rs sound = map-longer h trace more run (reads rs) sound

-- ---- The report

pub latest-longer : (h : Header) (trace more : List TraceLine) (run : Run) (step : Step) → Sound h trace (step ∷ run) → latest h (trace ++ more) run step ≡ latest h trace run step
latest-longer h trace more run (Issues s) sound =
    let behind : List Request = requests_from (1 + length trace) more in
    let e : ready (held (requests (trace ++ more)) run) (Issues s ∷ run) ≡ ready (held (requests trace) run) (Issues s ∷ run)
    = ap (λ l. ready (held l run) (Issues s ∷ run)) (requests-append 1 trace more (1 + length trace) refl)
    ∙ ready-held_behind (requests trace) behind (Issues s) run (none-past h trace more run sound.1) (none-past h trace more (Issues s ∷ run) sound) in
    ap (λ l. issued_line s.issued ∷ answers h (trace ++ more) (Issues s ∷ run) l) e
    ∙ ap (λ l. issued_line s.issued ∷ l) (answers-longer h trace more (Issues s ∷ run) (ready (held (requests trace) run) (Issues s ∷ run)) sound)
latest-longer h trace more run (Flips k) sound =
    let w = flip-within 1 trace _ k sound.0.is_next in
    ap (flip_lines (last_clock (log_of run))) (slice_get-append trace more (k - 1) (omega (arith, w.0, w.1)))

pub report-longer : (h : Header) (trace more : List TraceLine) (run : Run) → Sound h trace run → report h (trace ++ more) run ≡ report h trace run
report-longer h trace more [] sound = refl
report-longer h trace more (step ∷ run) sound =
    ap (λ l. l ++ latest h (trace ++ more) run step) (report-longer h trace more run sound.1)
    ∙ ap (λ l. report h trace run ++ l) (latest-longer h trace more run step sound)
