-- The C, D and F lines of a sound run are within their ranges.
use Rattle.std.proofs.Common.{nat_lt, ◌≡◌, ℕ, zero, suc, ◌+◌, ◌-◌, ◌^◌, ◌<◌, ◌≤◌, Bool, true, false, cond, Option, Some, None, List, [], ◌∷◌, ◌++◌, map, length, slice_get, refl, subst, arith}
use Rattle.std.specs.Prelude.{⊤}
use Rattle.std.proofs.lemmas.Bool.{lt-ltb}
use Rattle.command_words.specs.Geometry.{Shape, lines_of}
use Rattle.speed_bin.proofs.Tests.{joined}
use Rattle.command_words.specs.declared.command.Command.{Command}
use Rattle.command_words.specs.declared.command.Command.TheVariants.{Act, Rd, Wr, PrePb, PreSb, PreAb, RefAb, RefSb, RfmAb, RfmSb, Mrw, Ecs, Nop}
use Rattle.ddr_text.specs.AcceptedReport.{IsReportLine}
use Rattle.ddr_text.specs.Ranges.{IsCommandOf}
use Rattle.ddr_text.specs.ReportGrammar.{has_place}
use Rattle.ddr_text.specs.declared.lines.ReportLine.{ReportLine}
use Rattle.ddr_text.specs.declared.lines.TraceLine.{TraceLine}
use Rattle.ddr_text.specs.declared.lines.TraceLine.TheVariants.{Read, Write, Flip, Idle}
use Rattle.ddr_text.specs.ReportReading.{stage_after}
use Rattle.ddr_text.specs.declared.report_reader.Stage.TheVariants.{Body}
use Rattle.speed_bin.specs.Header.{IsAccepted, shape_of}
use Rattle.speed_bin.specs.declared.header.Header.{Header}
use Rattle.reports.specs.Delivered.{IsInside, AreInside}
use Rattle.reports.specs.Readings.{changes_before}
use Rattle.reports.specs.Report.{answer, flip_lines, latest, report}
use Rattle.speed_bin.specs.Log.{last_clock}
use Rattle.reports.specs.Requests.{Request, is_reading, reads, requests, requests_from}
use Rattle.reports.specs.Runs.{Step, Issues, Flips, Run, log_of, is_served, ready, held}
use Rattle.reports.specs.Sound.{Sound}
use Rattle.reports.proofs.Device.{in-range}
use Rattle.audited_reports.proofs.Bytes.{reading-bytes}

-- lines within their ranges, which are C, D or F lines
abbrev pub AreBody : Shape → List ReportLine → Type 0
AreBody g [] = ⊤
AreBody g (line ∷ lines) = IsReportLine g line × (stage_after Body line ≡ Some Body) × AreBody g lines

body-append : (g : Shape) (a b : List ReportLine) → AreBody g a → AreBody g b → AreBody g (a ++ b)
body-append g [] b f k = k
body-append g (line ∷ a) b f k = (f.0, f.1, body-append g a b f.2 k)

-- ---- Requests

-- the numbers and lines of requests are within their ranges
abbrev AreFine : Shape → List Request → Type 0
AreFine g [] = ⊤
AreFine g (r ∷ rs) = (r.number < 2 ^ 64) × (r.line < lines_of g) × AreFine g rs

fine-requests : (g : Shape) (n : ℕ) (trace : List TraceLine) → AreInside g trace → n + length trace ≤ 2 ^ 64 → AreFine g (requests_from n trace)
fine-requests g n [] inside few = tt
fine-requests g n (Read line ∷ trace) inside few = (omega (arith, few), inside.0, fine-requests g (suc n) trace inside.1 (omega (arith, few)))
fine-requests g n (Write line bytes ∷ trace) inside few = (omega (arith, few), inside.0.0, fine-requests g (suc n) trace inside.1 (omega (arith, few)))
fine-requests g n (Flip line device bit ∷ trace) inside few = fine-requests g (suc n) trace inside.1 (omega (arith, few))
fine-requests g n (Idle clocks ∷ trace) inside few = fine-requests g (suc n) trace inside.1 (omega (arith, few))

fine-cond : (g : Shape) (b : Bool) (a d : List Request) → AreFine g a → AreFine g d → AreFine g (cond b a d)
fine-cond g true a d f k = f
fine-cond g false a d f k = k

fine-held : (g : Shape) (rs : List Request) (run : Run) → AreFine g rs → AreFine g (held rs run)
fine-held g [] run f = tt
fine-held g (r ∷ rs) run f = fine-cond g (is_served r.number run) (held rs run) (r ∷ rs) (fine-held g rs run f.2) f

fine-ready : (g : Shape) (rs : List Request) (run : Run) → AreFine g rs → AreFine g (ready rs run)
fine-ready g [] run f = tt
fine-ready g (r ∷ rs) run f = fine-cond g (is_served r.number run) (r ∷ ready rs run) [] (f.0, f.1, fine-ready g rs run f.2) tt

fine-reads : (g : Shape) (rs : List Request) → AreFine g rs → AreFine g (reads rs)
fine-reads g [] f = tt
fine-reads g (r ∷ rs) f = fine-cond g (is_reading r.kind) (r ∷ reads rs) (reads rs) (f.0, f.1, fine-reads g rs f.2) (fine-reads g rs f.2)

-- ---- D lines

answers-body : (g : Shape) (h : Header) (trace : List TraceLine) (run : Run) (rs : List Request) → AreFine g rs → AreBody g (map (answer h trace run) rs)
answers-body g h trace run [] f = tt
answers-body g h trace run (r ∷ rs) f =
    let bytes = reading-bytes (changes_before h trace run r) r.line in
    ((f.0, f.1, bytes.counted, bytes.small), refl, answers-body g h trace run rs f.2)

-- ---- C lines

row-within : (g : Shape) (command : Command) → IsCommandOf g command → has_place g command ≡ true
row-within g (Act bank row) w = joined (nat_lt row g.rows) (nat_lt bank.group g.groups) (lt-ltb row g.rows w.1) (lt-ltb bank.group g.groups w.0.group)
row-within g (Rd bank column) w = lt-ltb bank.group g.groups w.0.group
row-within g (Wr bank column) w = lt-ltb bank.group g.groups w.0.group
row-within g (PrePb bank) w = lt-ltb bank.group g.groups w.group
row-within g (PreSb address) w = refl
row-within g PreAb w = refl
row-within g RefAb w = refl
row-within g (RefSb address) w = refl
row-within g RfmAb w = refl
row-within g (RfmSb address) w = refl
row-within g (Mrw write) w = refl
row-within g Ecs w = refl
row-within g Nop w = refl

-- ---- F lines

inside-at : (g : Shape) (trace : List TraceLine) (i : ℕ) (t : TraceLine) → AreInside g trace → slice_get trace i ≡ Some t → IsInside g t
inside-at g [] i t inside e = absurd cc
inside-at g (line ∷ trace) zero t inside e = let same : line ≡ t = cc in subst (IsInside g) same inside.0
inside-at g (line ∷ trace) (suc i) t inside e = inside-at g trace i t inside.1 e

flip-body : (g : Shape) (clock : ℕ) (o : Option TraceLine) → clock < 2 ^ 48 → ((t : TraceLine) → o ≡ Some t → IsInside g t) → AreBody g (flip_lines clock o)
flip-body g clock (Some (Flip line device bit)) low inside = let k = inside (Flip line device bit) refl in ((low, k.0, k.1, k.2), refl, tt)
flip-body g clock (Some (Read line)) low inside = tt
flip-body g clock (Some (Write line bytes)) low inside = tt
flip-body g clock (Some (Idle clocks)) low inside = tt
flip-body g clock None low inside = tt

last-low : (h : Header) (trace : List TraceLine) (run : Run) → Sound h trace run → last_clock (log_of run) < 2 ^ 48
last-low h trace [] sound = omega arith
last-low h trace (Issues s ∷ run) sound = sound.0.in_time
last-low h trace (Flips number ∷ run) sound = last-low h trace run sound.1

-- ---- The run

latest-body : (h : Header) (trace : List TraceLine) (run : Run) (step : Step) → IsAccepted h → AreInside (shape_of h) trace → AreFine (shape_of h) (requests trace) → Sound h trace (step ∷ run)
    → AreBody (shape_of h) (latest h trace run step)
latest-body h trace run (Issues s) accepted inside fine sound = (
  (sound.0.in_time, in-range h s.issued.command accepted sound.0.in_range, row-within (shape_of h) s.issued.command sound.0.in_range),
  refl,
  answers-body (shape_of h) h trace (Issues s ∷ run) (reads (ready (held (requests trace) run) (Issues s ∷ run)))
      (fine-reads (shape_of h) (ready (held (requests trace) run) (Issues s ∷ run)) (fine-ready (shape_of h) (held (requests trace) run) (Issues s ∷ run) (fine-held (shape_of h) (requests trace) run fine))),
)
latest-body h trace run (Flips number) accepted inside fine sound =
    flip-body (shape_of h) (last_clock (log_of run)) (slice_get trace (number - 1)) (last-low h trace run sound.1) (λ t e. inside-at (shape_of h) trace (number - 1) t inside e)

run-body : (h : Header) (trace : List TraceLine) (run : Run) → IsAccepted h → AreInside (shape_of h) trace → AreFine (shape_of h) (requests trace) → Sound h trace run → AreBody (shape_of h) (report h trace run)
run-body h trace [] accepted inside fine sound = tt
run-body h trace (step ∷ run) accepted inside fine sound =
    body-append (shape_of h) (report h trace run) (latest h trace run step) (run-body h trace run accepted inside fine sound.1) (latest-body h trace run step accepted inside fine sound)

pub report-body : (h : Header) (trace : List TraceLine) (run : Run) → IsAccepted h → AreInside (shape_of h) trace → length trace ≤ 1048576 → Sound h trace run → AreBody (shape_of h) (report h trace run)
report-body h trace run accepted inside few sound = run-body h trace run accepted inside (fine-requests (shape_of h) 1 trace inside (omega (arith, few))) sound
