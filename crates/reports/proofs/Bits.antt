-- The F lines of a report are those of the trace.
use Rattle.std.proofs.Common.{◌≡◌, ℕ, suc, ◌+◌, ◌-◌, Option, Some, None, List, [], ◌∷◌, ◌++◌, map, reverse, slice_get, refl, sym, ap, ◌∙◌, arith, append_assoc, append-nil}
use Rattle.std.proofs.lemmas.List.{reverse-append}
use Rattle.speed_bin.specs.declared.header.Header.{Header}
use Rattle.ddr_text.specs.declared.lines.TraceLine.{TraceLine}
use Rattle.ddr_text.specs.declared.lines.TraceLine.TheVariants.{Read, Write, Flip, Idle}
use Rattle.ddr_text.specs.declared.lines.ReportLine.{ReportLine}
use Rattle.ddr_text.specs.declared.lines.ReportLine.TheVariants.{Issued as IssuedLine, Value as ValueLine, Flip as FlipLine, Stat as StatLine, End as EndLine, Refused as RefusedLine}
use Rattle.reports.specs.Requests.{Request, requests, reads, flips_from}
use Rattle.reports.specs.Runs.{Issues, Flips, Run, log_of, flipped, ready, held}
use Rattle.reports.specs.Report.{answer, flip_lines, latest, report}
use Rattle.speed_bin.specs.Log.{last_clock}
use Rattle.reports.specs.Sound.{IsRun}
use Rattle.reports.specs.Barriers.{Bit, bits_of, turned_bits}

pub turned-append : (a b : List ReportLine) → turned_bits (a ++ b) ≡ turned_bits a ++ turned_bits b
turned-append [] b = refl
turned-append (FlipLine clock line device bit ∷ a) b = ap (λ l. record { line = line; device = device; bit = bit } ∷ l) (turned-append a b)
turned-append (IssuedLine clock command ∷ a) b = turned-append a b
turned-append (ValueLine number line bytes state ∷ a) b = turned-append a b
turned-append (StatLine name number ∷ a) b = turned-append a b
turned-append (EndLine clock ∷ a) b = turned-append a b
turned-append (RefusedLine line reason ∷ a) b = turned-append a b

pub turned-answers : (h : Header) (trace : List TraceLine) (run : Run) (rs : List Request) → turned_bits (map (answer h trace run) rs) ≡ []
turned-answers h trace run [] = refl
turned-answers h trace run (r ∷ rs) = turned-answers h trace run rs

-- the bit of a trace line, and those of the trace lines with these numbers
abbrev bit_of : Option TraceLine → List Bit
bit_of line = turned_bits (flip_lines 0 line)

abbrev bits_at : List TraceLine → List ℕ → List Bit
bits_at trace [] = []
bits_at trace (k ∷ ks) = bit_of (slice_get trace (k - 1)) ++ bits_at trace ks

bits_at-append : (trace : List TraceLine) (a b : List ℕ) → bits_at trace (a ++ b) ≡ bits_at trace a ++ bits_at trace b
bits_at-append trace [] b = refl
bits_at-append trace (k ∷ a) b =
    ap (λ l. bit_of (slice_get trace (k - 1)) ++ l) (bits_at-append trace a b)
    ∙ sym (append_assoc (bit_of (slice_get trace (k - 1))) (bits_at trace a) (bits_at trace b))

turned-flip : (clock : ℕ) (line : Option TraceLine) → turned_bits (flip_lines clock line) ≡ bit_of line
turned-flip clock (Some (Flip line device bit)) = refl
turned-flip clock (Some (Read line)) = refl
turned-flip clock (Some (Write line bytes)) = refl
turned-flip clock (Some (Idle clocks)) = refl
turned-flip clock None = refl

turned-report : (h : Header) (trace : List TraceLine) (run : Run) → turned_bits (report h trace run) ≡ bits_at trace (reverse (flipped run))
turned-report h trace [] = refl
turned-report h trace (Issues s ∷ run) =
    turned-append (report h trace run) (latest h trace run (Issues s))
    ∙ ap (λ l. turned_bits (report h trace run) ++ l) (turned-answers h trace (Issues s ∷ run) (reads (ready (held (requests trace) run) (Issues s ∷ run))))
    ∙ append-nil (turned_bits (report h trace run))
    ∙ turned-report h trace run
turned-report h trace (Flips k ∷ run) =
    turned-append (report h trace run) (latest h trace run (Flips k))
    ∙ ap (λ l. turned_bits (report h trace run) ++ l) (turned-flip (last_clock (log_of run)) (slice_get trace (k - 1)) ∙ sym (append-nil (bit_of (slice_get trace (k - 1)))))
    ∙ ap (λ l. l ++ bits_at trace (k ∷ [])) (turned-report h trace run)
    ∙ sym (bits_at-append trace (reverse (flipped run)) (k ∷ []))
    ∙ ap (bits_at trace) (sym (reverse-append (k ∷ []) (flipped run)))

bits-all : (whole : List TraceLine) (n : ℕ) (trace : List TraceLine) → ((j : ℕ) → slice_get whole (n + j) ≡ slice_get trace j) → bits_at whole (flips_from (suc n) trace) ≡ bits_of trace
bits-all whole n [] h = refl
bits-all whole n (Flip line device bit ∷ trace) h =
    ap (λ o. bit_of o ++ bits_at whole (flips_from (suc (suc n)) trace)) (ap (slice_get whole) (omega arith) ∙ h 0)
    ∙ ap (λ l. record { line = line; device = device; bit = bit } ∷ l) (bits-all whole (suc n) trace (λ j. ap (slice_get whole) (omega arith) ∙ h (suc j)))
bits-all whole n (Read line ∷ trace) h = bits-all whole (suc n) trace (λ j. ap (slice_get whole) (omega arith) ∙ h (suc j))
bits-all whole n (Write line bytes ∷ trace) h = bits-all whole (suc n) trace (λ j. ap (slice_get whole) (omega arith) ∙ h (suc j))
bits-all whole n (Idle clocks ∷ trace) h = bits-all whole (suc n) trace (λ j. ap (slice_get whole) (omega arith) ∙ h (suc j))

pub each_flip_turned : (h : Header) (trace : List TraceLine) (run : Run) (clock : ℕ) → IsRun h trace run clock → turned_bits (report h trace run) ≡ bits_of trace
each_flip_turned h trace run clock r =
    turned-report h trace run ∙ ap (bits_at trace) r.flips ∙ bits-all trace 0 trace (λ j. ap (slice_get trace) (omega arith))
