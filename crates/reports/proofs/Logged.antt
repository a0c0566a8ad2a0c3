-- The log of a report's C lines is that of its run.
use Rattle.std.proofs.Common.{◌≡◌, ℕ, ◌-◌, Option, Some, None, List, [], ◌∷◌, ◌++◌, map, reverse, slice_get, refl, ap, ◌∙◌}
use Rattle.std.proofs.lemmas.List.{reverse-append}
use Rattle.ddr_text.specs.declared.lines.TraceLine.{TraceLine}
use Rattle.ddr_text.specs.declared.lines.TraceLine.TheVariants.{Read, Write, Flip, Idle}
use Rattle.ddr_text.specs.declared.lines.ReportLine.{ReportLine}
use Rattle.ddr_text.specs.declared.lines.ReportLine.TheVariants.{Issued as IssuedLine, Value as ValueLine, Flip as FlipLine, Stat as StatLine, End as EndLine, Refused as RefusedLine}
use Rattle.reports.specs.Requests.{Request, requests, reads}
use Rattle.reports.specs.Runs.{Issues, Flips, Run, log_of, ready, held}
use Rattle.speed_bin.specs.declared.header.Header.{Header}
use Rattle.reports.specs.Report.{answer, flip_lines, latest, report}
use Rattle.speed_bin.specs.Log.{last_clock}
use Rattle.ddr_text.specs.ReportParts.{places_of}
use Rattle.ddr_text.proofs.Places.{places_of-append}

pub places_of-answers : (h : Header) (trace : List TraceLine) (run : Run) (rs : List Request) → places_of (map (answer h trace run) rs) ≡ []
places_of-answers h trace run [] = refl
places_of-answers h trace run (r ∷ rs) = places_of-answers h trace run rs

pub places_of-flip : (clock : ℕ) (line : Option TraceLine) → places_of (flip_lines clock line) ≡ []
places_of-flip clock (Some (Flip line device bit)) = refl
places_of-flip clock (Some (Read line)) = refl
places_of-flip clock (Some (Write line bytes)) = refl
places_of-flip clock (Some (Idle clocks)) = refl
places_of-flip clock None = refl

pub logged : (h : Header) (trace : List TraceLine) (run : Run) → reverse (places_of (report h trace run)) ≡ log_of run
logged h trace [] = refl
logged h trace (Issues s ∷ run) =
    ap reverse (places_of-append (report h trace run) (latest h trace run (Issues s)) ∙ ap (λ l. places_of (report h trace run) ++ s.issued ∷ l) (places_of-answers h trace (Issues s ∷ run) (reads (ready (held (requests trace) run) (Issues s ∷ run)))))
    ∙ reverse-append (places_of (report h trace run)) (s.issued ∷ [])
    ∙ ap (λ l. s.issued ∷ l) (logged h trace run)
logged h trace (Flips k ∷ run) =
    ap reverse (places_of-append (report h trace run) (latest h trace run (Flips k)) ∙ ap (λ l. places_of (report h trace run) ++ l) (places_of-flip (last_clock (log_of run)) (slice_get trace (k - 1))))
    ∙ reverse-append (places_of (report h trace run)) []
    ∙ logged h trace run
