-- An audit's reading, one line after another.
use Rattle.std.proofs.Common.{◌≡◌, ◌∙◌, ◌+◌, ◌-◌, ◌<◌, ◌≤◌, ℕ, Option, Some, None, List, [], ◌∷◌, ◌++◌, refl, sym, ap, subst, arith}
use Rattle.ddr_io.specs.Faults.{Rose}
use Rattle.ddr_io.specs.Line.{next_bytes}
use Rattle.ddr_io.specs.Reading.{Reading as ReaderOfLines}
use Rattle.ddr_io.specs.declared.line_reader.Line.TheVariants.{Text}
use Rattle.ddr_text.specs.AcceptedReport.{IsReportLine}
use Rattle.ddr_text.specs.declared.lines.ReportLine.{ReportLine}
use Rattle.ddr_text.proofs.LinesInFront.{left_next}
use Rattle.speed_bin.specs.declared.header.Header.{Header}
use Rattle.log_auditor.specs.Auditing.{StandsFor}
use Rattle.speed_bin.specs.Header.{shape_of}
use Rattle.log_auditor.specs.AuditSoFar.{Audited, FindsBehind, Reads, ReadsAllOf}
use Rattle.ddr_text.specs.ReportReading.{IsStep, LeftOf, Place, StepsOn, lines_behind, most_lines, stage_after}
use Rattle.log_auditor.specs.declared.auditor.Auditor.{Auditor}
use Rattle.log_auditor.specs.declared.finding.Finding.{Finding}
use Rattle.log_auditor.specs.declared.finding.Finding.TheVariants.{Fine, Refused}
use Rattle.ddr_text.specs.declared.report_reader.Next.TheVariants.{Line, End, Refused as RefusedNext}
use Rattle.ddr_text.specs.declared.report_reader.Stage.{Stage}
use Rattle.ddr_text.specs.declared.report_reader.Stage.TheVariants.{Body}
use Rattle.log_auditor.proofs.Endings.{all_read_of, found_end, found_refused}

-- ---- At first

left_first : (h : Header) (reader : ReaderOfLines) (start : Option (List ℕ)) → LeftOf (lines_behind (shape_of h)) start [] (record { reader = reader; shape = shape_of h; stage = Body; number = 1 }) start
left_first h reader None = tt
left_first h reader (Some bytes) = refl

pub first_reads : (h : Header) (auditor : Auditor) (place : Place) (reader : ReaderOfLines) (left : Option (List ℕ)) → place ≡ record { reader = reader; shape = shape_of h; stage = Body; number = 1 } → reader.last ≡ Text → StandsFor auditor h []
    → Reads h (next_bytes reader.held left) Fine auditor place (next_bytes place.reader.held left) []
first_reads h auditor place reader left is last stands = subst (λ (p : Place). Reads h (next_bytes reader.held left) Fine auditor p (next_bytes p.reader.held left) []) (sym is) (record {
  audited = record { numbered = refl; going_on = λ _. refl; found = refl; stands = λ _ _. stands };
  behind = left_first h reader (next_bytes reader.held left);
  shape = refl;
  last = last;
})

-- ---- One line

inside_shape : (h : Header) (old : Place) (line : ReportLine) → old.shape ≡ shape_of h → IsReportLine old.shape line → IsReportLine (shape_of h) line
inside_shape h old line same inside = subst (λ g. IsReportLine g line) same inside

audited_at : (h : Header) (stage : Stage) (finding : Finding) (auditor : Auditor) (lines : List ReportLine) (number own : ℕ) → number ≡ own → Audited h stage own finding auditor lines → Audited h stage number finding auditor lines
audited_at h stage finding auditor lines number own same audited = subst (λ (n : ℕ). Audited h stage n finding auditor lines) (sym same) audited

pub may_judge : (h : Header) (start left : Option (List ℕ)) (finding : Finding) (auditor : Auditor) (old new : Place) (lines : List ReportLine) (line : ReportLine) (number : ℕ) → Reads h start finding auditor old left lines → StepsOn old new line → number ≡ old.number
    → (k : Header) × (stage : Stage) × (after : Stage) × (before : List ReportLine) × Audited k stage number finding auditor before × IsReportLine (shape_of k) line × (stage_after stage line ≡ Some after)
may_judge h start left finding auditor old new lines line number reads steps same =
    (h, old.stage, new.stage, lines, audited_at h old.stage finding auditor lines number old.number same reads.audited, inside_shape h old line reads.shape steps.inside, steps.stage)

pub next_reads : (h : Header) (start now after : Option (List ℕ)) (finding found : Finding) (auditor audited : Auditor) (old new : Place) (lines : List ReportLine) (line : ReportLine) (number : ℕ) → Reads h start finding auditor old now lines → StepsOn old new line → IsStep old new now after (Line line) → number ≡ old.number
    → ((k : Header) (stage next : Stage) (before : List ReportLine) → Audited k stage number finding auditor before → IsReportLine (shape_of k) line → stage_after stage line ≡ Some next → Audited k next (number + 1) found audited (before ++ line ∷ []))
    → Reads h start found audited new after (lines ++ line ∷ [])
next_reads h start now after finding found auditor audited old new lines line number reads steps step same judge = record {
  audited = audited_at h new.stage found audited (lines ++ line ∷ []) new.number (number + 1) (steps.number ∙ ap (λ (n : ℕ). n + 1) (sym same))
      (judge h old.stage new.stage lines (audited_at h old.stage finding auditor lines number old.number same reads.audited) (inside_shape h old line reads.shape steps.inside) steps.stage);
  behind = left_next (lines_behind (shape_of h)) start now after lines line old new reads.behind step;
  shape = steps.shape ∙ reads.shape;
  last = steps.last;
}

pub fewer_left : (old new : Place) (line : ReportLine) → StepsOn old new line → most_lines + 1 - new.number < most_lines + 1 - old.number
fewer_left old new line steps = let few = steps.few in let next = steps.number in omega arith

-- ---- The end

pub reads_found : (h : Header) (start now after : Option (List ℕ)) (finding : Finding) (auditor : Auditor) (old new : Place) (lines : List ReportLine) → Reads h start finding auditor old now lines → IsStep old new now after End → FindsBehind h start finding
reads_found h start now after finding auditor old new lines reads step = found_end h start now after lines old new finding reads.behind step reads.audited.found

pub reads_all : (h : Header) (source_old source_new now : Option (List ℕ)) (kept held : List ℕ) (finding : Finding) (auditor : Auditor) (old new : Place) (lines : List ReportLine) → Reads h (next_bytes kept source_old) finding auditor old now lines → IsStep old new now (next_bytes held source_new) End → ReadsAllOf source_old source_new finding
reads_all h source_old source_new now kept held finding auditor old new lines reads step = all_read_of h source_old source_new now kept held lines old new finding reads.behind step

pub reads_refused : (h : Header) (start now after : Option (List ℕ)) (finding : Finding) (auditor : Auditor) (old new : Place) (lines : List ReportLine) (number reason : ℕ) → Reads h start finding auditor old now lines → IsStep old new now after (RefusedNext number reason) → FindsBehind h start (Refused number reason)
reads_refused h start now after finding auditor old new lines number reason reads step = found_refused h start now after lines old new number reason reads.behind step

-- a fault that was counted later
pub rose_later : (before middle after : ℕ) → before ≤ middle → Rose middle after → Rose before after
rose_later before middle after later rose = omega arith
