-- Lines of a report that were read, in front of those that are left.
use Rattle.std.proofs.Common.{◌≡◌, ◌∙◌, ℕ, Option, Some, None, List, [], ◌∷◌, ◌++◌, refl, sym, ap, subst}
use Rattle.ddr_io.specs.Line.{next_bytes}
use Rattle.ddr_text.specs.Outcome.{ReadsAll}
use Rattle.ddr_text.specs.ReportReading.{IsStep, LeftOf, Lines, Place, lines_left, with_line, with_lines}
use Rattle.ddr_text.specs.declared.lines.ReportLine.{ReportLine}
use Rattle.ddr_text.specs.declared.report_reader.Next.TheVariants.{Line, End}
use Rattle.ddr_text.proofs.Outcomes.{none-left}

pub with_lines_next : (lines : List ReportLine) (line : ReportLine) (rest : Lines) → with_lines lines (with_line line rest) ≡ with_lines (lines ++ line ∷ []) rest
with_lines_next [] line rest = refl
with_lines_next (first ∷ lines) line rest = ap (with_line first) (with_lines_next lines line rest)

pub with_lines_end : (lines : List ReportLine) (rest : Lines) → rest.lines ≡ [] → (with_lines lines rest).lines ≡ lines
with_lines_end [] rest none = none
with_lines_end (first ∷ lines) rest none = ap (λ l. first ∷ l) (with_lines_end lines rest none)

pub with_lines_refusal : (lines : List ReportLine) (rest : Lines) → (with_lines lines rest).refusal ≡ rest.refusal
with_lines_refusal [] rest = refl
with_lines_refusal (first ∷ lines) rest = with_lines_refusal lines rest

pub with_lines_all : (lines : List ReportLine) (rest : Lines) → with_lines lines rest ≡ record { lines = lines ++ rest.lines; refusal = rest.refusal }
with_lines_all [] rest = refl
with_lines_all (first ∷ lines) rest = ap (with_line first) (with_lines_all lines rest)

-- ---- One step

pub left_next : (lines_of : List ℕ → Lines) (start now after : Option (List ℕ)) (lines : List ReportLine) (line : ReportLine) (old new : Place) → LeftOf lines_of start lines old now → IsStep old new now after (Line line) → LeftOf lines_of start (lines ++ line ∷ []) new after
left_next lines_of None now after lines line old new behind step = tt
left_next lines_of (Some bytes) None after lines line old new behind step = absurd behind
left_next lines_of (Some bytes) (Some left) after lines line old new behind step =
    subst (λ (o : Option (List ℕ)). LeftOf lines_of (Some bytes) (lines ++ line ∷ []) new o) (sym step.1)
    (behind ∙ ap (with_lines lines) step.2 ∙ with_lines_next lines line (lines_left new step.0))

-- where the bytes at first are known, all were read at the end
pub all_read : (lines_of : List ℕ → Lines) (it new : Place) (old source_new left : Option (List ℕ)) (kept held : List ℕ) (lines : List ReportLine) → LeftOf lines_of (next_bytes kept old) lines it left → IsStep it new left (next_bytes held source_new) End → ReadsAll old source_new
all_read lines_of it new None source_new left kept held lines behind step = tt
all_read lines_of it new (Some bytes) source_new None kept held lines behind step = absurd behind
all_read lines_of it new (Some bytes) source_new (Some xs) kept held lines behind step = none-left held source_new step.0
