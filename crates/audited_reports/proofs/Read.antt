-- Lines that are spelled one after another are read back, where each may stand at its place.
use Rattle.std.proofs.Common.{◌≡◌, ℕ, suc, ◌+◌, ◌^◌, ◌≤◌, true, false, List, [], ◌∷◌, length, Some, None, Ok, refl, sym, ap, ◌∙◌, arith}
use Rattle.std.specs.List.{flat_map, slice_split}
use Rattle.std.proofs.lemmas.Bool.{le-ltb}
use Rattle.command_words.specs.Geometry.{Shape, lines_of}
use Rattle.ddr_text.specs.AcceptedReport.{IsReportLine, ReportLines}
use Rattle.ddr_text.specs.Opening.{is_feed, is_long, parts_of}
use Rattle.ddr_text.specs.Spelling.{report_text, spelled}
use Rattle.ddr_text.specs.declared.lines.ReportLine.{ReportLine}
use Rattle.ddr_text.specs.ReportReading.{Lines, behind_line, is_whole, judged_line, judged_rest, lines_in, stage_after, stage_behind}
use Rattle.ddr_text.specs.declared.report_reader.Stage.{Stage}
use Rattle.ddr_text.proofs.CleanParts.{first-part, line-part}
use Rattle.audited_reports.proofs.Texts.{text-fits}

-- Each line is within its ranges and may stand where it stands, from this stage on, and the report may end behind the last.
abbrev pub MayStand : Shape → Stage → List ReportLine → Type 0
MayStand g stage [] = is_whole stage ≡ true
MayStand g stage (line ∷ lines) = IsReportLine g line × (next : Stage) × (stage_after stage line ≡ Some next) × MayStand g next lines

-- one line is judged: it is taken
judged : ReportLines → (g : Shape) (stage next : Stage) (number : ℕ) (line : ReportLine) → lines_of g ≤ 2 ^ 64 → number ≤ 4294967295 → IsReportLine g line → stage_after stage line ≡ Some next
    → judged_line g stage number (report_text line) ≡ Ok (record { line = line; stage = next })
unfolding judged_line
judged grammar g stage next number line small few inside after =
    let short : is_long (report_text line) ≡ false = le-ltb 511 (length (report_text line)) (text-fits g line small inside).short in
    rw (le-ltb 4294967295 number few, short, grammar.reads g line small inside, after) refl

at-end : (g : Shape) (stage : Stage) (number : ℕ) → is_whole stage ≡ true → lines_in g stage number ([] ∷ []) ≡ record { lines = []; refusal = None }
unfolding judged_rest
at-end g stage number whole = rw whole refl

one-more : (g : Shape) (stage next : Stage) (number : ℕ) (line : ReportLine) (text : List ℕ) (lines : List ReportLine) (parts : List (List ℕ))
    → judged_line g stage number text ≡ Ok (record { line = line; stage = next }) → lines_in g next (suc number) parts ≡ record { lines = lines; refusal = None }
    → (first : List ℕ) (rest : List (List ℕ)) → parts ≡ first ∷ rest
    → lines_in g stage number (text ∷ parts) ≡ record { lines = line ∷ lines; refusal = None }
one-more g stage next number line text lines parts judged more first rest is =
    ap (λ ps. lines_in g stage number (text ∷ ps)) is
    ∙ ap (λ j. behind_line number j (lines_in g (stage_behind stage j) (suc number) (first ∷ rest))) judged
    ∙ ap (λ ps. behind_line number (Ok (record { line = line; stage = next })) (lines_in g next (suc number) ps)) (sym is)
    ∙ ap (λ (found : Lines). behind_line number (Ok (record { line = line; stage = next })) found) more

pub reads-back : ReportLines → (g : Shape) (stage : Stage) (number : ℕ) (lines : List ReportLine) → lines_of g ≤ 2 ^ 64 → number + length lines ≤ 4294967296 → MayStand g stage lines
    → lines_in g stage number (parts_of (flat_map spelled lines)) ≡ record { lines = lines; refusal = None }
unfolding parts_of spelled
reads-back grammar g stage number [] small few stands = at-end g stage number stands
reads-back grammar g stage number (line ∷ lines) small few stands =
    let rest = flat_map spelled lines in
    let next = first-part rest in
    let fits = text-fits g line small stands.0 in
    ap (λ ps. lines_in g stage number ps) (line-part (report_text line) rest fits.clean)
    ∙ one-more g stage stands.1 number line (report_text line) lines (slice_split is_feed rest)
    (judged grammar g stage stands.1 number line small (omega (arith, few)) stands.0 stands.2)
    (reads-back grammar g stands.1 (suc number) lines small (omega (arith, few)) stands.3)
    next.0 next.1 next.2
