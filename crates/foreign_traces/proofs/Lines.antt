-- One line more of a report or of a job.
use Rattle.std.proofs.Common.{◌≡◌, ◌∙◌, ℕ, ◌+◌, Option, List, [], ◌∷◌, ◌++◌, sym, ap, refl, subst, append-nil, append_assoc, length-append}
use Rattle.std.specs.List.{flat_map}
use Rattle.std.specs.Io.KnownBytes.{Appends}
use Rattle.std.proofs.KnownBytes.{Appends-trans}
use Rattle.std.proofs.lemmas.Grind.{flat_map-append}
use Rattle.command_words.specs.Geometry.{Shape}
use Rattle.ddr_text.specs.AcceptedReport.{IsReportLine}
use Rattle.ddr_text.specs.Spelling.{spelled}
use Rattle.ddr_text.specs.declared.lines.ReportLine.{ReportLine}
use Rattle.ddr_text.specs.declared.lines.TraceLine.{TraceLine}
use Rattle.made_jobs.specs.TraceText.{spelled_line}
use Rattle.foreign_traces.specs.Lines.{AreReportLines, AreRequests, IsJob, IsReport, IsRequest}

-- ---- Reports

lines_more : (g : Shape) (lines : List ReportLine) (line : ReportLine) → AreReportLines g lines → IsReportLine g line → AreReportLines g (lines ++ line ∷ [])
lines_more g [] line are is = (is, tt)
lines_more g (first ∷ lines) line are is = (are.0, lines_more g lines line are.1 is)

spelled_more : (lines : List ReportLine) (line : ReportLine) → flat_map spelled (lines ++ line ∷ []) ≡ flat_map spelled lines ++ spelled line
spelled_more lines line = flat_map-append spelled lines (line ∷ []) ∙ ap (λ l. flat_map spelled lines ++ l) (append-nil (spelled line))

pub report_begins : (g : Shape) (text : List ℕ) (before after : Option (List ℕ)) → Appends before after text → IsReport g text before after
report_begins g text before after written = record {
  lines = [];
  are_lines = tt;
  written = subst (Appends before after) (sym (append-nil text)) written;
}

pub report_more : (g : Shape) (text : List ℕ) (before between after : Option (List ℕ)) (line : ReportLine) → IsReport g text before between → IsReportLine g line → Appends between after (spelled line) → IsReport g text before after
report_more g text before between after line it is more =
    let whole : (text ++ flat_map spelled it.lines) ++ spelled line ≡ text ++ flat_map spelled (it.lines ++ line ∷ []) =
    append_assoc text (flat_map spelled it.lines) (spelled line) ∙ ap (λ l. text ++ l) (sym (spelled_more it.lines line)) in
    record {
      lines = it.lines ++ line ∷ [];
      are_lines = lines_more g it.lines line it.are_lines is;
      written = subst (Appends before after) whole (Appends-trans before between after (text ++ flat_map spelled it.lines) (spelled line) it.written more);
    }

-- ---- Jobs

requests_more : (g : Shape) (lines : List TraceLine) (line : TraceLine) → AreRequests g lines → IsRequest g line → AreRequests g (lines ++ line ∷ [])
requests_more g [] line are is = (is, tt)
requests_more g (first ∷ lines) line are is = (are.0, requests_more g lines line are.1 is)

text_more : (lines : List TraceLine) (line : TraceLine) → flat_map spelled_line (lines ++ line ∷ []) ≡ flat_map spelled_line lines ++ spelled_line line
text_more lines line = flat_map-append spelled_line lines (line ∷ []) ∙ ap (λ l. flat_map spelled_line lines ++ l) (append-nil (spelled_line line))

pub job_begins : (g : Shape) (text : List ℕ) (before after : Option (List ℕ)) → Appends before after text → IsJob g text 0 before after
job_begins g text before after written = record {
  lines = [];
  are_requests = tt;
  many = refl;
  written = subst (Appends before after) (sym (append-nil text)) written;
}

pub job_more : (g : Shape) (text : List ℕ) (count : ℕ) (before between after : Option (List ℕ)) (line : TraceLine) → IsJob g text count before between → IsRequest g line → Appends between after (spelled_line line) → IsJob g text (count + 1) before after
job_more g text count before between after line it is more =
    let whole : (text ++ flat_map spelled_line it.lines) ++ spelled_line line ≡ text ++ flat_map spelled_line (it.lines ++ line ∷ []) =
    append_assoc text (flat_map spelled_line it.lines) (spelled_line line) ∙ ap (λ l. text ++ l) (sym (text_more it.lines line)) in
    record {
      lines = it.lines ++ line ∷ [];
      are_requests = requests_more g it.lines line it.are_requests is;
      many = length-append it.lines (line ∷ []) ∙ ap (λ n. n + 1) it.many;
      written = subst (Appends before after) whole (Appends-trans before between after (text ++ flat_map spelled_line it.lines) (spelled_line line) it.written more);
    }
