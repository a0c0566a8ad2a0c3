-- What an audit finds in a finished report.
use Rattle.std.proofs.Common.{◌*◌, inl, inr, ◌≡◌, ℕ, ◌^◌, ◌≤◌, Option, Some, None, List, [], ◌∷◌, ◌++◌, reverse, length, refl, sym, ap, ◌∙◌, subst, arith, append_assoc, append-nil}
use Rattle.std.specs.List.{flat_map}
use Rattle.std.specs.Io.KnownBytes.{Appends}
use Rattle.ddr_io.specs.declared.status.Status.{Status}
use Rattle.ddr_io.specs.declared.status.Status.TheVariants as status
use Rattle.command_words.specs.Geometry.{IsGroups, lines_of}
use Rattle.ddr_text.specs.Io.{io}
use Rattle.ddr_text.specs.AcceptedReport.{ReportLines}
use Rattle.ddr_text.specs.Opening.{Accepts, opening_of, parts_of}
use Rattle.ddr_text.specs.ReportParts.{Refusal, places_of, refusal_lines}
use Rattle.ddr_text.specs.Spelling.{spelled}
use Rattle.ddr_text.specs.declared.lines.ReportLine.{ReportLine}
use Rattle.ddr_text.specs.declared.lines.ReportLine.TheVariants.{Issued, Value, Flip, Stat, End, Refused}
use Rattle.ddr_text.specs.declared.lines.TraceLine.{TraceLine}
use Rattle.device_core.specs.Steps.{log_of as device_log}
use Rattle.error_scrub.specs.declared.scrub.ScrubCounts.{ScrubCounts}
use Rattle.log_auditor.specs.Findings.{Answers, breach_at, breach_of, end_of, fine_or, finding_of, finding_text, found_behind, found_in, is_fine, log_of as judged_log, numbers_from, on_line, status_of}
use Rattle.ddr_text.specs.ReportReading.{lines_in}
use Rattle.ddr_text.specs.declared.report_reader.Stage.TheVariants.{Body}
use Rattle.speed_bin.specs.Counts.{LogCounts}
use Rattle.speed_bin.specs.Header.{IsAccepted, shape_of}
use Rattle.speed_bin.specs.Rules.{verdict_at_end}
use Rattle.speed_bin.specs.declared.header.Header.{Header}
use Rattle.reports.specs.Delivered.{device_steps, AreInside}
use Rattle.reports.specs.Headline.{shown_log}
use Rattle.reports.specs.Report.{report}
use Rattle.reports.specs.Runs.{Run, log_of}
use Rattle.reports.specs.Stats.{stat_lines, stats}
use Rattle.reports.specs.Whole.{whole}
use Rattle.audited_reports.specs.Audited.{IsAuditedOk, IsEnding, IsTold, SaysOk}
use Rattle.audited_reports.proofs.Ranges.{AreBody, report-body}
use Rattle.audited_reports.proofs.Read.{reads-back}
use Rattle.ddr_text.proofs.Reopened.{reopens}
use Rattle.ddr_text.proofs.Places.{places_of-append}
use Rattle.audited_reports.proofs.Whole.{whole-stands}

-- ---- The log and the end of a report

no-place : (log : LogCounts) (scrub : ScrubCounts) (clock : ℕ) (refusal : Option Refusal) → places_of (stat_lines log scrub ++ End clock ∷ refusal_lines refusal) ≡ []
unfolding stat_lines
no-place log scrub clock None = refl
no-place log scrub clock (Some refusal) = refl

-- E lines stand behind the S lines
end-behind : (log : LogCounts) (scrub : ScrubCounts) (clock : ℕ) (more : List ReportLine) → end_of (stat_lines log scrub ++ End clock ∷ more) ≡ Some clock
unfolding stat_lines
end-behind log scrub clock more = refl

end-body : (h : Header) (a b : List ReportLine) → AreBody (shape_of h) a → end_of (a ++ b) ≡ end_of b
end-body h [] b body = refl
end-body h (Issued clock command ∷ a) b body = end-body h a b body.2
end-body h (Value number line bytes state ∷ a) b body = end-body h a b body.2
end-body h (Flip clock line device bit ∷ a) b body = end-body h a b body.2
end-body h (Stat name number ∷ a) b body = absurd (let k = body.1 in cc)
end-body h (End clock ∷ a) b body = absurd (let k = body.1 in cc)
end-body h (Refused line reason ∷ a) b body = absurd (let k = body.1 in cc)

-- ---- The verdict

whole-log : (h : Header) (trace : List TraceLine) (run : Run) (clock : ℕ) (refusal : Option Refusal) → judged_log (whole h trace run clock refusal) ≡ shown_log h trace run
whole-log h trace run clock refusal =
    let last = End clock ∷ refusal_lines refusal in
    ap (λ l. reverse (places_of l)) (append_assoc (report h trace run) (stats h trace run) last)
    ∙ ap reverse (places_of-append (report h trace run) (stats h trace run ++ last))
    ∙ ap (λ l. reverse (places_of (report h trace run) ++ l)) (no-place _ _ clock refusal)
    ∙ ap reverse (append-nil (places_of (report h trace run)))

whole-end : (h : Header) (trace : List TraceLine) (run : Run) (clock : ℕ) (refusal : Option Refusal) → AreBody (shape_of h) (report h trace run) → end_of (whole h trace run clock refusal) ≡ Some clock
whole-end h trace run clock refusal body =
    let last = End clock ∷ refusal_lines refusal in
    ap end_of (append_assoc (report h trace run) (stats h trace run) last)
    ∙ end-body h (report h trace run) (stats h trace run ++ last) body
    ∙ end-behind _ _ clock (refusal_lines refusal)

no-breach : (h : Header) (trace : List TraceLine) (run : Run) (clock : ℕ) (refusal : Option Refusal) → AreBody (shape_of h) (report h trace run) → verdict_at_end h clock (shown_log h trace run) ≡ None
    → breach_of h (whole h trace run clock refusal) ≡ None
no-breach h trace run clock refusal body fine =
    let lines = whole h trace run clock refusal in
    ap (λ e. on_line (numbers_from 1 lines) (breach_at h e (judged_log lines))) (whole-end h trace run clock refusal body)
    ∙ ap (λ log. on_line (numbers_from 1 lines) (verdict_at_end h clock log)) (whole-log h trace run clock refusal)
    ∙ ap (on_line (numbers_from 1 lines)) fine

-- ---- The finding

-- what is taken from laws of the crates below
pub record Laws : Type 0 where
  pub grammar : ReportLines
  pub device : (h : Header) (trace : List TraceLine) (run : Run) → device_log (device_steps h trace run) ≡ log_of run

small-shape : (h : Header) → IsAccepted h → lines_of (shape_of h) ≤ 2 ^ 64
small-shape h accepted = go h.version.groups accepted.version.2
  where
    go : (groups : ℕ) → IsGroups groups → h.settings.rows * 256 * groups ≤ 2 ^ 64
    go groups (inl e) = let k = accepted.settings.rows.1 in rw e (omega (arith, k))
    go groups (inr e) = let k = accepted.settings.rows.1 in rw e (omega (arith, k))

read-lines : Laws → (h : Header) (trace : List TraceLine) (run : Run) (clock : ℕ) (refusal : Option Refusal) → IsAccepted h → AreInside (shape_of h) trace → length trace ≤ 1048576 → IsTold refusal → IsEnding h trace run clock refusal
    → lines_in (shape_of h) Body 1 (parts_of (flat_map spelled (whole h trace run clock refusal))) ≡ record { lines = whole h trace run clock refusal; refusal = None }
read-lines laws h trace run clock refusal accepted inside lines told r =
    let few = r.lines in
    reads-back laws.grammar (shape_of h) Body 1 (whole h trace run clock refusal) (small-shape h accepted) (omega (arith, few))
    (whole-stands h trace run clock refusal (laws.device h trace run) accepted inside lines told r)

found : Laws → (h : Header) (job text rest : List ℕ) (trace : List TraceLine) (run : Run) (clock : ℕ) (refusal : Option Refusal) → IsAccepted h → opening_of job ≡ Accepts h text rest → AreInside (shape_of h) trace → length trace ≤ 1048576
    → IsTold refusal → IsEnding h trace run clock refusal → finding_of (text ++ flat_map spelled (whole h trace run clock refusal)) ≡ fine_or None
found laws h job text rest trace run clock refusal accepted opens inside few told r =
    let lines = whole h trace run clock refusal in
    ap found_in (reopens h job text rest (flat_map spelled lines) opens)
    ∙ ap (found_behind h) (read-lines laws h trace run clock refusal accepted inside few told r)
    ∙ ap fine_or (no-breach h trace run clock refusal (report-body h trace run accepted inside few r.sound) r.rules)

said : (bytes : List ℕ) → finding_of bytes ≡ fine_or None → IsAuditedOk bytes
unfolding finding_text
said bytes e = record { finding = ap is_fine e; text = ap finding_text e; status = ap status_of e }

pub ended : Laws → (h : Header) (job text rest : List ℕ) (trace : List TraceLine) (run : Run) (clock : ℕ) (refusal : Option Refusal) → IsAccepted h → opening_of job ≡ Accepts h text rest → AreInside (shape_of h) trace → length trace ≤ 1048576
    → IsTold refusal → IsEnding h trace run clock refusal → IsAuditedOk (text ++ flat_map spelled (whole h trace run clock refusal))
ended laws h job text rest trace run clock refusal accepted opens inside few told r =
    said (text ++ flat_map spelled (whole h trace run clock refusal)) (found laws h job text rest trace run clock refusal accepted opens inside few told r)

-- ---- The answer of an audit

pub says : (bytes : List ℕ) (answer : Status) (left before after : Option (List ℕ)) → IsAuditedOk bytes → Answers answer (io (Some bytes) left before after) → SaysOk answer before after
says bytes status.Ok left before after ok answers =
    let written = answers.0 in
    subst (Appends before after) (ap finding_text (sym written.1) ∙ ok.text) written.3
says bytes status.Broken left before after ok answers = let written = answers.0 in absurd (let no : status.Broken ≡ status.Ok = written.2 ∙ ap status_of (sym written.1) ∙ ok.status in cc)
says bytes status.Refused left before after ok answers = absurd (let no : status.Refused ≡ status.Ok = answers.2 ∙ ap status_of (sym answers.1) ∙ ok.status in cc)
says bytes status.Usage left before after ok answers = answers
says bytes status.ReadFault left before after ok answers = tt
says bytes status.WriteFault left before after ok answers = tt
says bytes status.OutOfMemory left before after ok answers = tt
