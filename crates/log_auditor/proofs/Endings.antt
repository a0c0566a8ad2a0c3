-- How an audit ends, by the bytes.
use Rattle.std.proofs.Common.{◌≡◌, ◌∙◌, ℕ, Option, Some, None, List, [], Result, Ok, Err, IfOk, refl, sym, ap, subst}
use Rattle.std.specs.Io.KnownBytes.{Appends}
use Rattle.ddr_io.specs.Faults.{Rose}
use Rattle.ddr_io.specs.Line.{next_bytes}
use Rattle.ddr_io.specs.Sink.{AppendsPrefix}
use Rattle.ddr_io.specs.declared.status.Status.{Status}
use Rattle.ddr_io.specs.declared.status.Status.TheVariants as status
use Rattle.ddr_text.specs.Io.{io}
use Rattle.ddr_text.specs.Opening.{IsOpening, opening_of}
use Rattle.ddr_text.specs.Outcome.{ReadsAll}
use Rattle.ddr_text.specs.Stop.{ReadCause, WriteCause, status_of as status_of_stop}
use Rattle.ddr_text.specs.declared.lines.ReportLine.{ReportLine}
use Rattle.ddr_text.specs.declared.opening.Opening.TheVariants.{Accepted, Refused as RefusedOpening}
use Rattle.ddr_text.specs.declared.stop.Stop.{Stop}
use Rattle.ddr_text.specs.declared.stop.Stop.TheVariants.{ReadFault, WriteFault, OutOfMemory}
use Rattle.ddr_text.proofs.LinesInFront.{all_read, with_lines_end, with_lines_refusal}
use Rattle.ddr_text.proofs.Outcomes.{reads-opened}
use Rattle.ddr_text.proofs.Prefixes.{no-prefix}
use Rattle.speed_bin.specs.declared.header.Header.{Header}
use Rattle.speed_bin.specs.Header.{shape_of}
use Rattle.log_auditor.specs.Findings.{Answers, Finds, breach_of, fine_or, finding_text, found_behind, found_in, refused_or, status_of}
use Rattle.log_auditor.specs.AuditSoFar.{FindsBehind, IsWritten, ReadsAllOf}
use Rattle.ddr_text.specs.ReportReading.{IsStep, LeftOf, Place, lines_behind, refusal_at, with_lines}
use Rattle.log_auditor.specs.declared.finding.Finding.{Finding}
use Rattle.log_auditor.specs.declared.finding.Finding.TheVariants.{Fine, Broken, Refused}
use Rattle.ddr_text.specs.declared.report_reader.Next.TheVariants.{End, Refused as RefusedNext}

-- ---- Lines behind an opening

pub found_end : (h : Header) (start now after : Option (List ℕ)) (lines : List ReportLine) (old new : Place) (finding : Finding) → LeftOf (lines_behind (shape_of h)) start lines old now → IsStep old new now after End → finding ≡ fine_or (breach_of h lines) → FindsBehind h start finding
found_end h None now after lines old new finding behind step is = tt
found_end h (Some bytes) None after lines old new finding behind step is = absurd behind
found_end h (Some bytes) (Some left) after lines old new finding behind step is =
    ap (found_behind h) (behind ∙ ap (with_lines lines) step.1)
    ∙ ap (λ r. refused_or r (fine_or (breach_of h (with_lines lines (record { lines = []; refusal = None })).lines))) (with_lines_refusal lines (record { lines = []; refusal = None }))
    ∙ ap (λ ls. fine_or (breach_of h ls)) (with_lines_end lines (record { lines = []; refusal = None }) refl)
    ∙ sym is

pub found_refused : (h : Header) (start now after : Option (List ℕ)) (lines : List ReportLine) (old new : Place) (number reason : ℕ) → LeftOf (lines_behind (shape_of h)) start lines old now → IsStep old new now after (RefusedNext number reason) → FindsBehind h start (Refused number reason)
found_refused h None now after lines old new number reason behind step = tt
found_refused h (Some bytes) None after lines old new number reason behind step = absurd behind
found_refused h (Some bytes) (Some left) after lines old new number reason behind step =
    ap (found_behind h) (behind ∙ ap (with_lines lines) step)
    ∙ ap (λ r. refused_or r (fine_or (breach_of h (with_lines lines (record { lines = []; refusal = refusal_at number (Some reason) })).lines))) (with_lines_refusal lines (record { lines = []; refusal = refusal_at number (Some reason) }))

all_of : (old new : Option (List ℕ)) (finding : Finding) → ReadsAll old new → ReadsAllOf old new finding
all_of old new Fine all = all
all_of old new (Broken line rule) all = all
all_of old new (Refused line reason) all = tt

-- where the bytes at the start are known, all were read
pub all_read_of : (h : Header) (source_old source_new now : Option (List ℕ)) (kept held : List ℕ) (lines : List ReportLine) (place new : Place) (finding : Finding) → LeftOf (lines_behind (shape_of h)) (next_bytes kept source_old) lines place now → IsStep place new now (next_bytes held source_new) End → ReadsAllOf source_old source_new finding
all_read_of h source_old source_new now kept held lines place new finding behind step = all_of source_old source_new finding (all_read (lines_behind (shape_of h)) place new source_old source_new now kept held lines behind step)

-- ---- The opening

next_empty : (left : Option (List ℕ)) → next_bytes [] left ≡ left
next_empty None = refl
next_empty (Some xs) = refl

pub finds_accepted : (old mid : Option (List ℕ)) (h : Header) (text : List ℕ) (finding : Finding) → IsOpening (next_bytes [] old) mid (Accepted h text) → FindsBehind h mid finding → Finds old finding
finds_accepted None mid h text finding opened found = tt
finds_accepted (Some bytes) mid h text finding opened found = ap found_in opened.1 ∙ subst (λ (o : Option (List ℕ)). FindsBehind h o finding) opened.2 found

pub finds_refused : (old mid : Option (List ℕ)) (reason : ℕ) → IsOpening (next_bytes [] old) mid (RefusedOpening reason) → Finds old (Refused 0 reason)
finds_refused None mid reason opened = tt
finds_refused (Some bytes) mid reason opened = ap found_in opened

pub reads_accepted : (old mid new : Option (List ℕ)) (held : List ℕ) (h : Header) (text : List ℕ) (finding : Finding) → IsOpening (next_bytes [] old) (next_bytes held mid) (Accepted h text) → ReadsAllOf mid new finding → ReadsAllOf old new finding
reads_accepted old mid new held h text Fine opened all = reads-opened old mid new held h text opened all
reads_accepted old mid new held h text (Broken line rule) opened all = reads-opened old mid new held h text opened all
reads_accepted old mid new held h text (Refused line reason) opened all = tt

-- ---- What is written

pub is_written : (answer : Status) (finding : Finding) (before after : Option (List ℕ)) → answer ≡ status_of finding → Appends before after (finding_text finding) → IsWritten answer finding before after
is_written answer Fine before after is written = subst (λ (s : Status). IsWritten s Fine before after) (sym is) (refl, written)
is_written answer (Broken line rule) before after is written = subst (λ (s : Status). IsWritten s (Broken line rule) before after) (sym is) (refl, written)
is_written answer (Refused line reason) before after is written = subst (λ (s : Status). IsWritten s (Refused line reason) before after) (sym is) (refl, written)

no_fault : (f : Finding) → status.ReadFault ≡ status_of f → ⊥
no_fault Fine e = cc
no_fault (Broken line rule) e = cc
no_fault (Refused line reason) e = cc

no_usage : (f : Finding) → status.Usage ≡ status_of f → ⊥
no_usage Fine e = cc
no_usage (Broken line rule) e = cc
no_usage (Refused line reason) e = cc

answered : (answer : Status) (finding : Finding) (old new before after : Option (List ℕ)) → Finds old finding → ReadsAllOf old new finding → IsWritten answer finding before after → Answers answer (io old new before after)
answered status.Ok Fine old new before after found all written = ((Fine, found, refl, written.1), all)
answered status.Ok (Broken line rule) old new before after found all written = absurd (let no = written.0 in cc)
answered status.Ok (Refused line reason) old new before after found all written = absurd (let no = written.0 in cc)
answered status.Broken Fine old new before after found all written = absurd (let no = written.0 in cc)
answered status.Broken (Broken line rule) old new before after found all written = ((Broken line rule, found, refl, written.1), all)
answered status.Broken (Refused line reason) old new before after found all written = absurd (let no = written.0 in cc)
answered status.Refused Fine old new before after found all written = absurd (let no = written.0 in cc)
answered status.Refused (Broken line rule) old new before after found all written = absurd (let no = written.0 in cc)
answered status.Refused (Refused line reason) old new before after found all written = (Refused line reason, found, refl, written.1)
answered status.ReadFault finding old new before after found all written = absurd (no_fault finding written.0)
answered status.WriteFault finding old new before after found all written = (finding, found, written)
answered status.OutOfMemory finding old new before after found all written = (finding, found, written)
answered status.Usage finding old new before after found all written = absurd (no_usage finding written.0)

pub answers_found : (answer : Status) (finding : Finding) (old new before after : Option (List ℕ)) → Finds old finding → ReadsAllOf old new finding → IsWritten answer finding before after → Answers answer (io old new before after)
answers_found = answered

-- nothing is written where the report was not read
any_finding : (old : Option (List ℕ)) → (finding : Finding) × Finds old finding
any_finding None = (Fine, tt)
any_finding (Some bytes) = (found_in (opening_of bytes), refl)

pub answers_stopped : (stop : Stop) (faults later : ℕ) (old new before : Option (List ℕ)) → ReadCause faults later stop → Answers (status_of_stop stop) (io old new before before)
answers_stopped ReadFault faults later old new before cause = let f = any_finding old in (f.0, f.1, no-prefix before (finding_text f.0))
answers_stopped WriteFault faults later old new before cause = absurd cause
answers_stopped OutOfMemory faults later old new before cause = let f = any_finding old in (f.0, f.1, no-prefix before (finding_text f.0))

pub map_ok : {A E : Type 0} (r : Result A E) (P Q : A → Type 0) → ((x : A) → P x → Q x) → IfOk r P → IfOk r Q
map_ok (Ok x) P Q f h = f x h
map_ok (Err e) P Q f h = tt

pub stopped_read : (stop : Stop) (before after : ℕ) → ReadCause before after stop → status_of_stop stop ≡ status.ReadFault → Rose before after
stopped_read ReadFault before after cause e = cause
stopped_read WriteFault before after cause e = absurd cause
stopped_read OutOfMemory before after cause e = absurd cc

pub written_no_read : (answer : Status) (finding : Finding) (before after : Option (List ℕ)) → IsWritten answer finding before after → answer ≡ status.ReadFault → ⊥
written_no_read answer finding before after written e = let w = subst (λ (s : Status). IsWritten s finding before after) e written in no_fault finding w.0

pub written_no_usage : (answer : Status) (finding : Finding) (before after : Option (List ℕ)) → IsWritten answer finding before after → answer ≡ status.Usage → ⊥
written_no_usage answer finding before after written e = let w = subst (λ (s : Status). IsWritten s finding before after) e written in no_usage finding w.0

-- a write that stopped
pub cut_written : (stop : Stop) (finding : Finding) (faults later : ℕ) (before after : Option (List ℕ)) → WriteCause faults later stop → AppendsPrefix before after (finding_text finding) → IsWritten (status_of_stop stop) finding before after
cut_written ReadFault finding faults later before after cause cut = absurd cause
cut_written WriteFault finding faults later before after cause cut = cut
cut_written OutOfMemory finding faults later before after cause cut = cut
