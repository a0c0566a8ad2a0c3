-- One line more of an audit.
use Rattle.std.proofs.Common.{◌≡◌, ◌∙◌, ℕ, suc, ◌+◌, true, false, Option, Some, None, List, [], ◌∷◌, ◌++◌, length, length-append, refl, sym, ap, subst, arith}
use Rattle.ddr_text.specs.declared.lines.ReportLine.{ReportLine}
use Rattle.ddr_text.specs.declared.lines.ReportLine.TheVariants.{Issued, Value, Flip, Stat, End, Refused as RefusedLine}
use Rattle.speed_bin.specs.Rules.{broken, broken_at_end, verdict, verdict_after}
use Rattle.speed_bin.specs.declared.header.Header.{Header}
use Rattle.log_auditor.specs.Auditing.{StandsFor, Taken, told}
use Rattle.log_auditor.specs.Findings.{breach_at, breach_of, end_of, fine_or, is_fine, is_place, log_of, numbers_from, on_line}
use Rattle.log_auditor.specs.AuditSoFar.{Audited}
use Rattle.ddr_text.specs.ReportReading.{is_whole, stage_after}
use Rattle.log_auditor.specs.declared.auditor.Auditor.{Auditor}
use Rattle.log_auditor.specs.declared.finding.Finding.{Finding}
use Rattle.log_auditor.specs.declared.finding.Finding.TheVariants.{Fine, Broken, Refused}
use Rattle.ddr_text.specs.declared.report_reader.Stage.{Stage}
use Rattle.ddr_text.specs.declared.report_reader.Stage.TheVariants.{Body, Counts, Ended, Closed}
use Rattle.log_auditor.specs.declared.verdict.Verdict.{Verdict}
use Rattle.log_auditor.specs.declared.verdict.Verdict.TheVariants.{Fine as FineVerdict, Breaks}
use Rattle.log_auditor.proofs.Lines.{breach_issued, breach_ended, breach_other, end_other, later, log_issued, log_other}

-- ---- Stages

-- C lines and the E line stand before the end
pub place_open : (stage after : Stage) (line : ReportLine) → stage_after stage line ≡ Some after → is_place line ≡ true → is_whole stage ≡ false
place_open Body after line stands place = refl
place_open Counts after line stands place = refl
place_open Ended after (Issued clock command) stands place = absurd cc
place_open Ended after (Value number line bytes state) stands place = absurd cc
place_open Ended after (Flip clock line device bit) stands place = absurd cc
place_open Ended after (Stat name number) stands place = absurd cc
place_open Ended after (End clock) stands place = absurd cc
place_open Ended after (RefusedLine line reason) stands place = absurd cc
place_open Closed after line stands place = absurd cc

not_ended : (s : Stage) → Ended ≡ s → is_whole s ≡ false → ⊥
not_ended Body e k = cc
not_ended Counts e k = cc
not_ended Ended e k = cc
not_ended Closed e k = cc

not_closed : (s : Stage) → Closed ≡ s → is_whole s ≡ false → ⊥
not_closed Body e k = cc
not_closed Counts e k = cc
not_closed Ended e k = cc
not_closed Closed e k = cc

-- before the end stands no E line
going : (stage after : Stage) (line : ReportLine) → stage_after stage line ≡ Some after → is_whole after ≡ false → (is_whole stage ≡ false) × (end_of (line ∷ []) ≡ None)
going Body after (Issued clock command) stands runs = (refl, refl)
going Body after (Value number line bytes state) stands runs = (refl, refl)
going Body after (Flip clock line device bit) stands runs = (refl, refl)
going Body after (Stat name number) stands runs = (refl, refl)
going Body after (End clock) stands runs = let same : Ended ≡ after = cc in absurd (not_ended after same runs)
going Body after (RefusedLine line reason) stands runs = absurd cc
going Counts after (Issued clock command) stands runs = absurd cc
going Counts after (Value number line bytes state) stands runs = absurd cc
going Counts after (Flip clock line device bit) stands runs = absurd cc
going Counts after (Stat name number) stands runs = (refl, refl)
going Counts after (End clock) stands runs = let same : Ended ≡ after = cc in absurd (not_ended after same runs)
going Counts after (RefusedLine line reason) stands runs = absurd cc
going Ended after (Issued clock command) stands runs = absurd cc
going Ended after (Value number line bytes state) stands runs = absurd cc
going Ended after (Flip clock line device bit) stands runs = absurd cc
going Ended after (Stat name number) stands runs = absurd cc
going Ended after (End clock) stands runs = absurd cc
going Ended after (RefusedLine line reason) stands runs = let same : Closed ≡ after = cc in absurd (not_closed after same runs)
going Closed after line stands runs = absurd cc

-- ---- What every line adds

number_next : (lines : List ReportLine) (line : ReportLine) (number : ℕ) → number ≡ suc (length lines) → number + 1 ≡ suc (length (lines ++ line ∷ []))
number_next lines line number is = let e = length-append lines (line ∷ []) in omega (arith, e)

end_next : (stage after : Stage) (lines : List ReportLine) (line : ReportLine) → (is_whole stage ≡ false → end_of lines ≡ None) → stage_after stage line ≡ Some after → is_whole after ≡ false → end_of (lines ++ line ∷ []) ≡ None
end_next stage after lines line before stands runs = let p = going stage after line stands runs in end_other lines line p.1 ∙ before p.0

-- ---- A rule was broken before

broken_before : (o : Option (ℕ × ℕ)) (f : Finding) → f ≡ fine_or o → is_fine f ≡ false → (b : ℕ × ℕ) × (o ≡ Some b)
broken_before None f is shut = absurd (let same : is_fine f ≡ true = ap is_fine is in cc)
broken_before (Some b) f is shut = (b, refl)

breach_stays : (h : Header) (stage after : Stage) (lines : List ReportLine) (line : ReportLine) (b : ℕ × ℕ) → (is_whole stage ≡ false → end_of lines ≡ None) → stage_after stage line ≡ Some after → breach_of h lines ≡ Some b → breach_of h (lines ++ line ∷ []) ≡ Some b
breach_stays h stage after lines (Issued clock command) b before stands e = breach_issued h lines clock command (before (place_open stage after (Issued clock command) stands refl)) ∙ ap (λ o. later o (1 + length lines) (broken h clock command (log_of lines))) e
breach_stays h stage after lines (End clock) b before stands e = breach_ended h lines clock (before (place_open stage after (End clock) stands refl)) ∙ ap (λ o. later o (1 + length lines) (broken_at_end h clock (log_of lines))) e
breach_stays h stage after lines (Value number line bytes state) b before stands e = breach_other h lines (Value number line bytes state) refl ∙ e
breach_stays h stage after lines (Flip clock line device bit) b before stands e = breach_other h lines (Flip clock line device bit) refl ∙ e
breach_stays h stage after lines (Stat name number) b before stands e = breach_other h lines (Stat name number) refl ∙ e
breach_stays h stage after lines (RefusedLine line reason) b before stands e = breach_other h lines (RefusedLine line reason) refl ∙ e

pub audited_broken : (h : Header) (stage after : Stage) (number : ℕ) (finding : Finding) (auditor : Auditor) (lines : List ReportLine) (line : ReportLine) → Audited h stage number finding auditor lines → stage_after stage line ≡ Some after → is_fine finding ≡ false → Audited h after (number + 1) finding auditor (lines ++ line ∷ [])
audited_broken h stage after number finding auditor lines line audited stands shut =
    let b = broken_before (breach_of h lines) finding audited.found shut in
    record {
      numbered = number_next lines line number audited.numbered;
      going_on = end_next stage after lines line audited.going_on stands;
      found = audited.found ∙ ap fine_or (b.1 ∙ sym (breach_stays h stage after lines line b.0 audited.going_on stands b.1));
      stands = λ fine. absurd (let same : is_fine finding ≡ true = ap is_fine fine in cc);
    }

-- ---- A line that is no place

pub audited_other : (h : Header) (stage after : Stage) (number : ℕ) (finding : Finding) (auditor : Auditor) (lines : List ReportLine) (line : ReportLine) → Audited h stage number finding auditor lines → stage_after stage line ≡ Some after → is_place line ≡ false → Audited h after (number + 1) finding auditor (lines ++ line ∷ [])
audited_other h stage after number finding auditor lines line audited stands other = record {
  numbered = number_next lines line number audited.numbered;
  going_on = end_next stage after lines line audited.going_on stands;
  found = audited.found ∙ ap fine_or (sym (breach_other h lines line other));
  stands = λ fine runs. subst (StandsFor auditor h) (sym (log_other lines line other)) (audited.stands fine (going stage after line stands runs).0);
}

-- ---- A place

fine_before : (o : Option (ℕ × ℕ)) (f : Finding) → f ≡ fine_or o → is_fine f ≡ true → o ≡ None
fine_before None f is fine = refl
fine_before (Some b) f is fine = absurd (let same : is_fine f ≡ false = ap is_fine is in cc)

no_breach : (xs : List ℕ) (v : Option (ℕ × ℕ)) → on_line xs v ≡ None → v ≡ None
no_breach xs None e = refl
no_breach xs (Some b) e = absurd cc

-- what is found at a place behind a log that was fine
abbrev found_at : ℕ → Verdict → Finding
found_at number FineVerdict = Fine
found_at number (Breaks rule) = Broken number rule

found_next : (number m : ℕ) (v : Option (ℕ × ℕ)) (fails : Option ℕ) → v ≡ None → found_at number (told (verdict_after v m fails)) ≡ fine_or (later None number fails)
found_next number m None None e = refl
found_next number m None (Some rule) e = refl
found_next number m (Some b) fails e = absurd cc

first_number : (number n : ℕ) → number ≡ suc n → 1 + n ≡ number
first_number number n e = omega arith

found_place : (h : Header) (stage after : Stage) (number : ℕ) (finding : Finding) (auditor new : Auditor) (lines : List ReportLine) (line : ReportLine) (answer : Verdict) → Audited h stage number finding auditor lines → stage_after stage line ≡ Some after → is_fine finding ≡ true → is_place line ≡ true → Taken line new h (log_of lines) answer
    → found_at number answer ≡ fine_or (breach_of h (lines ++ line ∷ []))
found_place h stage after number finding auditor new lines (Issued clock command) answer audited stands fine place taken =
    let none = audited.going_on (place_open stage after (Issued clock command) stands refl) in
    let before = fine_before (breach_of h lines) finding audited.found fine in
    let v : verdict h (log_of lines) ≡ None = no_breach (numbers_from 1 lines) (verdict h (log_of lines)) (ap (λ e. on_line (numbers_from 1 lines) (breach_at h e (log_of lines))) (sym none) ∙ before) in
    ap (found_at number) taken.1
    ∙ found_next number (suc (length (log_of lines))) (verdict h (log_of lines)) (broken h clock command (log_of lines)) v
    ∙ ap (λ n. fine_or (later None n (broken h clock command (log_of lines)))) (sym (first_number number (length lines) audited.numbered))
    ∙ ap (λ o. fine_or (later o (1 + length lines) (broken h clock command (log_of lines)))) (sym before)
    ∙ ap fine_or (sym (breach_issued h lines clock command none))
found_place h stage after number finding auditor new lines (End clock) answer audited stands fine place taken =
    let none = audited.going_on (place_open stage after (End clock) stands refl) in
    let before = fine_before (breach_of h lines) finding audited.found fine in
    let v : verdict h (log_of lines) ≡ None = no_breach (numbers_from 1 lines) (verdict h (log_of lines)) (ap (λ e. on_line (numbers_from 1 lines) (breach_at h e (log_of lines))) (sym none) ∙ before) in
    ap (found_at number) taken
    ∙ found_next number (suc (length (log_of lines))) (verdict h (log_of lines)) (broken_at_end h clock (log_of lines)) v
    ∙ ap (λ n. fine_or (later None n (broken_at_end h clock (log_of lines)))) (sym (first_number number (length lines) audited.numbered))
    ∙ ap (λ o. fine_or (later o (1 + length lines) (broken_at_end h clock (log_of lines)))) (sym before)
    ∙ ap fine_or (sym (breach_ended h lines clock none))
found_place h stage after number finding auditor new lines (Value n line bytes state) answer audited stands fine place taken = absurd cc
found_place h stage after number finding auditor new lines (Flip clock line device bit) answer audited stands fine place taken = absurd cc
found_place h stage after number finding auditor new lines (Stat name n) answer audited stands fine place taken = absurd cc
found_place h stage after number finding auditor new lines (RefusedLine line reason) answer audited stands fine place taken = absurd cc

stands_place : (h : Header) (stage after : Stage) (new : Auditor) (lines : List ReportLine) (line : ReportLine) (answer : Verdict) → stage_after stage line ≡ Some after → is_whole after ≡ false → is_place line ≡ true → Taken line new h (log_of lines) answer → StandsFor new h (log_of (lines ++ line ∷ []))
stands_place h stage after new lines (Issued clock command) answer stands runs place taken = subst (StandsFor new h) (sym (log_issued lines clock command)) taken.0
stands_place h stage after new lines (End clock) answer stands runs place taken = absurd (let none = (going stage after (End clock) stands runs).1 in cc)
stands_place h stage after new lines (Value n line bytes state) answer stands runs place taken = absurd cc
stands_place h stage after new lines (Flip clock line device bit) answer stands runs place taken = absurd cc
stands_place h stage after new lines (Stat name n) answer stands runs place taken = absurd cc
stands_place h stage after new lines (RefusedLine line reason) answer stands runs place taken = absurd cc

pub audited_place : (h : Header) (stage after : Stage) (number : ℕ) (finding : Finding) (auditor new : Auditor) (lines : List ReportLine) (line : ReportLine) (answer : Verdict) (found : Finding) → Audited h stage number finding auditor lines → stage_after stage line ≡ Some after → is_fine finding ≡ true → is_place line ≡ true → Taken line new h (log_of lines) answer → found ≡ found_at number answer
    → Audited h after (number + 1) found new (lines ++ line ∷ [])
audited_place h stage after number finding auditor new lines line answer found audited stands fine place taken is = record {
  numbered = number_next lines line number audited.numbered;
  going_on = end_next stage after lines line audited.going_on stands;
  found = is ∙ found_place h stage after number finding auditor new lines line answer audited stands fine place taken;
  stands = λ _ runs. stands_place h stage after new lines line answer stands runs place taken;
}

pub only_fine : (f : Finding) → is_fine f ≡ true → f ≡ Fine
only_fine Fine e = refl
only_fine (Broken line rule) e = absurd cc
only_fine (Refused line reason) e = absurd cc
