-- Lines of a report that are written again, one after another.
use Rattle.std.proofs.Common.{◌≡◌, ◌∙◌, ◌<◌, ◌-◌, ℕ, Option, Some, None, List, [], ◌∷◌, ◌++◌, refl, sym, ap, subst, arith, append-nil, append_assoc}
use Rattle.std.specs.List.{flat_map}
use Rattle.std.specs.Io.KnownBytes.{Appends}
use Rattle.std.proofs.KnownBytes.{Appends-trans, Appends-nil}
use Rattle.std.proofs.lemmas.Grind.{flat_map-append}
use Rattle.ddr_io.specs.Line.{next_bytes}
use Rattle.ddr_io.specs.Sink.{AppendsPrefix}
use Rattle.ddr_io.specs.declared.line_reader.Line.TheVariants.{Text as TextAnswer}
use Rattle.ddr_io.specs.declared.status.Status.{Status}
use Rattle.ddr_io.specs.declared.status.Status.TheVariants as status
use Rattle.ddr_text.specs.Io.{io}
use Rattle.ddr_text.specs.Outcome.{AnswersAs, Outcome, ReadsAll, RefusesLine, refusal_status, refusal_text}
use Rattle.ddr_text.specs.Spelling.{spelled}
use Rattle.ddr_text.specs.Stop.{WriteCause, status_of}
use Rattle.ddr_text.specs.declared.lines.ReportLine.{ReportLine}
use Rattle.ddr_text.specs.declared.lines.ReportLine.TheVariants.{Refused}
use Rattle.ddr_text.specs.declared.stop.Stop.{Stop}
use Rattle.ddr_text.proofs.LinesInFront.{all_read, left_next, with_lines_all}
use Rattle.ddr_text.proofs.Outcomes.{answers-cut}
use Rattle.ddr_text.proofs.Prefixes.{prefix-behind, prefix-longer, prefix-whole}
use Rattle.ddr_text.specs.ReportReading.{IsStep, LeftOf, Lines, Place, StepsOn, lines_left, refusal_at, with_lines}
use Rattle.ddr_text.specs.declared.report_reader.Next.TheVariants.{Line, End, Refused as RefusedNext}
use Rattle.ddr_cli.specs.Behind.{IsOutcomeBehind, WrittenSoFar, outcome_behind}

-- ---- What is written of lines

text_with : (line_text : ReportLine → List ℕ) (lines : List ReportLine) (rest : Lines) → flat_map line_text (lines ++ rest.lines) ++ refusal_text rest.refusal ≡ flat_map line_text lines ++ (flat_map line_text rest.lines ++ refusal_text rest.refusal)
text_with line_text lines rest = ap (λ l. l ++ refusal_text rest.refusal) (flat_map-append line_text lines rest.lines) ∙ append_assoc (flat_map line_text lines) (flat_map line_text rest.lines) (refusal_text rest.refusal)

-- what is written begins with the text of the lines so far
pub outcome_rest : (line_text : ReportLine → List ℕ) (lines : List ReportLine) (rest : Lines) → outcome_behind line_text (with_lines lines rest) ≡ record { text = flat_map line_text lines ++ (outcome_behind line_text rest).text; status = (outcome_behind line_text rest).status }
outcome_rest line_text lines rest = ap (outcome_behind line_text) (with_lines_all lines rest) ∙ ap (λ t. record { text = t; status = refusal_status rest.refusal }) (text_with line_text lines rest)

-- these lines were written, and this is left
pub outcome_with : (line_text : ReportLine → List ℕ) (first it : Place) (start left : Option (List ℕ)) (lines : List ReportLine) (rest : Lines) → LeftOf (lines_left first) start lines it left → ((bytes : List ℕ) → left ≡ Some bytes → lines_left it bytes ≡ rest)
    → IsOutcomeBehind line_text first start (record { text = flat_map line_text lines ++ (outcome_behind line_text rest).text; status = (outcome_behind line_text rest).status })
outcome_with line_text first it None left lines rest behind is = tt
outcome_with line_text first it (Some bytes) None lines rest behind is = absurd behind
outcome_with line_text first it (Some bytes) (Some left) lines rest behind is =
    ap (outcome_behind line_text) behind ∙ outcome_rest line_text lines (lines_left it left) ∙ ap (λ (r : Lines). record { text = flat_map line_text lines ++ (outcome_behind line_text r).text; status = (outcome_behind line_text r).status }) (is left refl)

-- what is written begins with these lines
outcome_prefix : (line_text : ReportLine → List ℕ) (first it : Place) (start left : Option (List ℕ)) (lines : List ReportLine) → LeftOf (lines_left first) start lines it left → (s : Outcome) × IsOutcomeBehind line_text first start s × (more : List ℕ) × (s.text ≡ flat_map line_text lines ++ more)
outcome_prefix line_text first it None left lines behind = (record { text = flat_map line_text lines; status = status.Ok }, tt, [], sym (append-nil (flat_map line_text lines)))
outcome_prefix line_text first it (Some bytes) None lines behind = absurd behind
outcome_prefix line_text first it (Some bytes) (Some left) lines behind = (outcome_behind line_text (lines_left first bytes), refl, (outcome_behind line_text (lines_left it left)).text, ap (λ (t : Outcome). t.text) (ap (outcome_behind line_text) behind ∙ outcome_rest line_text lines (lines_left it left)))

-- ---- One step

text_more : (line_text : ReportLine → List ℕ) (lines : List ReportLine) (line : ReportLine) → flat_map line_text (lines ++ line ∷ []) ≡ flat_map line_text lines ++ line_text line
text_more line_text lines line = flat_map-append line_text lines (line ∷ []) ∙ ap (λ l. flat_map line_text lines ++ l) (append-nil (line_text line))

pub written_next : (line_text : ReportLine → List ℕ) (before middle after : Option (List ℕ)) (lines : List ReportLine) (line : ReportLine) → Appends before middle (flat_map line_text lines) → Appends middle after (line_text line) → Appends before after (flat_map line_text (lines ++ line ∷ []))
written_next line_text before middle after lines line so_far more = subst (Appends before after) (sym (text_more line_text lines line)) (Appends-trans before middle after (flat_map line_text lines) (line_text line) so_far more)

-- ---- Answers

begins : (line_text : ReportLine → List ℕ) (first it : Place) (start left before after : Option (List ℕ)) (lines : List ReportLine) → LeftOf (lines_left first) start lines it left → AppendsPrefix before after (flat_map line_text lines) → (s : Outcome) × IsOutcomeBehind line_text first start s × AppendsPrefix before after s.text
begins line_text first it start left before after lines behind so_far =
    let p = outcome_prefix line_text first it start left lines behind in
    (p.0, p.1, subst (AppendsPrefix before after) (sym p.3) (prefix-longer before after (flat_map line_text lines) p.2 so_far))

-- the source had a fault
pub writes_fault : (line_text : ReportLine → List ℕ) (first it : Place) (start left old new before after : Option (List ℕ)) (lines : List ReportLine) → LeftOf (lines_left first) start lines it left → Appends before after (flat_map line_text lines) → AnswersAs (IsOutcomeBehind line_text first start) status.ReadFault (io old new before after)
writes_fault line_text first it start left old new before after lines behind so_far = begins line_text first it start left before after lines behind (prefix-whole before after (flat_map line_text lines) so_far)

-- a line could not be written
pub writes_cut : (line_text : ReportLine → List ℕ) (first it next : Place) (start now left old new before middle after : Option (List ℕ)) (lines : List ReportLine) (line : ReportLine) (faults later : ℕ) (stop : Stop) → LeftOf (lines_left first) start lines it now → IsStep it next now left (Line line) → Appends before middle (flat_map line_text lines) → AppendsPrefix middle after (line_text line) → WriteCause faults later stop
    → AnswersAs (IsOutcomeBehind line_text first start) (status_of stop) (io old new before after)
writes_cut line_text first it next start now left old new before middle after lines line faults later stop behind step so_far cut cause =
    let p = outcome_prefix line_text first next start left (lines ++ line ∷ []) (left_next (lines_left first) start now left lines line it next behind step) in
    let far : AppendsPrefix before after (flat_map line_text (lines ++ line ∷ [])) = subst (AppendsPrefix before after) (sym (text_more line_text lines line)) (prefix-behind before middle after (flat_map line_text lines) (line_text line) so_far cut) in
    answers-cut (IsOutcomeBehind line_text first start) p.0 stop faults later old new before after p.1 (subst (AppendsPrefix before after) (sym p.3) (prefix-longer before after (flat_map line_text (lines ++ line ∷ [])) p.2 far)) cause

end_left : (it new : Place) (left after : Option (List ℕ)) → IsStep it new left after End → (bytes : List ℕ) → left ≡ Some bytes → lines_left it bytes ≡ record { lines = []; refusal = None }
end_left it new None after step bytes e = absurd cc
end_left it new (Some xs) after step bytes e = let same : xs ≡ bytes = cc in ap (lines_left it) (sym same) ∙ step.1

refused_left : (it new : Place) (left after : Option (List ℕ)) (number reason : ℕ) → IsStep it new left after (RefusedNext number reason) → (bytes : List ℕ) → left ≡ Some bytes → lines_left it bytes ≡ record { lines = []; refusal = refusal_at number (Some reason) }
refused_left it new None after number reason step bytes e = absurd cc
refused_left it new (Some xs) after number reason step bytes e = let same : xs ≡ bytes = cc in ap (lines_left it) (sym same) ∙ step

-- all lines were written
pub writes_all : (line_text : ReportLine → List ℕ) (first it next : Place) (old new left before after : Option (List ℕ)) (kept held : List ℕ) (lines : List ReportLine) → LeftOf (lines_left first) (next_bytes kept old) lines it left → IsStep it next left (next_bytes held new) End → Appends before after (flat_map line_text lines)
    → AnswersAs (IsOutcomeBehind line_text first (next_bytes kept old)) status.Ok (io old new before after)
writes_all line_text first it next old new left before after kept held lines behind step so_far = (
  (
    record { text = flat_map line_text lines ++ []; status = status.Ok },
    outcome_with line_text first it (next_bytes kept old) left lines (record { lines = []; refusal = None }) behind (end_left it next left (next_bytes held new) step),
    refl,
    subst (Appends before after) (sym (append-nil (flat_map line_text lines))) so_far,
  ),
  all_read (lines_left first) it next old new left kept held lines behind step,
)

-- a line was refused
pub writes_refusal : (line_text : ReportLine → List ℕ) (first it next : Place) (start left later old new before middle after : Option (List ℕ)) (lines : List ReportLine) (number reason : ℕ) (answer : Status) → LeftOf (lines_left first) start lines it left → IsStep it next left later (RefusedNext number reason) → Appends before middle (flat_map line_text lines) → RefusesLine answer number reason middle after
    → AnswersAs (IsOutcomeBehind line_text first start) answer (io old new before after)
writes_refusal line_text first it next start left later old new before middle after lines number reason status.Refused behind step so_far refuses = (
  record { text = flat_map line_text lines ++ spelled (Refused number reason); status = status.Refused },
  outcome_with line_text first it start left lines (record { lines = []; refusal = refusal_at number (Some reason) }) behind (refused_left it next left later number reason step),
  refl,
  Appends-trans before middle after (flat_map line_text lines) (spelled (Refused number reason)) so_far refuses,
)
writes_refusal line_text first it next start left later old new before middle after lines number reason status.WriteFault behind step so_far refuses = (
  record { text = flat_map line_text lines ++ spelled (Refused number reason); status = status.Refused },
  outcome_with line_text first it start left lines (record { lines = []; refusal = refusal_at number (Some reason) }) behind (refused_left it next left later number reason step),
  prefix-behind before middle after (flat_map line_text lines) (spelled (Refused number reason)) so_far refuses,
)
writes_refusal line_text first it next start left later old new before middle after lines number reason status.OutOfMemory behind step so_far refuses = (
  record { text = flat_map line_text lines ++ spelled (Refused number reason); status = status.Refused },
  outcome_with line_text first it start left lines (record { lines = []; refusal = refusal_at number (Some reason) }) behind (refused_left it next left later number reason step),
  prefix-behind before middle after (flat_map line_text lines) (spelled (Refused number reason)) so_far refuses,
)
writes_refusal line_text first it next start left later old new before middle after lines number reason status.Ok behind step so_far refuses = absurd refuses
writes_refusal line_text first it next start left later old new before middle after lines number reason status.Usage behind step so_far refuses = absurd refuses
writes_refusal line_text first it next start left later old new before middle after lines number reason status.ReadFault behind step so_far refuses = absurd refuses
writes_refusal line_text first it next start left later old new before middle after lines number reason status.Broken behind step so_far refuses = absurd refuses

-- ---- The loop

pub first_written : (line_text : ReportLine → List ℕ) (first : Place) (start before : Option (List ℕ)) → first.reader.last ≡ TextAnswer → WrittenSoFar line_text first start first start before before
first_written line_text first None before last = record { lines = []; behind = tt; written = Appends-nil before; last = last }
first_written line_text first (Some bytes) before last = record { lines = []; behind = refl; written = Appends-nil before; last = last }

pub next_written : (line_text : ReportLine → List ℕ) (first old new : Place) (start now left before middle after : Option (List ℕ)) (line : ReportLine) → WrittenSoFar line_text first start old now before middle → IsStep old new now left (Line line) → StepsOn old new line → Appends middle after (line_text line) → WrittenSoFar line_text first start new left before after
next_written line_text first old new start now left before middle after line so_far step steps more = record {
  lines = so_far.lines ++ line ∷ [];
  behind = left_next (lines_left first) start now left so_far.lines line old new so_far.behind step;
  written = written_next line_text before middle after so_far.lines line so_far.written more;
  last = steps.last;
}

pub fewer_left : (old new : Place) (line : ReportLine) → StepsOn old new line → 4294967296 - new.number < 4294967296 - old.number
fewer_left old new line steps = let few = steps.few in let next = steps.number in omega arith
