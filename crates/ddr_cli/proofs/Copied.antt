-- A line of a report has one text, so writing the lines of a well formed report again gives its bytes.
use Rattle.std.proofs.Common.{codes, ◌≡◌, ◌∙◌, ℕ, suc, Bool, true, false, if◌then◌else◌, List, [], ◌∷◌, ◌++◌, length, take, refl, sym, ap, append_assoc, Result, Ok, Err, Option, None, Some}
use Rattle.std.specs.List.{flat_map, slice_split, join_with_byte}
use Rattle.std.proofs.lemmas.List.Splits.{join_with_byte-slice_split}
use Rattle.command_words.specs.Geometry.{Shape}
use Rattle.ddr_text.specs.AcceptedReport.{ReportLines}
use Rattle.ddr_text.specs.Opening.{parts_of, is_feed, with_feed}
use Rattle.ddr_text.specs.ReportGrammar.{report_line_of}
use Rattle.ddr_text.specs.ReportParts.{Refusal}
use Rattle.ddr_text.specs.Spelling.{report_text, spelled}
use Rattle.ddr_text.specs.declared.lines.LineFault.{LineFault}
use Rattle.ddr_text.specs.declared.lines.ReportLine.{ReportLine}
use Rattle.ddr_text.specs.ReportReading.{Placed, in_place, stage_after, judged_line, judged_rest, behind_line, stage_behind, refusal_at, lines_in}
use Rattle.ddr_text.specs.declared.report_reader.Stage.{Stage}
use Rattle.ddr_text.proofs.ReportReading.{placed_line}
use Rattle.ddr_text.specs.Outcome.{refusal_text}
use Rattle.ddr_cli.specs.Behind.{outcome_behind}
use Rattle.ddr_cli.specs.Upgraded.{kept, kept_of}

in_place_read : (stage : Stage) (read : Result ReportLine LineFault) (found : Placed) → in_place stage read ≡ Ok found → read ≡ Ok found.line
in_place_read stage (Ok line) found e = ap Ok (placed_line line (stage_after stage line) found e)
in_place_read stage (Err fault) found e = absurd cc

judged_read : (g : Shape) (stage : Stage) (number : ℕ) (text : List ℕ) (found : Placed) → judged_line g stage number text ≡ Ok found → report_line_of g text ≡ Ok found.line
unfolding judged_line
judged_read g stage number text found e = go _ _ e
  where
    go : (t u : Bool) → (if t then Err 9 else if u then Err 7 else in_place stage (report_line_of g text)) ≡ Ok found → report_line_of g text ≡ Ok found.line
    go true u k = absurd cc
    go false true k = absurd cc
    go false false k = in_place_read stage (report_line_of g text) found k

spelled-is : (line : ReportLine) (text : List ℕ) → text ≡ report_text line → spelled line ≡ with_feed text
unfolding spelled
spelled-is line text is = ap (λ t. t ++ codes "\n") (sym is)

no_rest : (stage : Stage) (number : ℕ) (rest : List ℕ) → refusal_at number (judged_rest stage number rest) ≡ None → rest ≡ []
unfolding judged_rest
no_rest stage number [] e = refl
no_rest stage number (byte ∷ bytes) e = absurd cc

copied : ReportLines → (g : Shape) (stage : Stage) (number : ℕ) (parts : List (List ℕ)) → (lines_in g stage number parts).refusal ≡ None → flat_map spelled (lines_in g stage number parts).lines ≡ join_with_byte 10 parts
copied laws g stage number [] e = refl
copied laws g stage number (rest ∷ []) e = sym (no_rest stage number rest e)
copied laws g stage number (text ∷ next ∷ parts) e =
    go (judged_line g stage number text) refl e (λ s f. copied laws g s (suc number) (next ∷ parts) f)
  where
    go : (judged : Result Placed ℕ) → judged_line g stage number text ≡ judged
        → (behind_line number judged (lines_in g (stage_behind stage judged) (suc number) (next ∷ parts))).refusal ≡ None
        → ((s : Stage) → (lines_in g s (suc number) (next ∷ parts)).refusal ≡ None → flat_map spelled (lines_in g s (suc number) (next ∷ parts)).lines ≡ join_with_byte 10 (next ∷ parts))
        → flat_map spelled (behind_line number judged (lines_in g (stage_behind stage judged) (suc number) (next ∷ parts))).lines ≡ join_with_byte 10 (text ∷ next ∷ parts)
    go (Err reason) is f ih = absurd cc
    go (Ok found) is f ih =
        let own = (laws.only g text found.line (judged_read g stage number text found is)).1 in
        ap (λ l. l ++ flat_map spelled (lines_in g found.stage (suc number) (next ∷ parts)).lines) (spelled-is found.line text own)
        ∙ append_assoc text (10 ∷ []) (flat_map spelled (lines_in g found.stage (suc number) (next ∷ parts)).lines)
        ∙ ap (λ l. text ++ 10 ∷ l) (ih found.stage f)

pub copied-bytes : ReportLines → (g : Shape) (stage : Stage) (rest : List ℕ) → (lines_in g stage 1 (parts_of rest)).refusal ≡ None → flat_map spelled (lines_in g stage 1 (parts_of rest)).lines ≡ rest
unfolding parts_of
copied-bytes laws g stage rest e = copied laws g stage 1 (slice_split is_feed rest) e ∙ join_with_byte-slice_split 10 rest

-- also where a line is refused: the lines before it are the parts before it
copied-before : ReportLines → (g : Shape) (stage : Stage) (number : ℕ) (parts : List (List ℕ)) → flat_map spelled (lines_in g stage number parts).lines ≡ flat_map with_feed (take (length (lines_in g stage number parts).lines) parts)
copied-before laws g stage number [] = refl
copied-before laws g stage number (rest ∷ []) = refl
copied-before laws g stage number (text ∷ next ∷ parts) =
    go (judged_line g stage number text) refl (λ s. copied-before laws g s (suc number) (next ∷ parts))
  where
    go : (judged : Result Placed ℕ) → judged_line g stage number text ≡ judged
        → ((s : Stage) → flat_map spelled (lines_in g s (suc number) (next ∷ parts)).lines ≡ flat_map with_feed (take (length (lines_in g s (suc number) (next ∷ parts)).lines) (next ∷ parts)))
        → flat_map spelled (behind_line number judged (lines_in g (stage_behind stage judged) (suc number) (next ∷ parts))).lines
        ≡ flat_map with_feed (take (length (behind_line number judged (lines_in g (stage_behind stage judged) (suc number) (next ∷ parts))).lines) (text ∷ next ∷ parts))
    go (Err reason) is ih = refl
    go (Ok found) is ih =
        let own = (laws.only g text found.line (judged_read g stage number text found is)).1 in
        ap (λ l. l ++ flat_map spelled (lines_in g found.stage (suc number) (next ∷ parts)).lines) (spelled-is found.line text own)
        ∙ ap (λ l. with_feed text ++ l) (ih found.stage)

-- ---- The bytes behind an opening

-- what stays of them is what is written of their lines
pub kept-is : ReportLines → (g : Shape) (stage : Stage) (rest : List ℕ) → kept rest (lines_in g stage 1 (parts_of rest)) ≡ (outcome_behind spelled (lines_in g stage 1 (parts_of rest))).text
kept-is laws g stage rest = go (lines_in g stage 1 (parts_of rest)).refusal refl
  where
    go : (refusal : Option Refusal) → (lines_in g stage 1 (parts_of rest)).refusal ≡ refusal
        → kept_of rest (length (lines_in g stage 1 (parts_of rest)).lines) refusal ++ refusal_text refusal ≡ flat_map spelled (lines_in g stage 1 (parts_of rest)).lines ++ refusal_text refusal
    go None e = ap (λ l. l ++ []) (sym (copied-bytes laws g stage rest e))
    go (Some refusal) e = ap (λ l. l ++ refusal_text (Some refusal)) (sym (copied-before laws g stage 1 (parts_of rest)))
