-- A text is read as a line of a script exactly where it is the line's text.
use Rattle.std.proofs.Common.{◌≡◌, ℕ, ◌^◌, ◌<◌, ◌≤◌, Bool, true, false, cond, bytes_eq, List, [], ◌∷◌, ◌++◌, codes, Result, Ok, Err, refl, sym, ap, ◌∙◌, subst, arith, append_assoc}
use Rattle.std.specs.Fmt.{decimal}
use Rattle.std.specs.List.{join_with_byte}
use Rattle.std.proofs.lemmas.Slice.Eq.{bytes_eq-Decides}
use Rattle.hex.specs.Hex.{encode_lower}
use Rattle.command_words.specs.Geometry.{Shape, lines_of}
use Rattle.command_words.specs.Words.{words_of}
use Rattle.command_words.specs.declared.command.Command.{Command}
use Rattle.ondie_ecc.specs.Bits.{IsBytes}
use Rattle.ddr_text.specs.AcceptedReport.{ReportLines}
use Rattle.ddr_text.specs.Grammar.{fields_of, number_of, below, one_field, three_fields}
use Rattle.ddr_text.specs.ReportGrammar.{end_line_of, issued_line_of, lower_bytes_of, report_line_of, report_line_of_fields}
use Rattle.ddr_text.specs.Spelling.{report_text, spaced_words}
use Rattle.ddr_text.specs.declared.lines.LineFault.{LineFault}
use Rattle.ddr_text.specs.declared.lines.ReportLine.{ReportLine}
use Rattle.ddr_text.specs.declared.lines.ReportLine.TheVariants.{Issued as IssuedLine, Value, Flip as FlipLine, Stat, End as EndLine, Refused}
use Rattle.ddr_text.proofs.LowerHex.{lower-in, lower-Ok}
use Rattle.ddr_text.proofs.Numerals.{number-decimal, decimal-number}
use Rattle.ddr_text.proofs.Parts.{field-last, field-next, fields-joined, unspaced-decimal, unspaced-lower}
use Rattle.ddr_text.proofs.Steps.{same-Ok, bind-Ok, below-Ok, below-in, one-Ok, three-Ok}
use Rattle.device_exec.specs.ScriptGrammar.{IsScriptLine, ScriptLines, bytes_line_of, flip_line_of, of_report, script_line_of, script_line_of_fields, script_text}
use Rattle.device_exec.specs.declared.script_line.ScriptLine.{ScriptLine}
use Rattle.device_exec.specs.declared.script_line.ScriptLine.TheVariants.{Issued, Bytes, Flip, End}

-- ---- What a letter leads to

is_issued : (g : Shape) (devices : ℕ) (rest : List ℕ) → script_line_of g devices (67 ∷ 32 ∷ rest) ≡ of_report (report_line_of g (67 ∷ 32 ∷ rest))
unfolding fields_of report_line_of report_line_of_fields script_line_of script_line_of_fields
is_issued g devices rest = refl

is_end : (g : Shape) (devices : ℕ) (rest : List ℕ) → script_line_of g devices (69 ∷ 32 ∷ rest) ≡ of_report (report_line_of g (69 ∷ 32 ∷ rest))
unfolding fields_of report_line_of report_line_of_fields script_line_of script_line_of_fields
is_end g devices rest = refl

is_bytes : (g : Shape) (devices : ℕ) (rest : List ℕ) → script_line_of g devices (66 ∷ 32 ∷ rest) ≡ bytes_line_of (fields_of rest)
unfolding fields_of script_line_of script_line_of_fields
is_bytes g devices rest = refl

is_flip : (g : Shape) (devices : ℕ) (rest : List ℕ) → script_line_of g devices (70 ∷ 32 ∷ rest) ≡ flip_line_of g devices (fields_of rest)
unfolding fields_of script_line_of script_line_of_fields
is_flip g devices rest = refl

-- ---- What is spelled is read

bytes_in : (bytes : List ℕ) → IsBytes 64 bytes → bytes_line_of (encode_lower bytes ∷ []) ≡ Ok (Bytes bytes)
unfolding bytes_line_of
bytes_in bytes b = rw (lower-in 64 bytes b.counted b.small) refl

flip_in : (g : Shape) (devices line device bit : ℕ) → lines_of g ≤ 2 ^ 64 → devices ≤ 2 ^ 64 → line < lines_of g → device < devices → bit < 136 → flip_line_of g devices (decimal line ∷ decimal device ∷ decimal bit ∷ []) ≡ Ok (Flip line device bit)
unfolding flip_line_of
flip_in g devices line device bit small few h d b =
    rw (number-decimal line (omega arith), number-decimal device (omega arith), number-decimal bit (omega arith), below-in (lines_of g) line h, below-in devices device d, below-in 136 bit b) refl

issued_text : (clock : ℕ) (command : Command) → report_text (IssuedLine clock command) ≡ 67 ∷ 32 ∷ (decimal clock ++ spaced_words (words_of command))
unfolding report_text
issued_text clock command = refl

end_text : (clock : ℕ) → report_text (EndLine clock) ≡ 69 ∷ 32 ∷ decimal clock
unfolding report_text
end_text clock = refl

reads : ReportLines → (g : Shape) (devices : ℕ) (line : ScriptLine) → lines_of g ≤ 2 ^ 64 → devices ≤ 2 ^ 64 → IsScriptLine g devices line → script_line_of g devices (script_text line) ≡ Ok line
unfolding script_text
reads law g devices (Issued clock command) small few h =
    let rest : List ℕ = decimal clock ++ spaced_words (words_of command) in
    ap (script_line_of g devices) (issued_text clock command) ∙ is_issued g devices rest
    ∙ ap (λ text. of_report (report_line_of g text)) (sym (issued_text clock command))
    ∙ ap of_report (law.reads g (IssuedLine clock command) small h)
reads law g devices (Bytes bytes) small few h =
    is_bytes g devices (encode_lower bytes) ∙ ap bytes_line_of (field-last (encode_lower bytes) (unspaced-lower bytes h.small)) ∙ bytes_in bytes h
reads law g devices (Flip line device bit) small few h =
    let a : List ℕ = decimal line in
    let b : List ℕ = decimal device in
    let d : List ℕ = decimal bit in
    is_flip g devices ((a ++ 32 ∷ b) ++ 32 ∷ d)
    ∙ ap (λ l. flip_line_of g devices (fields_of l)) (append_assoc a (32 ∷ b) (32 ∷ d))
    ∙ ap (flip_line_of g devices)
    (field-next a (b ++ 32 ∷ d) (unspaced-decimal line (omega (arith, h.0)))
    ∙ ap (λ l. a ∷ l) (field-next b d (unspaced-decimal device (omega (arith, h.1))) ∙ ap (λ l. b ∷ l) (field-last d (unspaced-decimal bit (omega (arith, h.2))))))
    ∙ flip_in g devices line device bit small few h.0 h.1 h.2
reads law g devices (End clock) small few h =
    ap (script_line_of g devices) (end_text clock) ∙ is_end g devices (decimal clock)
    ∙ ap (λ text. of_report (report_line_of g text)) (sym (end_text clock))
    ∙ ap of_report (law.reads g (EndLine clock) small h)

-- ---- What is read is spelled so

abbrev Found : Shape → ℕ → List ℕ → ScriptLine → Type 0
Found g devices text line = IsScriptLine g devices line × (text ≡ script_text line)

report_only : ReportLines → (g : Shape) (devices : ℕ) (text : List ℕ) (r : Result ReportLine LineFault) (line : ScriptLine) → report_line_of g text ≡ r → of_report r ≡ Ok line → Found g devices text line
unfolding script_text
report_only law g devices text (Ok (IssuedLine clock command)) line e h =
    let own : ScriptLine = Issued clock command in
    let same : own ≡ line = cc in
    subst (Found g devices text) same (law.only g text (IssuedLine clock command) e)
report_only law g devices text (Ok (EndLine clock)) line e h =
    let own : ScriptLine = End clock in
    let same : own ≡ line = cc in
    subst (Found g devices text) same (law.only g text (EndLine clock) e)
report_only law g devices text (Ok (Value number at bytes state)) line e h = absurd cc
report_only law g devices text (Ok (FlipLine clock at device bit)) line e h = absurd cc
report_only law g devices text (Ok (Stat name number)) line e h = absurd cc
report_only law g devices text (Ok (Refused number reason)) line e h = absurd cc
report_only law g devices text (Err fault) line e h = absurd cc

bytes_only : (g : Shape) (devices : ℕ) (text : List ℕ) (fields : List (List ℕ)) (line : ScriptLine) → text ≡ join_with_byte 32 (codes "B" ∷ fields) → bytes_line_of fields ≡ Ok line → Found g devices text line
unfolding bytes_line_of script_text
bytes_only g devices text fields line e h =
    let a = bind-Ok (one_field fields) _ line h in
    let b = bind-Ok (lower_bytes_of 64 a.0) _ line a.2 in
    let same : Bytes b.0 ≡ line = same-Ok _ _ b.2 in
    let found = lower-Ok 64 a.0 b.0 b.1 in
    subst (Found g devices text) same (
      record { counted = found.long; small = found.in_range },
      e ∙ ap (λ l. join_with_byte 32 (codes "B" ∷ l)) (one-Ok fields a.0 a.1 ∙ ap (λ x. x ∷ []) found.digits),
    )

flip_only : (g : Shape) (devices : ℕ) (text : List ℕ) (fields : List (List ℕ)) (line : ScriptLine) → text ≡ join_with_byte 32 (codes "F" ∷ fields) → flip_line_of g devices fields ≡ Ok line → Found g devices text line
unfolding flip_line_of script_text
flip_only g devices text fields line e h =
    let a = bind-Ok (three_fields fields) _ line h in
    let b = bind-Ok (number_of a.0.0) _ line a.2 in
    let d = bind-Ok (number_of a.0.1) _ line b.2 in
    let x = bind-Ok (number_of a.0.2) _ line d.2 in
    let lines = bind-Ok (below (lines_of g) b.0) _ line x.2 in
    let own = bind-Ok (below devices d.0) _ line lines.2 in
    let bits = bind-Ok (below 136 x.0) _ line own.2 in
    let same : Flip lines.0 own.0 bits.0 ≡ line = same-Ok _ _ bits.2 in
    let p = below-Ok (lines_of g) b.0 lines.0 lines.1 in
    let q = below-Ok devices d.0 own.0 own.1 in
    let r = below-Ok 136 x.0 bits.0 bits.1 in
    let first = (decimal-number a.0.0 b.0 b.1).1 ∙ ap decimal p.1 in
    let second = (decimal-number a.0.1 d.0 d.1).1 ∙ ap decimal q.1 in
    let third = (decimal-number a.0.2 x.0 x.1).1 ∙ ap decimal r.1 in
    subst (Found g devices text) same (
      (subst (λ n. n < lines_of g) p.1 p.0, subst (λ n. n < devices) q.1 q.0, subst (λ n. n < 136) r.1 r.0),
      e ∙ ap (λ l. join_with_byte 32 (codes "F" ∷ l)) (three-Ok fields a.0 a.1
          ∙ ap (λ x. x ∷ a.0.1 ∷ a.0.2 ∷ []) first ∙ ap (λ x. decimal lines.0 ∷ x ∷ a.0.2 ∷ []) second ∙ ap (λ x. decimal lines.0 ∷ decimal own.0 ∷ x ∷ []) third)
          ∙ ap (λ l. 70 ∷ 32 ∷ l) (sym (append_assoc (decimal lines.0) (32 ∷ decimal own.0) (32 ∷ decimal bits.0))),
    )

-- what the letters C and E lead to in a report
report_c : (g : Shape) (fields : List (List ℕ)) (byte : ℕ) (bytes : List ℕ) → fields_of (byte ∷ bytes) ≡ codes "C" ∷ fields → report_line_of g (byte ∷ bytes) ≡ issued_line_of g fields
unfolding report_line_of report_line_of_fields
report_c g fields byte bytes e = rw e refl

report_e : (g : Shape) (fields : List (List ℕ)) (byte : ℕ) (bytes : List ℕ) → fields_of (byte ∷ bytes) ≡ codes "E" ∷ fields → report_line_of g (byte ∷ bytes) ≡ end_line_of fields
unfolding report_line_of report_line_of_fields
report_e g fields byte bytes e = rw e refl

-- one step of the choice by the letter
by_letter : (P : Type 0) (letter name : List ℕ) (fields parts : List (List ℕ)) (line : ScriptLine) (taken other : Result ScriptLine LineFault) → parts ≡ letter ∷ fields → (parts ≡ name ∷ fields → taken ≡ Ok line → P) → (other ≡ Ok line → P) → (b : Bool) → bytes_eq letter name ≡ b → cond b taken other ≡ Ok line → P
by_letter P letter name fields parts line taken other e f k true is h = f (e ∙ ap (λ l. l ∷ fields) ((bytes_eq-Decides letter name).0 is)) h
by_letter P letter name fields parts line taken other e f k false is h = k h

fields_only : ReportLines → (g : Shape) (devices byte : ℕ) (bytes : List ℕ) (parts : List (List ℕ)) (line : ScriptLine) → fields_of (byte ∷ bytes) ≡ parts → script_line_of_fields g devices parts ≡ Ok line → Found g devices (byte ∷ bytes) line
unfolding script_line_of_fields
fields_only law g devices byte bytes [] line e h = cc h
fields_only law g devices byte bytes (letter ∷ fields) line e h =
    let P = Found g devices (byte ∷ bytes) line in
    by_letter P letter (codes "C") fields (fields_of (byte ∷ bytes)) line _ _ e (λ s. report_only law g devices (byte ∷ bytes) (issued_line_of g fields) line (report_c g fields byte bytes s))
    (by_letter P letter (codes "B") fields (fields_of (byte ∷ bytes)) line _ _ e (λ s. bytes_only g devices (byte ∷ bytes) fields line (fields-joined (byte ∷ bytes) (codes "B" ∷ fields) s))
    (by_letter P letter (codes "F") fields (fields_of (byte ∷ bytes)) line _ _ e (λ s. flip_only g devices (byte ∷ bytes) fields line (fields-joined (byte ∷ bytes) (codes "F" ∷ fields) s))
    (by_letter P letter (codes "E") fields (fields_of (byte ∷ bytes)) line _ _ e (λ s. report_only law g devices (byte ∷ bytes) (end_line_of fields) line (report_e g fields byte bytes s))
    (λ k. cc k) _ refl) _ refl) _ refl) _ refl h

only : ReportLines → (g : Shape) (devices : ℕ) (text : List ℕ) (line : ScriptLine) → script_line_of g devices text ≡ Ok line → Found g devices text line
unfolding script_line_of
only law g devices [] line h = cc h
only law g devices (byte ∷ bytes) line h = fields_only law g devices byte bytes (fields_of (byte ∷ bytes)) line refl h

pub script_grammar : ReportLines → ScriptLines
script_grammar law = record { reads = reads law; only = only law }
