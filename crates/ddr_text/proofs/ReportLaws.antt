-- A text is read as a line of a report exactly where it is the line's text.
use Rattle.std.proofs.Common.{◌≡◌, ℕ, ◌^◌, ◌<◌, ◌≤◌, Bool, true, false, cond, bytes_eq, List, [], ◌∷◌, ◌++◌, codes, length, Option, Some, None, Result, Ok, Err, option_map, refl, sym, ap, ◌∙◌, subst, arith, append_assoc, append-nil}
use Rattle.std.specs.Fmt.{decimal}
use Rattle.std.specs.List.{join_with_byte}
use Rattle.std.proofs.lemmas.Slice.Eq.{bytes_eq-Decides}
use Rattle.hex.specs.Hex.{IsBytes, encode_lower}
use Rattle.command_words.specs.Command.{IsInRange}
use Rattle.command_words.specs.Decode.{decode_of}
use Rattle.command_words.specs.Geometry.{Shape, lines_of}
use Rattle.command_words.specs.Words.{words_of}
use Rattle.command_words.specs.declared.command.Command.{Command}
use Rattle.command_words.specs.declared.words.Words.{Words}
use Rattle.command_words.specs.declared.words.WordFault.{WordFault}
use Rattle.command_words.proofs.OwnWords.{decoded_from_spells}
use Rattle.command_words.proofs.Spelling.{spells-from_words_of}
use Rattle.ondie_ecc.specs.declared.state.ReadState.{ReadState}
use Rattle.ddr_text.specs.declared.lines.StatName.{StatName}
use Rattle.ddr_text.specs.declared.lines.ReportLine.{ReportLine}
use Rattle.ddr_text.specs.declared.lines.ReportLine.TheVariants.{Issued, Value, Flip, Stat, End, Refused}
use Rattle.ddr_text.specs.declared.lines.LineFault.{LineFault}
use Rattle.ddr_text.specs.declared.lines.LineFault.TheVariants.{Range}
use Rattle.ddr_text.specs.Spelling.{report_text, spaced_second, state_name, stat_name}
use Rattle.ddr_text.specs.Grammar.{fields_of, number_of, below, one_field, two_fields, four_fields}
use Rattle.ddr_text.specs.ReportGrammar.{clock_of, command_fields, command_of, end_line_of, flipped_line_of, has_place, in_place, issued_line_of, lower_bytes_of, optional_field, or_word, refused_line_of, report_line_of, report_line_of_fields, stat_line_of, stat_of, state_of, value_line_of, word_fields, words_in}
use Rattle.ddr_text.specs.AcceptedReport.{IsReportLine, ReportLines}
use Rattle.ddr_text.proofs.Decoded.{Narrow, decoded-Ok, first-fits, second-fits}
use Rattle.ddr_text.proofs.LowerHex.{lower-in, lower-Ok}
use Rattle.ddr_text.proofs.Names.{state-in, state-Ok, stat-in, stat-Ok, unspaced-state, unspaced-stat}
use Rattle.ddr_text.proofs.Numerals.{number-decimal, decimal-number}
use Rattle.ddr_text.proofs.Parts.{field-last, field-next, fields-joined, unspaced-decimal, unspaced-lower, unspaced-word}
use Rattle.ddr_text.proofs.Steps.{same-Ok, bind-Ok, below-Ok, below-in, one-Ok, two-Ok, four-Ok}
use Rattle.ddr_text.proofs.WordLaws.{digits_of, words-in, words-Ok}

-- ---- commands

or-word-Ok : (read : Result Command WordFault) (command : Command) → or_word read ≡ Ok command → read ≡ Ok command
or-word-Ok (Ok found) command h = ap Ok (same-Ok found command h)
or-word-Ok (Err fault) command h = cc h

command-in : (command : Command) → IsInRange command → command_of (words_of command) ≡ Ok command
unfolding command_of
command-in command h = ap or_word (decoded_from_spells command (words_of command) h (spells-from_words_of command (words_of command) refl))

command-Ok : (words : Words) (command : Command) → command_of words ≡ Ok command → (words ≡ words_of command) × IsInRange command
unfolding command_of
command-Ok words command h = decoded-Ok words command (or-word-Ok (decode_of words) command h)

rows-cond : (b : Bool) (command found : Command) → ◌≡◌ {A = Result Command LineFault} (cond b (Ok command) (Err Range)) (Ok found) → (b ≡ true) × (command ≡ found)
rows-cond true command found h = (refl, cc h)
rows-cond false command found h = cc h

rows-Ok : (g : Shape) (command found : Command) → in_place g command ≡ Ok found → (has_place g command ≡ true) × (command ≡ found)
rows-Ok g command found h = rows-cond (has_place g command) command found h

-- the fields of one word or none
abbrev listed : Option (List ℕ) → List (List ℕ)
listed None = []
listed (Some field) = field ∷ []

optional-listed : (fields : List (List ℕ)) (second : Option (List ℕ)) → optional_field fields ≡ Ok second → fields ≡ listed second
optional-listed [] second h = ap listed (same-Ok None second h)
optional-listed (a ∷ []) second h = ap listed (same-Ok (Some a) second h)
optional-listed (a ∷ b ∷ more) second h = cc h

listed-optional : (second : Option (List ℕ)) → optional_field (listed second) ≡ Ok second
listed-optional None = refl
listed-optional (Some field) = refl

word-Ok : (fields : List (List ℕ)) (p : List ℕ × Option (List ℕ)) → word_fields fields ≡ Ok p → fields ≡ p.0 ∷ listed p.1
word-Ok [] p h = cc h
word-Ok (first ∷ rest) p h =
    let step = bind-Ok (optional_field rest) _ p h in
    let same : (first, step.0) ≡ p = same-Ok _ _ step.2 in
    ap (λ l. first ∷ l) (optional-listed rest step.0 step.1) ∙ ap (λ (q : List ℕ × Option (List ℕ)). q.0 ∷ listed q.1) same

fields-Ok : (fields : List (List ℕ)) (p : List ℕ × List ℕ × Option (List ℕ)) → command_fields fields ≡ Ok p → fields ≡ p.0 ∷ p.1 ∷ listed p.2
fields-Ok [] p h = cc h
fields-Ok (clock ∷ rest) p h =
    let step = bind-Ok (word_fields rest) _ p h in
    let same : (clock, step.0.0, step.0.1) ≡ p = same-Ok _ _ step.2 in
    ap (λ l. clock ∷ l) (word-Ok rest step.0 step.1) ∙ ap (λ (q : List ℕ × List ℕ × Option (List ℕ)). q.0 ∷ q.1 ∷ listed q.2) same

-- the fields of a first word and of a second one or none
word-parts : (first : ℕ) (second : Option ℕ) → first < 65536 → Narrow second → fields_of (digits_of first ++ spaced_second second) ≡ digits_of first ∷ listed (option_map digits_of second)
word-parts first None h n = ap fields_of (append-nil (digits_of first)) ∙ field-last (digits_of first) (unspaced-word first h)
word-parts first (Some next) h n = field-next (digits_of first) (digits_of next) (unspaced-word first h) ∙ ap (λ l. digits_of first ∷ l) (field-last (digits_of next) (unspaced-word next n))

joined-words : (clock : List ℕ) (first : ℕ) (second : Option ℕ) → join_with_byte 32 (codes "C" ∷ clock ∷ digits_of first ∷ listed (option_map digits_of second)) ≡ 67 ∷ 32 ∷ (clock ++ 32 ∷ (digits_of first ++ spaced_second second))
joined-words clock first None = ap (λ l. 67 ∷ 32 ∷ (clock ++ 32 ∷ l)) (sym (append-nil (digits_of first)))
joined-words clock first (Some next) = refl

-- ---- what a letter leads to

is-issued : (g : Shape) (rest : List ℕ) → report_line_of g (67 ∷ 32 ∷ rest) ≡ issued_line_of g (fields_of rest)
unfolding fields_of report_line_of_fields report_line_of
is-issued g rest = refl

is-value : (g : Shape) (rest : List ℕ) → report_line_of g (68 ∷ 32 ∷ rest) ≡ value_line_of g (fields_of rest)
unfolding fields_of report_line_of_fields report_line_of
is-value g rest = refl

is-flipped : (g : Shape) (rest : List ℕ) → report_line_of g (70 ∷ 32 ∷ rest) ≡ flipped_line_of g (fields_of rest)
unfolding fields_of report_line_of_fields report_line_of
is-flipped g rest = refl

is-stat : (g : Shape) (rest : List ℕ) → report_line_of g (83 ∷ 32 ∷ rest) ≡ stat_line_of (fields_of rest)
unfolding fields_of report_line_of_fields report_line_of
is-stat g rest = refl

is-end : (g : Shape) (rest : List ℕ) → report_line_of g (69 ∷ 32 ∷ rest) ≡ end_line_of (fields_of rest)
unfolding fields_of report_line_of_fields report_line_of
is-end g rest = refl

is-refused : (g : Shape) (rest : List ℕ) → report_line_of g (88 ∷ 32 ∷ rest) ≡ refused_line_of (fields_of rest)
unfolding fields_of report_line_of_fields report_line_of
is-refused g rest = refl

-- ---- what is written is read

issued-in : (g : Shape) (clock : ℕ) (command : Command) → clock < 2 ^ 48 → IsInRange command → has_place g command ≡ true → issued_line_of g (decimal clock ∷ digits_of (words_of command).first ∷ listed (option_map digits_of (words_of command).second)) ≡ Ok (Issued clock command)
unfolding issued_line_of
issued-in g clock command h r held =
    let words : Words = words_of command in
    let second : Option (List ℕ) = option_map digits_of words.second in
    rw (
      listed-optional second,
      number-decimal clock (omega arith),
      below-in (2 ^ 48) clock h,
      words-in words.first words.second (first-fits command r) (second-fits command r),
      command-in command r,
      held,
    ) refl

value-in : (g : Shape) (number line : ℕ) (bytes : List ℕ) (state : ReadState) → lines_of g ≤ 2 ^ 64 → number < 2 ^ 64 → line < lines_of g → length bytes ≡ 64 → IsBytes bytes → value_line_of g (decimal number ∷ decimal line ∷ encode_lower bytes ∷ state_name state ∷ []) ≡ Ok (Value number line bytes state)
unfolding value_line_of
value-in g number line bytes state small n h l b =
    rw (state-in state, number-decimal number n, number-decimal line (omega arith), below-in (lines_of g) line h, lower-in 64 bytes l b) refl

flipped-in : (g : Shape) (clock line device bit : ℕ) → lines_of g ≤ 2 ^ 64 → clock < 2 ^ 48 → line < lines_of g → device < 4 → bit < 136 → flipped_line_of g (decimal clock ∷ decimal line ∷ decimal device ∷ decimal bit ∷ []) ≡ Ok (Flip clock line device bit)
unfolding flipped_line_of
flipped-in g clock line device bit small k h d b =
    rw (
      number-decimal clock (omega arith),
      number-decimal line (omega arith),
      number-decimal device (omega arith),
      number-decimal bit (omega arith),
      below-in (2 ^ 48) clock k,
      below-in (lines_of g) line h,
      below-in 4 device d,
      below-in 136 bit b,
    ) refl

stat-line-in : (name : StatName) (number : ℕ) → number < 2 ^ 64 → stat_line_of (stat_name name ∷ decimal number ∷ []) ≡ Ok (Stat name number)
unfolding stat_line_of
stat-line-in name number h = rw (stat-in name, number-decimal number h) refl

end-in : (clock : ℕ) → clock < 2 ^ 48 → end_line_of (decimal clock ∷ []) ≡ Ok (End clock)
unfolding end_line_of
end-in clock h = rw (number-decimal clock (omega arith), below-in (2 ^ 48) clock h) refl

refused-in : (line reason : ℕ) → line < 2 ^ 64 → reason < 256 → refused_line_of (decimal line ∷ decimal reason ∷ []) ≡ Ok (Refused line reason)
unfolding refused_line_of
refused-in line reason h k = rw (number-decimal line h, number-decimal reason (omega arith), below-in 256 reason k) refl

reads : (g : Shape) (line : ReportLine) → lines_of g ≤ 2 ^ 64 → IsReportLine g line → report_line_of g (report_text line) ≡ Ok line
unfolding report_text
reads g (Issued clock command) small h =
    let words : Words = words_of command in
    is-issued g (decimal clock ++ 32 ∷ (digits_of words.first ++ spaced_second words.second))
    ∙ ap (issued_line_of g)
    (field-next (decimal clock) (digits_of words.first ++ spaced_second words.second) (unspaced-decimal clock (omega (arith, h.0)))
    ∙ ap (λ l. decimal clock ∷ l) (word-parts words.first words.second (first-fits command h.1) (second-fits command h.1)))
    ∙ issued-in g clock command h.0 h.1 h.2
reads g (Value number line bytes state) small h =
    let a : List ℕ = decimal number in
    let b : List ℕ = decimal line in
    let x : List ℕ = encode_lower bytes in
    let y : List ℕ = state_name state in
    is-value g (((a ++ 32 ∷ b) ++ 32 ∷ x) ++ 32 ∷ y)
    ∙ ap (λ l. value_line_of g (fields_of l)) (append_assoc (a ++ 32 ∷ b) (32 ∷ x) (32 ∷ y) ∙ append_assoc a (32 ∷ b) (32 ∷ (x ++ 32 ∷ y)))
    ∙ ap (value_line_of g)
    (field-next a (b ++ 32 ∷ (x ++ 32 ∷ y)) (unspaced-decimal number h.0)
    ∙ ap (λ l. a ∷ l) (field-next b (x ++ 32 ∷ y) (unspaced-decimal line (omega (arith, h.1)))
    ∙ ap (λ l. b ∷ l) (field-next x y (unspaced-lower bytes h.3)
    ∙ ap (λ l. x ∷ l) (field-last y (unspaced-state state)))))
    ∙ value-in g number line bytes state small h.0 h.1 h.2 h.3
reads g (Flip clock line device bit) small h =
    let a : List ℕ = decimal clock in
    let b : List ℕ = decimal line in
    let x : List ℕ = decimal device in
    let y : List ℕ = decimal bit in
    is-flipped g (((a ++ 32 ∷ b) ++ 32 ∷ x) ++ 32 ∷ y)
    ∙ ap (λ l. flipped_line_of g (fields_of l)) (append_assoc (a ++ 32 ∷ b) (32 ∷ x) (32 ∷ y) ∙ append_assoc a (32 ∷ b) (32 ∷ (x ++ 32 ∷ y)))
    ∙ ap (flipped_line_of g)
    (field-next a (b ++ 32 ∷ (x ++ 32 ∷ y)) (unspaced-decimal clock (omega (arith, h.0)))
    ∙ ap (λ l. a ∷ l) (field-next b (x ++ 32 ∷ y) (unspaced-decimal line (omega (arith, h.1)))
    ∙ ap (λ l. b ∷ l) (field-next x y (unspaced-decimal device (omega (arith, h.2)))
    ∙ ap (λ l. x ∷ l) (field-last y (unspaced-decimal bit (omega (arith, h.3)))))))
    ∙ flipped-in g clock line device bit small h.0 h.1 h.2 h.3
reads g (Stat name number) small h =
    is-stat g (stat_name name ++ 32 ∷ decimal number)
    ∙ ap stat_line_of (field-next (stat_name name) (decimal number) (unspaced-stat name) ∙ ap (λ l. stat_name name ∷ l) (field-last (decimal number) (unspaced-decimal number h)))
    ∙ stat-line-in name number h
reads g (End clock) small h =
    is-end g (decimal clock) ∙ ap end_line_of (field-last (decimal clock) (unspaced-decimal clock (omega arith))) ∙ end-in clock h
reads g (Refused line reason) small h =
    is-refused g (decimal line ++ 32 ∷ decimal reason)
    ∙ ap refused_line_of (field-next (decimal line) (decimal reason) (unspaced-decimal line h.0) ∙ ap (λ l. decimal line ∷ l) (field-last (decimal reason) (unspaced-decimal reason (omega (arith, h.1)))))
    ∙ refused-in line reason h.0 h.1

-- ---- what is read is written so

abbrev Found : Shape → List ℕ → ReportLine → Type 0
Found g text line = IsReportLine g line × (text ≡ report_text line)

issued-only : (g : Shape) (text : List ℕ) (fields : List (List ℕ)) (line : ReportLine) → text ≡ join_with_byte 32 (codes "C" ∷ fields) → issued_line_of g fields ≡ Ok line → Found g text line
unfolding issued_line_of report_text
issued-only g text fields line e h =
    let parts = bind-Ok (command_fields fields) _ line h in
    let number = bind-Ok (number_of parts.0.0) _ line parts.2 in
    let clock = bind-Ok (clock_of number.0) _ line number.2 in
    let words = bind-Ok (words_in parts.0.1 parts.0.2) _ line clock.2 in
    let command = bind-Ok (command_of words.0) _ line words.2 in
    let held = bind-Ok (in_place g command.0) _ line command.2 in
    let same : Issued clock.0 held.0 ≡ line = same-Ok _ _ held.2 in
    let low = below-Ok (2 ^ 48) number.0 clock.0 clock.1 in
    let numeral = (decimal-number parts.0.0 number.0 number.1).1 ∙ ap decimal low.1 in
    let spelled = words-Ok parts.0.1 parts.0.2 words.0 words.1 in
    let own = command-Ok words.0 command.0 command.1 in
    let row = rows-Ok g command.0 held.0 held.1 in
    let mine : words.0 ≡ words_of held.0 = own.0 ∙ ap words_of row.1 in
    subst (Found g text) same (
      (subst (λ n. n < 2 ^ 48) low.1 low.0, subst IsInRange row.1 own.1, subst (λ k. has_place g k ≡ true) row.1 row.0),
      e ∙ ap (λ l. join_with_byte 32 (codes "C" ∷ l)) (fields-Ok fields parts.0 parts.1
          ∙ ap (λ x. x ∷ parts.0.1 ∷ listed parts.0.2) numeral
          ∙ ap (λ x. decimal clock.0 ∷ x ∷ listed parts.0.2) spelled.0
          ∙ ap (λ x. decimal clock.0 ∷ digits_of words.0.first ∷ listed x) spelled.1
          ∙ ap (λ (w : Words). decimal clock.0 ∷ digits_of w.first ∷ listed (option_map digits_of w.second)) mine)
          ∙ joined-words (decimal clock.0) (words_of held.0).first (words_of held.0).second,
    )

value-only : (g : Shape) (text : List ℕ) (fields : List (List ℕ)) (line : ReportLine) → text ≡ join_with_byte 32 (codes "D" ∷ fields) → value_line_of g fields ≡ Ok line → Found g text line
unfolding value_line_of report_text
value-only g text fields line e h =
    let parts = bind-Ok (four_fields fields) _ line h in
    let state = bind-Ok (state_of parts.0.3) _ line parts.2 in
    let number = bind-Ok (number_of parts.0.0) _ line state.2 in
    let addr = bind-Ok (number_of parts.0.1) _ line number.2 in
    let at = bind-Ok (below (lines_of g) addr.0) _ line addr.2 in
    let bytes = bind-Ok (lower_bytes_of 64 parts.0.2) _ line at.2 in
    let same : Value number.0 at.0 bytes.0 state.0 ≡ line = same-Ok _ _ bytes.2 in
    let low = below-Ok (lines_of g) addr.0 at.0 at.1 in
    let a = decimal-number parts.0.0 number.0 number.1 in
    let b = (decimal-number parts.0.1 addr.0 addr.1).1 ∙ ap decimal low.1 in
    let x = lower-Ok 64 parts.0.2 bytes.0 bytes.1 in
    let y = state-Ok parts.0.3 state.0 state.1 in
    let A : List ℕ = decimal number.0 in
    let B : List ℕ = decimal at.0 in
    let X : List ℕ = encode_lower bytes.0 in
    let Y : List ℕ = state_name state.0 in
    subst (Found g text) same (
      (a.0, subst (λ n. n < lines_of g) low.1 low.0, x.long, x.in_range),
      e ∙ ap (λ l. join_with_byte 32 (codes "D" ∷ l)) (four-Ok fields parts.0 parts.1
          ∙ ap (λ k. k ∷ parts.0.1 ∷ parts.0.2 ∷ parts.0.3 ∷ []) a.1
          ∙ ap (λ k. A ∷ k ∷ parts.0.2 ∷ parts.0.3 ∷ []) b
          ∙ ap (λ k. A ∷ B ∷ k ∷ parts.0.3 ∷ []) x.digits
          ∙ ap (λ k. A ∷ B ∷ X ∷ k ∷ []) y)
          ∙ ap (λ l. 68 ∷ 32 ∷ l) (sym (append_assoc (A ++ 32 ∷ B) (32 ∷ X) (32 ∷ Y) ∙ append_assoc A (32 ∷ B) (32 ∷ (X ++ 32 ∷ Y)))),
    )

flipped-only : (g : Shape) (text : List ℕ) (fields : List (List ℕ)) (line : ReportLine) → text ≡ join_with_byte 32 (codes "F" ∷ fields) → flipped_line_of g fields ≡ Ok line → Found g text line
unfolding flipped_line_of report_text
flipped-only g text fields line e h =
    let parts = bind-Ok (four_fields fields) _ line h in
    let number = bind-Ok (number_of parts.0.0) _ line parts.2 in
    let addr = bind-Ok (number_of parts.0.1) _ line number.2 in
    let device = bind-Ok (number_of parts.0.2) _ line addr.2 in
    let bit = bind-Ok (number_of parts.0.3) _ line device.2 in
    let clock = bind-Ok (clock_of number.0) _ line bit.2 in
    let at = bind-Ok (below (lines_of g) addr.0) _ line clock.2 in
    let devices = bind-Ok (below 4 device.0) _ line at.2 in
    let bits = bind-Ok (below 136 bit.0) _ line devices.2 in
    let same : Flip clock.0 at.0 devices.0 bits.0 ≡ line = same-Ok _ _ bits.2 in
    let p = below-Ok (2 ^ 48) number.0 clock.0 clock.1 in
    let q = below-Ok (lines_of g) addr.0 at.0 at.1 in
    let r = below-Ok 4 device.0 devices.0 devices.1 in
    let s = below-Ok 136 bit.0 bits.0 bits.1 in
    let A : List ℕ = decimal clock.0 in
    let B : List ℕ = decimal at.0 in
    let X : List ℕ = decimal devices.0 in
    let Y : List ℕ = decimal bits.0 in
    subst (Found g text) same (
      (subst (λ n. n < 2 ^ 48) p.1 p.0, subst (λ n. n < lines_of g) q.1 q.0, subst (λ n. n < 4) r.1 r.0, subst (λ n. n < 136) s.1 s.0),
      e ∙ ap (λ l. join_with_byte 32 (codes "F" ∷ l)) (four-Ok fields parts.0 parts.1
          ∙ ap (λ k. k ∷ parts.0.1 ∷ parts.0.2 ∷ parts.0.3 ∷ []) ((decimal-number parts.0.0 number.0 number.1).1 ∙ ap decimal p.1)
          ∙ ap (λ k. A ∷ k ∷ parts.0.2 ∷ parts.0.3 ∷ []) ((decimal-number parts.0.1 addr.0 addr.1).1 ∙ ap decimal q.1)
          ∙ ap (λ k. A ∷ B ∷ k ∷ parts.0.3 ∷ []) ((decimal-number parts.0.2 device.0 device.1).1 ∙ ap decimal r.1)
          ∙ ap (λ k. A ∷ B ∷ X ∷ k ∷ []) ((decimal-number parts.0.3 bit.0 bit.1).1 ∙ ap decimal s.1))
          ∙ ap (λ l. 70 ∷ 32 ∷ l) (sym (append_assoc (A ++ 32 ∷ B) (32 ∷ X) (32 ∷ Y) ∙ append_assoc A (32 ∷ B) (32 ∷ (X ++ 32 ∷ Y)))),
    )

stat-only : (g : Shape) (text : List ℕ) (fields : List (List ℕ)) (line : ReportLine) → text ≡ join_with_byte 32 (codes "S" ∷ fields) → stat_line_of fields ≡ Ok line → Found g text line
unfolding stat_line_of report_text
stat-only g text fields line e h =
    let parts = bind-Ok (two_fields fields) _ line h in
    let name = bind-Ok (stat_of parts.0.0) _ line parts.2 in
    let number = bind-Ok (number_of parts.0.1) _ line name.2 in
    let same : Stat name.0 number.0 ≡ line = same-Ok _ _ number.2 in
    let a = decimal-number parts.0.1 number.0 number.1 in
    subst (Found g text) same (
      a.0,
      e ∙ ap (λ l. join_with_byte 32 (codes "S" ∷ l)) (two-Ok fields parts.0 parts.1 ∙ ap (λ k. k ∷ parts.0.1 ∷ []) (stat-Ok parts.0.0 name.0 name.1) ∙ ap (λ k. stat_name name.0 ∷ k ∷ []) a.1),
    )

end-only : (g : Shape) (text : List ℕ) (fields : List (List ℕ)) (line : ReportLine) → text ≡ join_with_byte 32 (codes "E" ∷ fields) → end_line_of fields ≡ Ok line → Found g text line
unfolding end_line_of report_text
end-only g text fields line e h =
    let field = bind-Ok (one_field fields) _ line h in
    let number = bind-Ok (number_of field.0) _ line field.2 in
    let clock = bind-Ok (clock_of number.0) _ line number.2 in
    let same : End clock.0 ≡ line = same-Ok _ _ clock.2 in
    let low = below-Ok (2 ^ 48) number.0 clock.0 clock.1 in
    subst (Found g text) same (
      subst (λ n. n < 2 ^ 48) low.1 low.0,
      e ∙ ap (λ l. join_with_byte 32 (codes "E" ∷ l)) (one-Ok fields field.0 field.1 ∙ ap (λ k. k ∷ []) ((decimal-number field.0 number.0 number.1).1 ∙ ap decimal low.1)),
    )

refused-only : (g : Shape) (text : List ℕ) (fields : List (List ℕ)) (line : ReportLine) → text ≡ join_with_byte 32 (codes "X" ∷ fields) → refused_line_of fields ≡ Ok line → Found g text line
unfolding refused_line_of report_text
refused-only g text fields line e h =
    let parts = bind-Ok (two_fields fields) _ line h in
    let first = bind-Ok (number_of parts.0.0) _ line parts.2 in
    let number = bind-Ok (number_of parts.0.1) _ line first.2 in
    let reason = bind-Ok (below 256 number.0) _ line number.2 in
    let same : Refused first.0 reason.0 ≡ line = same-Ok _ _ reason.2 in
    let low = below-Ok 256 number.0 reason.0 reason.1 in
    let a = decimal-number parts.0.0 first.0 first.1 in
    subst (Found g text) same (
      (a.0, subst (λ n. n < 256) low.1 low.0),
      e ∙ ap (λ l. join_with_byte 32 (codes "X" ∷ l)) (two-Ok fields parts.0 parts.1 ∙ ap (λ k. k ∷ parts.0.1 ∷ []) a.1 ∙ ap (λ k. decimal first.0 ∷ k ∷ []) ((decimal-number parts.0.1 number.0 number.1).1 ∙ ap decimal low.1)),
    )

-- one step of the choice by the letter
by-letter : (g : Shape) (text letter name : List ℕ) (fields : List (List ℕ)) (line : ReportLine) (taken other : Result ReportLine LineFault) → text ≡ join_with_byte 32 (letter ∷ fields) → (text ≡ join_with_byte 32 (name ∷ fields) → taken ≡ Ok line → Found g text line) → (other ≡ Ok line → Found g text line) → (b : Bool) → bytes_eq letter name ≡ b → cond b taken other ≡ Ok line → Found g text line
by-letter g text letter name fields line taken other e f k true is h =
    f (e ∙ ap (λ l. join_with_byte 32 (l ∷ fields)) ((bytes_eq-Decides letter name).0 is)) h
by-letter g text letter name fields line taken other e f k false is h = k h

fields-only : (g : Shape) (text : List ℕ) (fields : List (List ℕ)) (line : ReportLine) → text ≡ join_with_byte 32 fields → report_line_of_fields g fields ≡ Ok line → Found g text line
unfolding report_line_of_fields
fields-only g text [] line e h = cc h
fields-only g text (letter ∷ fields) line e h =
    by-letter g text letter (codes "C") fields line _ _ e (λ t. issued-only g text fields line t)
    (by-letter g text letter (codes "D") fields line _ _ e (λ t. value-only g text fields line t)
    (by-letter g text letter (codes "F") fields line _ _ e (λ t. flipped-only g text fields line t)
    (by-letter g text letter (codes "S") fields line _ _ e (λ t. stat-only g text fields line t)
    (by-letter g text letter (codes "E") fields line _ _ e (λ t. end-only g text fields line t)
    (by-letter g text letter (codes "X") fields line _ _ e (λ t. refused-only g text fields line t)
    (λ k. cc k) _ refl) _ refl) _ refl) _ refl) _ refl) _ refl h

only : (g : Shape) (text : List ℕ) (line : ReportLine) → report_line_of g text ≡ Ok line → Found g text line
unfolding report_line_of
only g [] line h = cc h
only g (byte ∷ bytes) line h = fields-only g (byte ∷ bytes) (fields_of (byte ∷ bytes)) line (fields-joined (byte ∷ bytes) _ refl) h

pub report_lines : ReportLines
report_lines = record { reads = reads; only = only }
