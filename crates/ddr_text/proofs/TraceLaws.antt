-- A text is read as a line exactly where it spells it.
use Rattle.std.proofs.Common.{◌≡◌, ℕ, ◌^◌, ◌<◌, ◌≤◌, Bool, true, false, cond, bytes_eq, List, [], ◌∷◌, ◌++◌, codes, Result, Ok, refl, sym, ap, ◌∙◌, subst, arith, append_assoc}
use Rattle.std.specs.Fmt.{decimal}
use Rattle.std.specs.List.{join_with_byte}
use Rattle.std.proofs.lemmas.Slice.Eq.{bytes_eq-Decides}
use Rattle.hex.specs.Hex.{decode_sized}
use Rattle.command_words.specs.Geometry.{Shape, lines_of}
use Rattle.ddr_text.specs.declared.lines.TraceLine.{TraceLine}
use Rattle.ddr_text.specs.declared.lines.TraceLine.TheVariants.{Read, Write, Flip, Idle}
use Rattle.ddr_text.specs.declared.lines.LineFault.{LineFault}
use Rattle.ddr_text.specs.Grammar.{fields_of, number_of, bytes_of, below, one_field, two_fields, three_fields, read_line_of, write_line_of, flip_line_of, idle_line_of, line_of_fields, trace_line_of}
use Rattle.ddr_text.specs.Accepted.{IsTraceLine, SpellsTraceLine, TraceGrammar}
use Rattle.ddr_text.proofs.Numerals.{number-decimal, decimal-number}
use Rattle.ddr_text.proofs.Parts.{field-last, field-next, fields-joined, unspaced-decimal, unspaced-hex}
use Rattle.ddr_text.proofs.Steps.{same-Ok, bind-Ok, below-Ok, below-in, one-Ok, two-Ok, three-Ok, bytes-Ok, bytes-in}

-- ---- what spells a line is read

read-in : (g : Shape) (line : ℕ) → lines_of g ≤ 2 ^ 64 → line < lines_of g → read_line_of g (decimal line ∷ []) ≡ Ok (Read line)
unfolding read_line_of
read-in g line small h = rw (number-decimal line (omega arith), below-in (lines_of g) line h) refl

write-in : (g : Shape) (line : ℕ) (hex bytes : List ℕ) → lines_of g ≤ 2 ^ 64 → line < lines_of g → decode_sized hex 64 ≡ Ok bytes → write_line_of g (decimal line ∷ hex ∷ []) ≡ Ok (Write line bytes)
unfolding write_line_of
write-in g line hex bytes small h e = rw (number-decimal line (omega arith), below-in (lines_of g) line h, bytes-in hex bytes e) refl

flip-in : (g : Shape) (line device bit : ℕ) → lines_of g ≤ 2 ^ 64 → line < lines_of g → device < 4 → bit < 136 → flip_line_of g (decimal line ∷ decimal device ∷ decimal bit ∷ []) ≡ Ok (Flip line device bit)
unfolding flip_line_of
flip-in g line device bit small h d b =
    rw (number-decimal line (omega arith), number-decimal device (omega arith), number-decimal bit (omega arith), below-in (lines_of g) line h, below-in 4 device d, below-in 136 bit b) refl

idle-in : (clocks : ℕ) → clocks ≤ 4294967296 → idle_line_of (decimal clocks ∷ []) ≡ Ok (Idle clocks)
unfolding idle_line_of
idle-in clocks h = rw (number-decimal clocks (omega arith), below-in 4294967297 clocks (omega arith)) refl

-- what a letter leads to
is-read : (g : Shape) (rest : List ℕ) → trace_line_of g (82 ∷ 32 ∷ rest) ≡ read_line_of g (fields_of rest)
unfolding fields_of line_of_fields trace_line_of
is-read g rest = refl

is-write : (g : Shape) (rest : List ℕ) → trace_line_of g (87 ∷ 32 ∷ rest) ≡ write_line_of g (fields_of rest)
unfolding fields_of line_of_fields trace_line_of
is-write g rest = refl

is-flip : (g : Shape) (rest : List ℕ) → trace_line_of g (70 ∷ 32 ∷ rest) ≡ flip_line_of g (fields_of rest)
unfolding fields_of line_of_fields trace_line_of
is-flip g rest = refl

is-idle : (g : Shape) (rest : List ℕ) → trace_line_of g (73 ∷ 32 ∷ rest) ≡ idle_line_of (fields_of rest)
unfolding fields_of line_of_fields trace_line_of
is-idle g rest = refl

reads : (g : Shape) (text : List ℕ) (line : TraceLine) → lines_of g ≤ 2 ^ 64 → IsTraceLine g line → SpellsTraceLine text line → trace_line_of g text ≡ Ok line
reads g text (Read line) small h e =
    ap (trace_line_of g) e ∙ is-read g (decimal line)
    ∙ ap (read_line_of g) (field-last (decimal line) (unspaced-decimal line (omega arith)))
    ∙ read-in g line small h
reads g text (Write line bytes) small h (hex, e, d) =
    ap (trace_line_of g) e ∙ is-write g (decimal line ++ 32 ∷ hex)
    ∙ ap (write_line_of g) (field-next (decimal line) hex (unspaced-decimal line (omega arith)) ∙ ap (λ l. decimal line ∷ l) (field-last hex (unspaced-hex hex bytes d)))
    ∙ write-in g line hex bytes small h d
reads g text (Flip line device bit) small h e =
    let a : List ℕ = decimal line in
    let b : List ℕ = decimal device in
    let d : List ℕ = decimal bit in
    ap (trace_line_of g) e ∙ is-flip g ((a ++ 32 ∷ b) ++ 32 ∷ d)
    ∙ ap (λ l. flip_line_of g (fields_of l)) (append_assoc a (32 ∷ b) (32 ∷ d))
    ∙ ap (flip_line_of g)
    (field-next a (b ++ 32 ∷ d) (unspaced-decimal line (omega arith))
    ∙ ap (λ l. a ∷ l) (field-next b d (unspaced-decimal device (omega arith)) ∙ ap (λ l. b ∷ l) (field-last d (unspaced-decimal bit (omega arith)))))
    ∙ flip-in g line device bit small h.0 h.1 h.2
reads g text (Idle clocks) small h e =
    ap (trace_line_of g) e ∙ is-idle g (decimal clocks)
    ∙ ap idle_line_of (field-last (decimal clocks) (unspaced-decimal clocks (omega arith)))
    ∙ idle-in clocks h

-- ---- what is read is spelled so

abbrev Found : Shape → List ℕ → TraceLine → Type 0
Found g text line = IsTraceLine g line × SpellsTraceLine text line

read-only : (g : Shape) (text : List ℕ) (fields : List (List ℕ)) (line : TraceLine) → text ≡ join_with_byte 32 (codes "R" ∷ fields) → read_line_of g fields ≡ Ok line → Found g text line
unfolding read_line_of
read-only g text fields line e h =
    let a = bind-Ok (one_field fields) _ line h in
    let b = bind-Ok (number_of a.0) _ line a.2 in
    let d = bind-Ok (below (lines_of g) b.0) _ line b.2 in
    let same : Read d.0 ≡ line = same-Ok _ _ d.2 in
    let in_range = below-Ok (lines_of g) b.0 d.0 d.1 in
    let numeral = (decimal-number a.0 b.0 b.1).1 ∙ ap decimal in_range.1 in
    subst (Found g text) same (
      subst (λ n. n < lines_of g) in_range.1 in_range.0,
      e ∙ ap (λ l. join_with_byte 32 (codes "R" ∷ l)) (one-Ok fields a.0 a.1 ∙ ap (λ x. x ∷ []) numeral),
    )

idle-only : (g : Shape) (text : List ℕ) (fields : List (List ℕ)) (line : TraceLine) → text ≡ join_with_byte 32 (codes "I" ∷ fields) → idle_line_of fields ≡ Ok line → Found g text line
unfolding idle_line_of
idle-only g text fields line e h =
    let a = bind-Ok (one_field fields) _ line h in
    let b = bind-Ok (number_of a.0) _ line a.2 in
    let d = bind-Ok (below 4294967297 b.0) _ line b.2 in
    let same : Idle d.0 ≡ line = same-Ok _ _ d.2 in
    let in_range = below-Ok 4294967297 b.0 d.0 d.1 in
    let numeral = (decimal-number a.0 b.0 b.1).1 ∙ ap decimal in_range.1 in
    let low : b.0 < 4294967297 = in_range.0 in
    let equal : b.0 ≡ d.0 = in_range.1 in
    subst (Found g text) same (
      omega arith,
      e ∙ ap (λ l. join_with_byte 32 (codes "I" ∷ l)) (one-Ok fields a.0 a.1 ∙ ap (λ x. x ∷ []) numeral),
    )

write-only : (g : Shape) (text : List ℕ) (fields : List (List ℕ)) (line : TraceLine) → text ≡ join_with_byte 32 (codes "W" ∷ fields) → write_line_of g fields ≡ Ok line → Found g text line
unfolding write_line_of
write-only g text fields line e h =
    let a = bind-Ok (two_fields fields) _ line h in
    let b = bind-Ok (number_of a.0.0) _ line a.2 in
    let d = bind-Ok (below (lines_of g) b.0) _ line b.2 in
    let x = bind-Ok (bytes_of a.0.1) _ line d.2 in
    let same : Write d.0 x.0 ≡ line = same-Ok _ _ x.2 in
    let in_range = below-Ok (lines_of g) b.0 d.0 d.1 in
    let numeral = (decimal-number a.0.0 b.0 b.1).1 ∙ ap decimal in_range.1 in
    subst (Found g text) same (
      subst (λ n. n < lines_of g) in_range.1 in_range.0,
      (a.0.1, e ∙ ap (λ l. join_with_byte 32 (codes "W" ∷ l)) (two-Ok fields a.0 a.1 ∙ ap (λ x. x ∷ a.0.1 ∷ []) numeral), bytes-Ok a.0.1 x.0 x.1),
    )

flip-only : (g : Shape) (text : List ℕ) (fields : List (List ℕ)) (line : TraceLine) → text ≡ join_with_byte 32 (codes "F" ∷ fields) → flip_line_of g fields ≡ Ok line → Found g text line
unfolding flip_line_of
flip-only g text fields line e h =
    let a = bind-Ok (three_fields fields) _ line h in
    let b = bind-Ok (number_of a.0.0) _ line a.2 in
    let d = bind-Ok (number_of a.0.1) _ line b.2 in
    let x = bind-Ok (number_of a.0.2) _ line d.2 in
    let lines = bind-Ok (below (lines_of g) b.0) _ line x.2 in
    let devices = bind-Ok (below 4 d.0) _ line lines.2 in
    let bits = bind-Ok (below 136 x.0) _ line devices.2 in
    let same : Flip lines.0 devices.0 bits.0 ≡ line = same-Ok _ _ bits.2 in
    let p = below-Ok (lines_of g) b.0 lines.0 lines.1 in
    let q = below-Ok 4 d.0 devices.0 devices.1 in
    let r = below-Ok 136 x.0 bits.0 bits.1 in
    let first = (decimal-number a.0.0 b.0 b.1).1 ∙ ap decimal p.1 in
    let second = (decimal-number a.0.1 d.0 d.1).1 ∙ ap decimal q.1 in
    let third = (decimal-number a.0.2 x.0 x.1).1 ∙ ap decimal r.1 in
    subst (Found g text) same (
      (subst (λ n. n < lines_of g) p.1 p.0, subst (λ n. n < 4) q.1 q.0, subst (λ n. n < 136) r.1 r.0),
      e ∙ ap (λ l. join_with_byte 32 (codes "F" ∷ l)) (three-Ok fields a.0 a.1
          ∙ ap (λ x. x ∷ a.0.1 ∷ a.0.2 ∷ []) first ∙ ap (λ x. decimal lines.0 ∷ x ∷ a.0.2 ∷ []) second ∙ ap (λ x. decimal lines.0 ∷ decimal devices.0 ∷ x ∷ []) third)
          ∙ ap (λ l. 70 ∷ 32 ∷ l) (sym (append_assoc (decimal lines.0) (32 ∷ decimal devices.0) (32 ∷ decimal bits.0))),
    )

-- one step of the choice by the letter
by-letter : (g : Shape) (text letter name : List ℕ) (fields : List (List ℕ)) (line : TraceLine) (taken other : Result TraceLine LineFault) → text ≡ join_with_byte 32 (letter ∷ fields) → (text ≡ join_with_byte 32 (name ∷ fields) → taken ≡ Ok line → Found g text line) → (other ≡ Ok line → Found g text line) → (b : Bool) → bytes_eq letter name ≡ b → cond b taken other ≡ Ok line → Found g text line
by-letter g text letter name fields line taken other e f k true is h =
    f (e ∙ ap (λ l. join_with_byte 32 (l ∷ fields)) ((bytes_eq-Decides letter name).0 is)) h
by-letter g text letter name fields line taken other e f k false is h = k h

fields-only : (g : Shape) (text : List ℕ) (fields : List (List ℕ)) (line : TraceLine) → text ≡ join_with_byte 32 fields → line_of_fields g fields ≡ Ok line → Found g text line
unfolding line_of_fields
fields-only g text [] line e h = cc h
fields-only g text (letter ∷ fields) line e h =
    by-letter g text letter (codes "R") fields line _ _ e (λ t. read-only g text fields line t)
    (by-letter g text letter (codes "W") fields line _ _ e (λ t. write-only g text fields line t)
    (by-letter g text letter (codes "F") fields line _ _ e (λ t. flip-only g text fields line t)
    (by-letter g text letter (codes "I") fields line _ _ e (λ t. idle-only g text fields line t)
    (λ k. cc k) _ refl) _ refl) _ refl) _ refl h

only : (g : Shape) (text : List ℕ) (line : TraceLine) → trace_line_of g text ≡ Ok line → Found g text line
unfolding trace_line_of
only g [] line h = cc h
only g (byte ∷ bytes) line h = fields-only g (byte ∷ bytes) (fields_of (byte ∷ bytes)) line (fields-joined (byte ∷ bytes) _ refl) h

pub trace_grammar : TraceGrammar
trace_grammar = record { reads = reads; only = only }
