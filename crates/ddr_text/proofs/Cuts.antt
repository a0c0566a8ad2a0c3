-- The first field of a text, and the fields after it.
use Rattle.std.proofs.Common.{◌≡◌, ℕ, suc, ◌+◌, ◌-◌, ◌<◌, ◌≤◌, Bool, true, false, cond, not, ltb, List, [], ◌∷◌, length, take, drop, Some, None, Err, position, refl, sym, ap, ◌∙◌, arith, length-drop}
use Rattle.std.proofs.lemmas.Bool.{ltb-true, ltb-false}
use Rattle.std.proofs.lemmas.List.{take_all}
use Rattle.std.proofs.lemmas.List.Splits.{length-slice_split, slice_split-cons_no, slice_split_first}
use Rattle.std.proofs.lemmas.Option.{cond_some}
use Rattle.std.specs.List.{slice_split, onto_first, position_or_len}
use Rattle.ddr_text.specs.Grammar.{is_space, fields_of, one_field}
use Rattle.ddr_text.specs.declared.lines.LineFault.TheVariants.{Fields}
use Rattle.ddr_text.specs.ReportGrammar.{optional_field}

-- a space is found
pub cut_found : (text : List ℕ) (at : ℕ) → position is_space text ≡ Some at → fields_of text ≡ take at text ∷ fields_of (take (length text - (at + 1)) (drop (at + 1) text))
unfolding fields_of
cut_found text at h =
    let found = cond_some (ltb (position_or_len is_space text) (length text)) _ at h in
    let within : position_or_len is_space text < length text = ltb-true _ _ found.0 in
    let same : position_or_len is_space text ≡ at = found.1 in
    slice_split_first is_space text 0 within
    ∙ ap (λ (k : ℕ). take k text ∷ slice_split is_space (drop (k + 1) text)) same
    ∙ ap (λ l. take at text ∷ slice_split is_space l) (sym (take_all (length text - (at + 1)) (drop (at + 1) text) (omega (arith, length-drop (at + 1) text))))

some-or-none : (b : Bool) (n : ℕ) → cond b (Some n) None ≡ None → b ≡ false
some-or-none true n h = cc h
some-or-none false n h = refl

-- where the whole list is before the first place, it is one part
one_part : (text : List ℕ) → length text ≤ position_or_len is_space text → slice_split is_space text ≡ text ∷ []
one_part [] h = refl
one_part (byte ∷ bytes) h =
    let go : (b : Bool) → is_space byte ≡ b → suc (length bytes) ≤ cond (not b) (1 + position_or_len is_space bytes) 0 → slice_split is_space (byte ∷ bytes) ≡ (byte ∷ bytes) ∷ [] =
    λ b. elim b as (λ b. is_space byte ≡ b → suc (length bytes) ≤ cond (not b) (1 + position_or_len is_space bytes) 0 → slice_split is_space (byte ∷ bytes) ≡ (byte ∷ bytes) ∷ []) [
      | true ↦ λ e l. absurd (omega arith)
      | false ↦ λ e l. slice_split-cons_no is_space byte bytes e ∙ ap (onto_first byte) (one_part bytes (omega arith))
    ] in
    go (is_space byte) refl h

-- no space is found
pub cut_none : (text : List ℕ) → position is_space text ≡ None → fields_of text ≡ text ∷ []
unfolding fields_of
cut_none text h =
    one_part text (ltb-false _ _ (some-or-none (ltb (position_or_len is_space text) (length text)) _ h))

more-fields : (first : List ℕ) (fields : List (List ℕ)) → 0 < length fields → one_field (first ∷ fields) ≡ Err Fields
more-fields first [] h = absurd (omega arith)
more-fields first (second ∷ more) h = refl

-- a field with a text after it is not the one field
pub not-one : (first text : List ℕ) → one_field (first ∷ fields_of text) ≡ Err Fields
unfolding fields_of
not-one first text = more-fields first (slice_split is_space text) (omega (arith, length-slice_split is_space text))

more-than-one : (first : List ℕ) (fields : List (List ℕ)) → 0 < length fields → optional_field (first ∷ fields) ≡ Err Fields
more-than-one first [] h = absurd (omega arith)
more-than-one first (second ∷ more) h = refl

-- nor is it one field or none
pub not-optional : (first text : List ℕ) → optional_field (first ∷ fields_of text) ≡ Err Fields
unfolding fields_of
not-optional first text = more-than-one first (slice_split is_space text) (omega (arith, length-slice_split is_space text))
