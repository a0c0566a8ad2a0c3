-- A read into the buffer of a reader of lines.
use Rattle.std.proofs.Common.{◌≡◌, ℕ, ◌<◌, ◌≤◌, ◌⊎◌, inl, inr, List, [], ◌++◌, length, take, drop, refl, sym, ap, ◌∙◌, arith, append_assoc, take-append-drop, Option}
use Rattle.std.proofs.lemmas.List.{take_all, drop_all, drop-append-le, length-take-le}
use Rattle.ddr_io.proofs.Lines.{less_or_not}
use Rattle.ddr_io.specs.Source.{Gives}
use Rattle.ddr_io.specs.Reading.{Reading, Fills}
use Rattle.ddr_io.specs.declared.source.Got.{Got}
use Rattle.ddr_io.specs.declared.source.Got.TheVariants.{Bytes, End, Failed}

-- an answer without bytes leaves what is held
pub Fills-unread : (old new : Reading) (left rest : Option (List ℕ)) (got : Got) (buf : List ℕ) → ((n : ℕ) → got ≡ Bytes n → ⊥)
    → new.line ≡ [] → new.last ≡ old.last → new.held ≡ old.held → Gives left rest got buf → Fills old new left rest got
Fills-unread old new left rest (Bytes n) buf other line last held gives = absurd (other n refl)
Fills-unread old new left rest End buf other line last held gives = record { line = line; last = last; bytes = (held, gives.0, gives.1) }
Fills-unread old new left rest Failed buf other line last held gives = record { line = line; last = last; bytes = (held, gives) }

-- what stays of a buffer behind what was put into its first part
rest_behind : (left buf : List ℕ) (room : ℕ) → room ≤ length buf → drop (length left) (take room buf) ++ drop room buf ≡ drop (length (take room left)) buf
rest_behind left buf room within = go (less_or_not (length left) room)
  where
    some : length (take room buf) ≡ room
    some = length-take-le room buf within

    go : (length left < room) ⊎ (room ≤ length left) → drop (length left) (take room buf) ++ drop room buf ≡ drop (length (take room left)) buf
    go (inl short) =
        sym (drop-append-le (length left) (take room buf) (drop room buf) (omega (arith, some))) ∙ ap (drop (length left)) (take-append-drop room buf)
        ∙ ap (λ l. drop (length l) buf) (sym (take_all room left (omega arith)))
    go (inr long) = ap (λ l. l ++ drop room buf) (drop_all (length left) (take room buf) (omega (arith, some))) ∙ ap (λ k. drop k buf) (sym (length-take-le room left long))

-- what was put into the first part of a buffer stands at the front of the whole
pub filled_part : (source left buf put : List ℕ) (room n : ℕ) → room ≤ length buf → put ≡ take (length (take room buf)) source ++ drop (length source) (take room buf)
    → source ≡ left → room ≡ n → put ++ drop room buf ≡ take n left ++ drop (length (take n left)) buf
filled_part source left buf put room n within filled same is =
    let front : put ≡ take room source ++ drop (length source) (take room buf) = filled ∙ ap (λ k. take k source ++ drop (length source) (take room buf)) (length-take-le room buf within) in
    ap (λ l. l ++ drop room buf) front ∙ append_assoc (take room source) (drop (length source) (take room buf)) (drop room buf)
    ∙ ap (λ l. take room source ++ l) (rest_behind source buf room within)
    ∙ ap (λ k. take k source ++ drop (length (take k source)) buf) is ∙ ap (λ l. take n l ++ drop (length (take n l)) buf) same
