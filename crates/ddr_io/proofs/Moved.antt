-- Bytes that go from one end to the other in several pieces.
use Rattle.std.proofs.Common.{◌≡◌, ℕ, ◌+◌, ◌-◌, List, ◌++◌, length, take, drop, refl, sym, ap, ◌∙◌, subst, arith, append_assoc, length-append, take-append-drop, drop-drop, take_at, Option}
use Rattle.std.proofs.lemmas.List.{take_rest}
use Rattle.std.specs.Io.KnownBytes.{Appends}
use Rattle.ddr_io.specs.Sink.{AppendsPrefix}

-- what was appended so far is a prefix of the whole
pub AppendsPrefix-of : (a b : Option (List ℕ)) (piece done rest : List ℕ) → piece ≡ done ++ rest → Appends a b done → AppendsPrefix a b piece
AppendsPrefix-of a b piece done rest split appended = (
  length done,
  omega (arith, ap length split, length-append done rest),
  subst (Appends a b) (sym (ap (take (length done)) split ∙ take_at done rest (length done) refl)) appended,
)

-- one more piece was taken
pub moves_front : (all done rest : List ℕ) (n : ℕ) → all ≡ done ++ rest → all ≡ (done ++ take n rest) ++ take (length rest - n) (drop n rest)
moves_front all done rest n split =
    split ∙ ap (λ l. done ++ l) (sym (take-append-drop n rest)) ∙ sym (append_assoc done (take n rest) (drop n rest)) ∙ ap (λ l. (done ++ take n rest) ++ l) (sym (take_rest rest n))

-- a front part that was copied, and what stays behind it
pub front_moved : (bytes copied rest : List ℕ) (given n : ℕ) → copied ≡ take n (drop given bytes) → length copied ≡ n
    → drop given bytes ≡ take n (copied ++ rest) ++ drop (given + n) bytes
front_moved bytes copied rest given n copy len =
    sym (take-append-drop n (drop given bytes)) ∙ ap (λ l. l ++ drop n (drop given bytes)) (sym copy ∙ sym (take_at copied rest n len)) ∙ ap (λ l. take n (copied ++ rest) ++ l) (drop-drop n given bytes)
